-- What a caller notes of a program.
use Rattle.std.specs.Prelude.{◌≡◌, ◌⊎◌, Bool, List, Option, Some, true, Result, Ok, Err}
use Rattle.std.specs.List.{list_any}
use Rattle.std.specs.Map.{lookup}
use Rattle.equation_law.specs.contracts.coding.InstancePartialEq.TheImpl as equality
use Rattle.equation_law.specs.declared.coding.Instance.{Instance as CodedInstance}
use Rattle.equation_law.specs.declared.coding.Value.{Value as CodedValue}
use Rattle.equation_law.specs.Codes.{AreElements, IsCoded, Naming, instance_by, value_by}
use Rattle.equation_law.specs.Equations.{HasValue, kind_in}
use Rattle.equation_law.specs.Loops.{HasLoop}
use Rattle.equation_law.specs.Names.{Instance}
use Rattle.equation_law.specs.Program.{Program}
use Rattle.equation_law.specs.Values.{Value, as_kind}
use Rattle.memo_cells.specs.Agreeing.{ByEachAgreeing, IsKnownValue}
use Rattle.memo_cells.specs.Views.{Has}
use Rattle.caller_pass.specs.declared.faults.AskFault.{AskFault}
use Rattle.caller_pass.specs.declared.faults.AskFault.TheVariants.{CellsFull, Circular, Memory}

-- by a naming x is the code of the value of i in the solution, read at its type; the elements of a set are coded well
pub record IsValueOf (p : Program) (names : Naming) (i : Instance) (x : CodedValue) : Type 0 where
  pub value : Value
  pub has : HasValue p i value
  pub coded : value_by names x ≡ as_kind (kind_in p i) value
  pub elements : AreElements p x

-- so it is by each naming that agrees with these makers of an instance that is coded well; the nodes in it are known by them
abbrev pub IsNoted : Program → List CodedInstance → CodedInstance → CodedValue → Type 0
IsNoted p ms i x = IsCoded p i → ByEachAgreeing p ms (λ names. IsValueOf p names (instance_by p names i) x) × IsKnownValue ms x

-- the value that is kept of an instance, if one is
abbrev pub set_at : List (CodedInstance × CodedValue) → CodedInstance → Option CodedValue
set_at es i = lookup (equality.ghosts.eq i) es

-- each value that is kept is that of its instance
abbrev pub AreNoted : Program → List CodedInstance → List (CodedInstance × CodedValue) → Type 0
AreNoted p ms es = (i : CodedInstance) (x : CodedValue) → set_at es i ≡ Some x → IsNoted p ms i x

-- what is kept was kept before, or is this value of this instance
abbrev pub KeepsAtMost : List (CodedInstance × CodedValue) → CodedInstance → CodedValue → List (CodedInstance × CodedValue) → Type 0
KeepsAtMost old i x new = (j : CodedInstance) (y : CodedValue) → set_at new j ≡ Some y → (set_at old j ≡ Some y) ⊎ ((j ≡ i) × (y ≡ x))

-- by each naming that agrees with these makers it has a loop
abbrev pub IsLooping : Program → List CodedInstance → CodedInstance → Type 0
IsLooping p ms i = ByEachAgreeing p ms (λ names. HasLoop p (instance_by p names i))

-- whether an instance is kept
abbrev pub is_kept : List CodedInstance → CodedInstance → Bool
is_kept is i = list_any (equality.ghosts.eq i) is

-- each instance that is kept has a loop
abbrev pub AreLooping : Program → List CodedInstance → List CodedInstance → Type 0
AreLooping p ms is = (i : CodedInstance) → is_kept is i ≡ true → IsLooping p ms i

-- what is kept was kept before, or is one of these
abbrev pub KeepsAmong : List CodedInstance → List CodedInstance → List CodedInstance → Type 0
KeepsAmong old more new = (i : CodedInstance) → is_kept new i ≡ true → (is_kept old i ≡ true) ⊎ Has more i

-- where an answer is a chain, each of it has a loop
abbrev pub MayNote : Program → List CodedInstance → Result CodedValue AskFault → Type 0
MayNote p ms (Err (Circular on chain)) = (i : CodedInstance) → Has chain i → IsLooping p ms i
MayNote p ms (Err CellsFull) = Unit {0}
MayNote p ms (Err Memory) = Unit {0}
MayNote p ms (Ok x) = Unit {0}
