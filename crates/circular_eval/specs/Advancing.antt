-- What going on with a local set says.
use Rattle.std.specs.Prelude.{◌≡◌, ℕ, false, List, [], ◌∷◌, ◌++◌, Some, Result, Ok, Err, map}
use Rattle.equation_law.specs.declared.coding.Instance.{Instance as CodedInstance}
use Rattle.equation_law.specs.Checked.{IsInstance}
use Rattle.equation_law.specs.Codes.{IsCoded, Naming, instance_by, value_by}
use Rattle.equation_law.specs.Equations.{HasValue, equations_of}
use Rattle.equation_law.specs.Loops.{Chain, Leads}
use Rattle.equation_law.specs.Names.{Instance}
use Rattle.equation_law.specs.Program.{Program}
use Rattle.memo_cells.specs.declared.view.Frame.{Frame}
use Rattle.memo_cells.specs.declared.view.View.{View}
use Rattle.memo_cells.specs.Agreeing.{ByEachAgreeing, IsKnownInstance}
use Rattle.memo_cells.specs.Claiming.{FillsCells}
use Rattle.memo_cells.specs.Standing.{Knows}
use Rattle.memo_cells.specs.Views.{Has}
use Rattle.memo_cells.specs.Working.{Held, program_at}
use Rattle.circular_eval.specs.declared.advancing.CircFault.{CircFault}
use Rattle.circular_eval.specs.declared.advancing.CircFault.TheVariants.{CellsFull, Memory}
use Rattle.circular_eval.specs.declared.advancing.CircTurn.{CircTurn}
use Rattle.circular_eval.specs.declared.advancing.CircTurn.TheVariants.{Closed, Need}
use Rattle.circular_eval.specs.declared.local.Local.{Local}
use Rattle.circular_eval.specs.declared.members.Member.{Member}
use Rattle.circular_eval.specs.Local.{IsLocal}

-- each later member is led to by the one before
abbrev pub AreLed : Program → List Instance → Type 0
AreLed p [] = Unit {0}
AreLed p (i ∷ []) = Unit {0}
AreLed p (i ∷ j ∷ js) = Leads p i j × AreLed p (j ∷ js)

-- a list that begins with i and ends with n, each led to by the one before
pub record IsPath (p : Program) (i n : Instance) (path : List Instance) : Type 0 where
  pub rest : List Instance
  pub starts : path ≡ i ∷ rest
  pub front : List Instance
  pub ends : path ≡ front ++ n ∷ []
  pub led : AreLed p path

-- a list that begins with the start of a local set and ends with the instance that it needed last, each led to by the one before, by each naming by which it is one
abbrev pub IsPathIn : Local → List CodedInstance → Type 0
IsPathIn l list = (p : Program) (names : Naming) (f : Frame) (v : View) (number : ℕ) (need : CodedInstance) → IsLocal p names f v l → l.need ≡ Some (number, need) → IsPath p (instance_by p names l.start) (instance_by p names need) (map (instance_by p names) list)

-- by a naming, an instance whose value is missing: it isn't circular, a member demands it, and its cell isn't seen settled; the pass knows its nodes
pub record IsMissing (p : Program) (names : Naming) (v : View) (l : Local) (n : CodedInstance) : Type 0 where
  pub instance : IsInstance p (instance_by p names n)
  pub coded : IsCoded p n
  pub known : IsKnownInstance p v.made n
  pub undeclared : (equations_of p).circular (instance_by p names n) ≡ false
  pub unknown : ¬ Knows p v (instance_by p names n)
  pub reached : Chain p (instance_by p names l.start) (instance_by p names n)
  pub number : ℕ
  pub noted : l.need ≡ Some (number, n)

-- by each naming that agrees with what the pass knows
abbrev pub IsMissingByEach : Program → View → Local → CodedInstance → Type 0
IsMissingByEach p v l n = ByEachAgreeing p v.made (λ names. IsMissing p names v l n)

-- by a naming, the members of the set are seen sealed, the start among them, and the value of each is the one that it has in the solution
pub record IsSealed (p : Program) (names : Naming) (v : View) (l : Local) : Type 0 where
  pub start : Knows p v (instance_by p names l.start)
  pub members : (e : CodedInstance × Member) → Has l.members.entries e → Knows p v (instance_by p names e.0)
  pub values : (e : CodedInstance × Member) → Has l.members.entries e → HasValue p (instance_by p names e.0) (value_by names e.1.value)

-- where cells are wanting, other keys have all of them than some key of i, by each naming that agrees
abbrev pub AnswersFault : Program → CodedInstance → Frame → View → CircFault → Type 0
AnswersFault p i f v CellsFull = ByEachAgreeing p v.made (λ names. FillsCells p (instance_by p names i) f v)
AnswersFault p i f v Memory = Unit {0}

abbrev pub AnswersTurn : Program → Frame → View → Local → Result CircTurn CircFault → Type 0
AnswersTurn p f v l (Ok (Need n)) = IsMissingByEach p v l n
AnswersTurn p f v l (Ok Closed) = ByEachAgreeing p v.made (λ names. IsSealed p names v l)
AnswersTurn p f v l (Err fault) = AnswersFault p l.start f v fault

-- the same with what is held before and after
abbrev pub AnswersTurnAt : Held → Held → Local → Result CircTurn CircFault → Type 0
AnswersTurnAt d e l result = AnswersTurn (program_at d) d.frame e.view l result

abbrev pub AnswersFaultAt : Held → Held → CodedInstance → CircFault → Type 0
AnswersFaultAt d e i fault = AnswersFault (program_at d) i d.frame e.view fault
