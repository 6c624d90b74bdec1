-- The answer to some phases.
use Rattle.std.specs.Prelude.{◌≡◌, List, [], ◌∷◌, ◌⊎◌, false, Option, Some, None, Result, Ok, Err}
use Rattle.broken_rules.specs.declared.broken.Broken.{Broken}
use Rattle.broken_rules.specs.declared.broken.ReadFault.{ReadFault}
use Rattle.broken_rules.specs.declared.broken.ReadFault.TheVariants as faults
use Rattle.broken_rules.specs.Order.{is_before, first_of}

-- b is one of bs
abbrev pub Has : List Broken → Broken → Type 0
Has [] b = ⊥
Has (c ∷ cs) b = (b ≡ c) ⊎ Has cs b

-- b is one of bs, and none of them is before it
pub record IsFirst (bs : List Broken) (b : Broken) : Type 0 where
  pub has : Has bs b
  pub least : (c : Broken) → Has bs c → is_before c b ≡ false

-- the answer to some phases in their order: none, or the first broken rule of the first phase that has any
pub data Answers : List (List Broken) → Option Broken → Type 0 where
  clean : Answers [] None
  passes : {rest : List (List Broken)} {r : Option Broken} → Answers rest r → Answers ([] ∷ rest) r
  breaks : {bs : List Broken} {rest : List (List Broken)} {b : Broken} → IsFirst bs b → Answers (bs ∷ rest) (Some b)

abbrev pub or_else : Option Broken → Option Broken → Option Broken
or_else None b = b
or_else (Some a) b = Some a

-- the answer, computed
abbrev pub first_broken : List (List Broken) → Option Broken
first_broken [] = None
first_broken (bs ∷ rest) = or_else (first_of bs) (first_broken rest)

-- what stops one phase is its first broken rule, or want of memory
abbrev pub Stops : List Broken → ReadFault → Type 0
Stops bs (faults.Broken b) = first_of bs ≡ Some b
Stops bs faults.Memory = Unit {0}

-- what one phase gives: a value where nothing is broken, and else what stops it
abbrev pub Ends : {T : Type 0} → List Broken → Result T ReadFault → Type 0
Ends bs (Ok x) = first_of bs ≡ None
Ends bs (Err e) = Stops bs e

-- what one phase gives whose first broken rule this is, if any is
abbrev pub answer_of : Option Broken → Result (Unit {0}) ReadFault
answer_of None = Ok tt
answer_of (Some b) = Err (faults.Broken b)

-- why a reader with these phases gives nothing: their answer, or want of memory
abbrev pub Refuses : List (List Broken) → ReadFault → Type 0
Refuses phases (faults.Broken b) = Answers phases (Some b)
Refuses phases faults.Memory = Unit {0}

-- what a reader with these phases gives: a value where nothing is broken, and else why not
abbrev pub Says : {T : Type 0} → List (List Broken) → Result T ReadFault → Type 0
Says phases (Ok x) = Answers phases None
Says phases (Err e) = Refuses phases e
