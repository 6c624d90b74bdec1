-- One round over a list of names, inner and outer, by what their codes stand for.
use Rattle.std.specs.Prelude.{◌≡◌, ℕ, ◌<◌, cond, List, Option, Some, None, map, length, slice_index_or}
use Rattle.std.specs.Option.{option_map}
use Rattle.solutions.specs.Asking.{run}
use Rattle.solutions.specs.Rounds.{AreWhole, IsStable, and_then, inner_rounds, or_else, outer_rounds, over, plain_round, value_of as outcome_value}
use Rattle.equation_law.specs.declared.coding.Instance.{Instance as CodedInstance}
use Rattle.equation_law.specs.declared.coding.Instance.TheVariants as coded
use Rattle.plain_rounds.specs.declared.values.NamedValue.{NamedValue}
use Rattle.equation_law.specs.Names.{Instance}
use Rattle.equation_law.specs.Values.{Value}
use Rattle.equation_law.specs.Program.{Program}
use Rattle.equation_law.specs.Equations.{equations_of}
use Rattle.equation_law.specs.Codes.{Naming, instance_by}
use Rattle.plain_rounds.specs.Named.{assigned, value_in}

-- what stands under the names
abbrev pub standing : Program → Naming → List CodedInstance → List (Option NamedValue) → Instance → Option Value
standing p N names values = assigned (map (instance_by p N) names) (map (option_map (value_in p N)) values)

abbrev pub name_at : List CodedInstance → ℕ → CodedInstance
name_at names k = slice_index_or names k (coded.Query (record { 0 = 0 }))

-- the k-th instance and the k-th value
abbrev pub named : Program → Naming → List CodedInstance → ℕ → Instance
named p N names k = instance_by p N (name_at names k)

abbrev pub known : Program → Naming → Option NamedValue → Option Value
known p N v = option_map (value_in p N) v

abbrev pub known_at : Program → Naming → List (Option NamedValue) → ℕ → Option Value
known_at p N values k = known p N (slice_index_or values k None)

-- what an instance's equation comes to
abbrev pub comes : Program → (Instance → Option Value) → Instance → Option Value
comes p A i = outcome_value (run A ((equations_of p).equation i))

-- where inner rounds start: a circular instance at the bottom of its type
abbrev pub start_of : Program → Instance → Option Value
start_of p i = cond ((equations_of p).circular i) (Some ((equations_of p).bottom i)) None

-- w is the k-th value before the first inner round, over what is settled
abbrev pub IsFirstAt : Program → Naming → List CodedInstance → List (Option NamedValue) → ℕ → Option NamedValue → Type 0
IsFirstAt p N names settled k w = known p N w ≡ or_else (known_at p N settled k) (start_of p (named p N names k))

-- what one more inner round leaves the k-th instance, if it is circular and still has a value: what its equation comes to
abbrev pub inner_at : Program → Naming → List CodedInstance → List (Option NamedValue) → ℕ → Option Value
inner_at p N names values k = cond ((equations_of p).circular (named p N names k)) (and_then (known_at p N values k) (comes p (standing p N names values) (named p N names k))) None

-- w is the k-th value after one more inner round, over what is settled
abbrev pub IsInnerStepAt : Program → Naming → List CodedInstance → List (Option NamedValue) → List (Option NamedValue) → ℕ → Option NamedValue → Type 0
IsInnerStepAt p N names settled values k w = known p N w ≡ or_else (known_at p N settled k) (inner_at p N names values k)

-- w is the k-th value after one more outer round, where the inner rounds left these values: what is settled stays, and the rest is what they
-- leave of a circular instance, and what the equation of another one comes to
abbrev pub IsStepAt : Program → Naming → List CodedInstance → List (Option NamedValue) → List (Option NamedValue) → ℕ → Option NamedValue → Type 0
IsStepAt p N names settled inner k w = known p N w ≡ cond ((equations_of p).circular (named p N names k)) (known_at p N inner k) (or_else (known_at p N settled k) (comes p (standing p N names settled) (named p N names k)))

-- all values are such
pub record AreFirst (p : Program) (N : Naming) (names : List CodedInstance) (settled values : List (Option NamedValue)) : Type 0 where
  pub long : length values ≡ length names
  pub each : (k : ℕ) → k < length names → IsFirstAt p N names settled k (slice_index_or values k None)

pub record AreInnerSteps (p : Program) (N : Naming) (names : List CodedInstance) (settled before after : List (Option NamedValue)) : Type 0 where
  pub long : length after ≡ length names
  pub each : (k : ℕ) → k < length names → IsInnerStepAt p N names settled before k (slice_index_or after k None)

pub record IsRound (p : Program) (N : Naming) (names : List CodedInstance) (settled inner after : List (Option NamedValue)) : Type 0 where
  pub long : length after ≡ length names
  pub each : (k : ℕ) → k < length names → IsStepAt p N names settled inner k (slice_index_or after k None)

-- each name has its value in an assignment
pub record AreIn (p : Program) (N : Naming) (names : List CodedInstance) (values : List (Option NamedValue)) (A : Instance → Option Value) : Type 0 where
  pub long : length values ≡ length names
  pub each : (k : ℕ) → k < length names → known_at p N values k ≡ A (named p N names k)

-- what is settled, and outside of it what so many inner rounds give
abbrev pub inner_over : Program → Naming → List CodedInstance → List (Option NamedValue) → ℕ → Instance → Option Value
inner_over p N names settled n = over (standing p N names settled) (inner_rounds (equations_of p) (map (instance_by p N) names) (standing p N names settled) n)

-- what an outer round gives over what is settled, with so many inner rounds
abbrev pub outer_over : Program → Naming → List CodedInstance → List (Option NamedValue) → ℕ → Instance → Option Value
outer_over p N names settled n i = or_else (standing p N names settled i) (or_else (plain_round (equations_of p) (map (instance_by p N) names) (standing p N names settled) i) (inner_rounds (equations_of p) (map (instance_by p N) names) (standing p N names settled) n i))

-- the values are those of some inner rounds over what is settled
pub record AreInner (p : Program) (N : Naming) (names : List CodedInstance) (settled values : List (Option NamedValue)) : Type 0 where
  pub turns : ℕ
  pub are : AreIn p N names values (inner_over p N names settled turns)

-- they are those of inner rounds that ran until nothing changed
pub record AreLeft (p : Program) (N : Naming) (names : List CodedInstance) (settled values : List (Option NamedValue)) : Type 0 where
  pub turns : ℕ
  pub stable : IsStable (equations_of p) (map (instance_by p N) names) (standing p N names settled) turns
  pub are : AreIn p N names values (inner_over p N names settled turns)

-- what stands under the names is what some rounds over them give
pub record IsAfter (p : Program) (N : Naming) (names : List CodedInstance) (values : List (Option NamedValue)) : Type 0 where
  pub rounds : List ℕ
  pub whole : AreWhole (equations_of p) (map (instance_by p N) names) rounds
  pub are : AreIn p N names values (outer_rounds (equations_of p) (map (instance_by p N) names) rounds)

-- after are the values of the next outer round: what stood before was the outcome of some rounds, and this is that of one more
pub record IsNext (p : Program) (N : Naming) (names : List CodedInstance) (before after : List (Option NamedValue)) : Type 0 where
  pub turns : ℕ
  pub stable : IsStable (equations_of p) (map (instance_by p N) names) (standing p N names before) turns
  pub are : AreIn p N names after (outer_over p N names before turns)

-- what one more inner round leaves the k-th name
abbrev pub IsInnerAt : Program → Naming → List CodedInstance → List (Option NamedValue) → ℕ → Option NamedValue → Type 0
IsInnerAt p N names values k value = known p N value ≡ inner_at p N names values k

-- what the equation of the k-th name comes to under these values
abbrev pub IsComingAt : Program → Naming → List CodedInstance → (Instance → Option Value) → ℕ → Option NamedValue → Type 0
IsComingAt p N names A k value = known p N value ≡ comes p A (named p N names k)
