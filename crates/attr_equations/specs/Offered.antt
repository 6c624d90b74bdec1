-- Contributions by the collection that they are for.
use Rattle.std.specs.Prelude.{◌≡◌, ℕ, ◌<◌, ◌≤◌, List, Option, Some, length, map, slice_get}
use Rattle.groups.specs.Groups.{AreWithin, groups_of}
use Rattle.attr_equations.specs.declared.contributions.KeptContribution.{KeptContribution}
use Rattle.attr_rules.specs.Rules.{Contribution, RuleSet}

-- the group in which a contribution's number stands: that of the attribute that it is for
abbrev pub key_of : KeptContribution → Option ℕ
key_of c = Some c.numbers.target.0

-- these are the numbers of contributions, in groups by the attribute that they are for, as many as there have to be
pub record AreGrouped (list : List KeptContribution) (groups : List (List ℕ)) : Type 0 where
  pub are : groups ≡ groups_of (map key_of list) (length groups)
  pub within : AreWithin (map key_of list) (length groups)

-- the contribution of this number is for an attribute
abbrev pub IsFor : RuleSet → ℕ → ℕ → Type 0
IsFor r a k = (c : Contribution) × (slice_get r.contributions k ≡ Some c) × (c.target.0 ≡ a)

-- from a number on, this is the first contribution that is for an attribute
pub record IsNextFor (r : RuleSet) (a from k : ℕ) : Type 0 where
  pub after : from ≤ k
  pub is : IsFor r a k
  pub between : (j : ℕ) → from ≤ j → j < k → ¬ IsFor r a j

-- from a number on, none is for it
abbrev pub NoneFor : RuleSet → ℕ → ℕ → Type 0
NoneFor r a from = (j : ℕ) → from ≤ j → ¬ IsFor r a j

-- numbers that rise
abbrev pub AreRising : List ℕ → Type 0
AreRising ns = (j k x y : ℕ) → j < k → slice_get ns j ≡ Some x → slice_get ns k ≡ Some y → x < y

-- the first of some numbers that isn't below another one
pub record IsFirstFrom (ns : List ℕ) (from n : ℕ) : Type 0 where
  pub after : from ≤ n
  pub place : ℕ
  pub is : slice_get ns place ≡ Some n
  pub before : (j x : ℕ) → j < place → slice_get ns j ≡ Some x → x < from

-- all of them are below it
abbrev pub AreBelow : List ℕ → ℕ → Type 0
AreBelow ns from = (j x : ℕ) → slice_get ns j ≡ Some x → x < from
