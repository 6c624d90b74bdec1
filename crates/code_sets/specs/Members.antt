-- Which codes a set has.
use Rattle.std.specs.Prelude.{◌≡◌, ℕ, Bool, true, List}
use Rattle.std.specs.Ordering.{eq_by_cmp, nat_cmp}
use Rattle.std.specs.List.{list_any}
use Rattle.std.specs.List.Sorted.{IsStrictlySortedBy}

-- the codes of a set rise strictly
abbrev pub Rises : List ℕ → Type 0
Rises cs = IsStrictlySortedBy nat_cmp cs

abbrev pub has_code : List ℕ → ℕ → Bool
has_code cs c = list_any (eq_by_cmp nat_cmp c) cs

-- the codes rise, and which there are is made of which there are in two sets
pub record AreMade (of : Bool → Bool → Bool) (xs ys zs : List ℕ) : Type 0 where
  pub rises : Rises zs
  pub members : (c : ℕ) → has_code zs c ≡ of (has_code xs c) (has_code ys c)

-- the codes of one set are all in another
abbrev pub IsWithin : List ℕ → List ℕ → Type 0
IsWithin xs ys = (c : ℕ) → has_code xs c ≡ true → has_code ys c ≡ true
