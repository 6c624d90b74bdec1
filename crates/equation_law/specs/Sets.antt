-- Finite sets under an order.
use Rattle.std.specs.Prelude.{◌≡◌, ℕ, Bool, true, not, List, [], ◌∷◌, length}
use Rattle.std.specs.List.{filter}
use Rattle.std.specs.declared.cmp.Ordering.{Ordering}
use Rattle.std.specs.FinMap.{FinMap, empty, insert, contains_key, keys}

abbrev pub SetBy : {K : Type 0} → (K → K → Ordering) → Type 0
SetBy R = FinMap R (Unit {0})

module _ {K : Type 0} {R : K → K → Ordering} where
  abbrev pub no_elements : SetBy R
  no_elements = empty

  abbrev pub has : SetBy R → K → Bool
  has s q = contains_key s q

  -- in their order
  abbrev pub elements : SetBy R → List K
  elements s = keys s

  abbrev pub with_all : SetBy R → List K → SetBy R
  with_all s [] = s
  with_all s (x ∷ xs) = insert (with_all s xs) x tt

  -- the set of these elements
  abbrev pub set_of : List K → SetBy R
  set_of xs = with_all no_elements xs

  abbrev pub union : SetBy R → SetBy R → SetBy R
  union s t = with_all s (elements t)

  -- what both have
  abbrev pub inter : SetBy R → SetBy R → SetBy R
  inter s t = set_of (filter (has t) (elements s))

  -- what the first has and the second hasn't
  abbrev pub minus : SetBy R → SetBy R → SetBy R
  minus s t = set_of (filter (λ q. not (has t q)) (elements s))

  -- how many elements there are
  abbrev pub size : SetBy R → ℕ
  size s = length (elements s)

-- each element of the first is one of the second
abbrev pub IsPart : {K : Type 0} {R : K → K → Ordering} → SetBy R → SetBy R → Type 0
IsPart {K} s t = (q : K) → has s q ≡ true → has t q ≡ true
