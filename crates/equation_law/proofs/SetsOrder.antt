-- The elements of a set in their order, and how many there are.
use Rattle.std.proofs.Common.{◌≡◌, true, ◌&&◌, List, [], ◌∷◌, length, map, T, arith, refl, sym, ap, subst, ◌∙◌}
use Rattle.std.specs.declared.cmp.Ordering.{Ordering}
use Rattle.std.specs.declared.cmp.Ordering.TheVariants.{Less, Equal, Greater}
use Rattle.std.specs.Cmp.{IsTotalOrder}
use Rattle.std.specs.List.{AllByRecursion, IsDistinct, list_any}
use Rattle.std.specs.List.Sorted.{IsStrictlySortedBy}
use Rattle.std.specs.Ordering.{eq_by_cmp, is_lt}
use Rattle.std.specs.FinMap.Entries.{below_all, by_order}
use Rattle.std.specs.FinMap.{IsAntisymmetric, contains_key-keys, entries, entries-from_sorted, entries-insert, entries_sorted, from_sorted, is_sorted, keys, len-empty, len-entries, put}
use Rattle.std.proofs.lemmas.Cmp.{eq_by_cmp_equiv}
use Rattle.std.proofs.lemmas.Map.Keys.{IsDistinct-from_sorted}
use Rattle.std.proofs.lemmas.Map.Made.{length-from_same_keys}
use Rattle.solutions.proofs.Runs.{and_true}
use Rattle.equation_law.specs.Sets.{SetBy, elements, has, no_elements, set_of, size}
use Rattle.equation_law.proofs.Sets.{has-set_of, is_less, same_parts, true_T}

-- keys with nothing to them
abbrev pub paired : {K : Type 0} → List K → List (K × Unit {0})
paired xs = map (λ x. (x, tt)) xs

unpaired : {K : Type 0} (xs : List K) → map (λ (e : K × Unit {0}). e.0) (paired xs) ≡ xs
unpaired [] = refl
unpaired (x ∷ xs) = ap (λ z. x ∷ z) (unpaired xs)

-- an element put into some that rise; one that stands there already is left out
abbrev pub put_by : {K : Type 0} → (K → K → Ordering) → K → List K → List K
put_by R x [] = x ∷ []
put_by R x (y ∷ ys) = by_order (R x y) (x ∷ y ∷ ys) (y ∷ ys) (y ∷ put_by R x ys)

abbrev pub sorted_by : {K : Type 0} → (K → K → Ordering) → List K → List K
sorted_by R [] = []
sorted_by R (x ∷ xs) = put_by R x (sorted_by R xs)

nil_of_length : {A : Type 0} (xs : List A) → length xs ≡ 0 → xs ≡ []
nil_of_length [] e = refl
nil_of_length (x ∷ xs) e = absurd (omega arith)

no_entries : {K : Type 0} (R : K → K → Ordering) → entries (no_elements {R = R}) ≡ []
no_entries R = nil_of_length (entries (no_elements {R = R})) (sym (len-entries (no_elements {R = R})) ∙ len-empty R (Unit {0}))

-- the empty set has no elements
pub elements_none : {K : Type 0} (R : K → K → Ordering) → elements (no_elements {R = R}) ≡ []
elements_none {K} R = ap (map (λ (e : K × Unit {0}). e.0)) (no_entries R)

-- what is below all entries is below their keys, and the other way round
below_keys : {K : Type 0} (R : K → K → Ordering) (x : K) (es : List (K × Unit {0})) → below_all R x es ≡ true → AllByRecursion (λ y. R x y ≡ Less) (map (λ e. e.0) es)
below_keys R x [] b = tt
below_keys R x (e ∷ es) b = let a = and_true (is_lt (R x e.0)) (below_all R x es) b in (is_less (R x e.0) a.0, below_keys R x es a.1)

below_paired : {K : Type 0} (R : K → K → Ordering) (x : K) (ys : List K) → AllByRecursion (λ y. R x y ≡ Less) ys → below_all R x (paired ys) ≡ true
below_paired R x [] h = refl
below_paired R x (y ∷ ys) h = ap (λ r. is_lt r && below_all R x (paired ys)) h.0 ∙ below_paired R x ys h.1

-- entries that rise have keys that do
keys_rise : {K : Type 0} (R : K → K → Ordering) (es : List (K × Unit {0})) → is_sorted R es ≡ true → IsStrictlySortedBy R (map (λ e. e.0) es)
unfolding IsStrictlySortedBy
keys_rise R [] h = tt
keys_rise R (e ∷ es) h = let a = and_true (below_all R e.0 es) (is_sorted R es) h in (below_keys R e.0 es a.0, keys_rise R es a.1)

paired_rise : {K : Type 0} (R : K → K → Ordering) (xs : List K) → IsStrictlySortedBy R xs → is_sorted R (paired xs) ≡ true
unfolding IsStrictlySortedBy
paired_rise R [] h = refl
paired_rise R (x ∷ xs) h = ap (λ b. b && is_sorted R (paired xs)) (below_paired R x xs h.0) ∙ paired_rise R xs h.1

-- the elements of a set rise strictly
pub elements_rise : {K : Type 0} {R : K → K → Ordering} (s : SetBy R) → IsStrictlySortedBy R (elements s)
elements_rise {R = R} s = keys_rise R (entries s) (true_T _ (entries_sorted s))

module _ {K : Type 0} {R : K → K → Ordering} (o : IsTotalOrder R) (same : IsAntisymmetric R) where
  -- elements that rise strictly and are a set's members are its elements in order
  pub rising_elements : (s : SetBy R) (xs : List K) → IsStrictlySortedBy R xs → ((q : K) → list_any (eq_by_cmp R q) xs ≡ has s q) → elements s ≡ xs
  rising_elements s xs rises h =
      let m : SetBy R = from_sorted (paired xs) in
      let k : keys m ≡ xs = ap (map (λ (e : K × Unit {0}). e.0)) (entries-from_sorted R (paired xs) (subst T (sym (paired_rise R xs rises)) tt)) ∙ unpaired xs in
      let g : (q : K) → has m q ≡ has s q = λ q. contains_key-keys m q ∙ ap (list_any (eq_by_cmp R q)) k ∙ h q in
      ap (λ (t : SetBy R). keys t) (same_parts o same s m (λ q e. g q ∙ e) (λ q e. sym (g q) ∙ e)) ∙ k

  keys_put : (x : K) (es : List (K × Unit {0})) → map (λ e. e.0) (put R x tt es) ≡ put_by R x (map (λ e. e.0) es)
  keys_put x [] = refl
  keys_put x (e ∷ es) =
      elim (R x e.0) as (λ r. map (λ (z : K × Unit {0}). z.0) (by_order r ((x, tt) ∷ e ∷ es) ((e.0, tt) ∷ es) (e ∷ put R x tt es)) ≡ by_order r (x ∷ e.0 ∷ map (λ z. z.0) es) (e.0 ∷ map (λ z. z.0) es) (e.0 ∷ put_by R x (map (λ z. z.0) es))) [
        | Less ↦ refl
        | Equal ↦ refl
        | Greater ↦ ap (λ ys. e.0 ∷ ys) (keys_put x es)
      ]

  -- the elements of the set of some are these, put in order
  pub elements_set_of : (xs : List K) → elements (set_of {R = R} xs) ≡ sorted_by R xs
  elements_set_of [] = elements_none R
  elements_set_of (x ∷ xs) = ap (map (λ (e : K × Unit {0}). e.0)) (entries-insert o (set_of {R = R} xs) x tt) ∙ keys_put x (entries (set_of {R = R} xs)) ∙ ap (put_by R x) (elements_set_of xs)

  -- a set with some members is the set of these
  pub members_same : (s : SetBy R) (xs : List K) → ((q : K) → list_any (eq_by_cmp R q) xs ≡ has s q) → s ≡ set_of {R = R} xs
  members_same s xs h = let g : (q : K) → has (set_of {R = R} xs) q ≡ has s q = λ q. has-set_of {R = R} o xs q ∙ h q in same_parts o same s (set_of {R = R} xs) (λ q e. g q ∙ e) (λ q e. sym (g q) ∙ e)

  -- so its elements are these, put in order
  pub elements_sorted : (s : SetBy R) (xs : List K) → ((q : K) → list_any (eq_by_cmp R q) xs ≡ has s q) → elements s ≡ sorted_by R xs
  elements_sorted s xs h = ap (λ (t : SetBy R). elements t) (members_same s xs h) ∙ elements_set_of xs

  -- a set is that of its elements
  pub set_of_elements : (s : SetBy R) → s ≡ set_of {R = R} (elements s)
  set_of_elements s = members_same s (elements s) (λ q. sym (contains_key-keys s q))

  -- the set of distinct elements has as many
  pub size_set_of : (xs : List K) → IsDistinct (eq_by_cmp R) xs → size (set_of {R = R} xs) ≡ length xs
  size_set_of xs d =
      let s : SetBy R = set_of {R = R} xs in
      length-from_same_keys (eq_by_cmp_equiv o) (elements s) xs (IsDistinct-from_sorted R (elements s) (elements_rise s)) d (λ q. sym (contains_key-keys s q) ∙ has-set_of {R = R} o xs q)
