-- Sets whose elements are kept as codes, where no two codes stand for one element.
use Rattle.std.proofs.Common.{◌≡◌, ℕ, ◌+◌, ◌<◌, true, false, ◌||◌, List, [], ◌∷◌, length, map, arith, refl, sym, ap, subst, ◌∙◌, inl, inr}
use Rattle.std.specs.declared.cmp.Ordering.{Ordering}
use Rattle.std.specs.declared.cmp.Ordering.TheVariants.{Less, Equal, Greater}
use Rattle.std.specs.Cmp.{IsTotalOrder}
use Rattle.std.specs.FinMap.{IsAntisymmetric, nat_cmp-IsAntisymmetric}
use Rattle.std.specs.List.{All, AllByRecursion, IsDistinct, list_any}
use Rattle.std.specs.List.Sorted.{IsPermutation, IsSorted, IsSortedByKey, IsStrictlySortedBy}
use Rattle.std.specs.Ordering.{eq_by_cmp, is_eq, is_lt, nat_cmp, ordering_reverse}
use Rattle.std.proofs.lemmas.Cmp.{eq_by_cmp_equiv, nat_cmp_total}
use Rattle.std.proofs.lemmas.List.{get_or-map, length-map}
use Rattle.std.proofs.lemmas.List.Elements.{All-head, All-tail}
use Rattle.std.proofs.lemmas.List.Sorted.{IsPermutation-map, list_any-IsPermutation}
use Rattle.std.proofs.lemmas.Map.Keys.{IsDistinct-IsPermutation, IsDistinct-cons, IsDistinct-from_sorted, IsDistinct-head, IsDistinct-tail, apart_from_distinct, sorted_from_all_adjacent}
use Rattle.std.proofs.lemmas.Map.Views.{All-from_any}
use Rattle.code_sets.specs.Members.{AreMade, Rises, has_code}
use Rattle.attr_rules.specs.declared.expression.SetOperator.{SetOperator}
use Rattle.equation_law.specs.Sets.{elements, has, set_of, size}
use Rattle.equation_law.specs.Values.{combined}
use Rattle.equation_law.proofs.Keys.{both_ways}
use Rattle.equation_law.proofs.Names.{is_equal}
use Rattle.equation_law.proofs.Sets.{combined_from, has-set_of}
use Rattle.equation_law.proofs.SetsOrder.{members_same, rising_elements, size_set_of}
use Rattle.set_values.specs.CodedSets.{with_operator}
use Rattle.set_values.proofs.Operators.{from_either, has-combined}

-- what holds of each code of a set holds of a member
pub holds_of : (P : ℕ → Type 0) (cs : List ℕ) → All P cs → (q : ℕ) → has_code cs q ≡ true → P q
holds_of P [] a q e = cc
holds_of P (c ∷ cs) a q e =
    elim (eq_by_cmp nat_cmp q c) as (λ b. eq_by_cmp nat_cmp q c ≡ b → (b || has_code cs q) ≡ true → P q) [
      | true ↦ λ p _. subst P (sym (nat_cmp-IsAntisymmetric q c (is_equal _ p))) (All-head P c cs a)
      | false ↦ λ p h. holds_of P cs (All-tail P c cs a) q h
    ] refl e

-- so it does of what is made of two sets
pub holds_made : (P : ℕ → Type 0) (p : SetOperator) (xs ys zs : List ℕ) → All P xs → All P ys → AreMade (with_operator p) xs ys zs → All P zs
holds_made P p xs ys zs a b m =
    All-from_any (eq_by_cmp_equiv nat_cmp_total) P zs (λ q e.
    elim (from_either p (has_code xs q) (has_code ys q) (sym (m.members q) ∙ e)) [
      | inl h ↦ holds_of P xs a q h
      | inr h ↦ holds_of P ys b q h
    ])

module _ {K : Type 0} {R : K → K → Ordering} (o : IsTotalOrder R) where
  -- two neighbours that don't fall and differ rise
  below_next : (x y : K) → is_lt (R y x) ≡ false → eq_by_cmp R x y ≡ false → R x y ≡ Less
  below_next x y f g =
      elim (R x y) as (λ r. R x y ≡ r → is_eq r ≡ false → r ≡ Less) [
        | Less ↦ λ p h. refl
        | Equal ↦ λ p h. cc
        | Greater ↦ λ p h. let l : R y x ≡ Less = o.antisymm y x ∙ ap ordering_reverse p in let t = ap is_lt l in cc
      ] refl g

  -- so do all of a list
  rise_apart : (xs : List K) → IsSorted R xs → IsDistinct (eq_by_cmp R) xs → IsStrictlySortedBy R xs
  unfolding IsStrictlySortedBy
  rise_apart [] s d = tt
  rise_apart (x ∷ xs) s d = sorted_from_all_adjacent o (x ∷ xs) x (λ k l. below_next _ _ (s k x (omega arith) l) (apart_from_distinct (eq_by_cmp R) (x ∷ xs) k (k + 1) x d (omega arith) l))

  -- in the order of what they stand for
  keys_sorted : (of : ℕ → K) (ns : List ℕ) → IsSortedByKey of R ns → IsSorted R (map of ns)
  keys_sorted of ns s k d z l =
      let here : k + 1 < length ns = omega (arith, l, length-map ns of) in
      (λ i. is_lt (R (get_or-map of ns (k + 1) 0 d here i) (get_or-map of ns k 0 d (omega (arith, here)) i))) ∙ s k 0 z here

module _ {K : Type 0} {R : K → K → Ordering} (o : IsTotalOrder R) (same : IsAntisymmetric R) (of : ℕ → K) (P : ℕ → Type 0) (ties : (m n : ℕ) → P m → P n → eq_by_cmp nat_cmp m n ≡ eq_by_cmp R (of m) (of n)) where
  -- a code is one of some exactly where what it stands for is
  any_coded : (n : ℕ) → P n → (cs : List ℕ) → All P cs → list_any (eq_by_cmp R (of n)) (map of cs) ≡ has_code cs n
  any_coded n p [] a = refl
  any_coded n p (c ∷ cs) a =
      let first = sym (ties n c p (All-head P c cs a)) in
      let behind = any_coded n p cs (All-tail P c cs a) in
      λ i. first i || behind i

  -- so it is in the set
  pub has_coded : (n : ℕ) → P n → (cs : List ℕ) → All P cs → has (set_of {R = R} (map of cs)) (of n) ≡ has_code cs n
  has_coded n p cs a = has-set_of {R = R} o (map of cs) (of n) ∙ any_coded n p cs a

  -- each element has a code
  coded_one : (q : K) (cs : List ℕ) → All P cs → list_any (eq_by_cmp R q) (map of cs) ≡ true → (n : ℕ) × P n × (of n ≡ q)
  coded_one q [] a e = cc
  coded_one q (c ∷ cs) a e =
      elim (eq_by_cmp R q (of c)) as (λ b. eq_by_cmp R q (of c) ≡ b → (b || list_any (eq_by_cmp R q) (map of cs)) ≡ true → (n : ℕ) × P n × (of n ≡ q)) [
        | true ↦ λ p _. (c, All-head P c cs a, sym (same q (of c) (is_equal _ p)))
        | false ↦ λ p h. coded_one q cs (All-tail P c cs a) h
      ] refl e

  module _ (p : SetOperator) (xs ys zs : List ℕ) (a : All P xs) (b : All P ys) (m : AreMade (with_operator p) xs ys zs) where
    alike_at : (n : ℕ) → P n → list_any (eq_by_cmp R (of n)) (map of zs) ≡ has (combined p (set_of {R = R} (map of xs)) (set_of {R = R} (map of ys))) (of n)
    alike_at n g =
        let left = sym (has_coded n g xs a) in
        let right = sym (has_coded n g ys b) in
        any_coded n g zs (holds_made P p xs ys zs a b m)
        ∙ m.members n
        ∙ (λ i. with_operator p (left i) (right i))
        ∙ sym (has-combined o same p (set_of {R = R} (map of xs)) (set_of {R = R} (map of ys)) (of n))

    alike : (q : K) → (n : ℕ) × P n × (of n ≡ q) → list_any (eq_by_cmp R q) (map of zs) ≡ has (combined p (set_of {R = R} (map of xs)) (set_of {R = R} (map of ys))) q
    alike q c = subst (λ k. list_any (eq_by_cmp R k) (map of zs) ≡ has (combined p (set_of {R = R} (map of xs)) (set_of {R = R} (map of ys))) k) c.2 (alike_at c.0 c.1)

    coded_in : (q : K) → has (combined p (set_of {R = R} (map of xs)) (set_of {R = R} (map of ys))) q ≡ true → (n : ℕ) × P n × (of n ≡ q)
    coded_in q e =
        elim (combined_from o same p (set_of {R = R} (map of xs)) (set_of {R = R} (map of ys)) q e) [
          | inl h ↦ coded_one q xs a (sym (has-set_of {R = R} o (map of xs) q) ∙ h)
          | inr h ↦ coded_one q ys b (sym (has-set_of {R = R} o (map of ys) q) ∙ h)
        ]

    -- codes that are made of those of two sets are those of what is made of the sets
    pub made_coded : set_of {R = R} (map of zs) ≡ combined p (set_of {R = R} (map of xs)) (set_of {R = R} (map of ys))
    made_coded =
        sym (members_same o same (combined p (set_of {R = R} (map of xs)) (set_of {R = R} (map of ys))) (map of zs) (λ q.
        both_ways _ _ (λ e. sym (alike q (coded_one q zs (holds_made P p xs ys zs a b m) e)) ∙ e) (λ e. alike q (coded_in q e) ∙ e)))

  apart_coded : (c : ℕ) (cs : List ℕ) → P c → All P cs → AllByRecursion (λ y. eq_by_cmp nat_cmp c y ≡ false) cs → AllByRecursion (λ y. eq_by_cmp R (of c) y ≡ false) (map of cs)
  apart_coded c [] g a h = tt
  apart_coded c (d ∷ cs) g a h = (sym (ties c d g (All-head P d cs a)) ∙ h.0, apart_coded c cs g (All-tail P d cs a) h.1)

  distinct_coded : (cs : List ℕ) → IsDistinct (eq_by_cmp nat_cmp) cs → All P cs → IsDistinct (eq_by_cmp R) (map of cs)
  unfolding IsDistinct
  distinct_coded [] d a = tt
  distinct_coded (c ∷ cs) d a =
      IsDistinct-cons (eq_by_cmp R) (of c) (map of cs) (apart_coded c cs (All-head P c cs a) (All-tail P c cs a) (IsDistinct-head (eq_by_cmp nat_cmp) c cs d)) (distinct_coded cs (IsDistinct-tail (eq_by_cmp nat_cmp) c cs d) (All-tail P c cs a))

  -- a set has as many elements as codes
  pub size_coded : (cs : List ℕ) → Rises cs → All P cs → size (set_of {R = R} (map of cs)) ≡ length cs
  size_coded cs r a = size_set_of o same (map of cs) (distinct_coded cs (IsDistinct-from_sorted nat_cmp cs r) a) ∙ length-map cs of

  -- the elements of a set, by its codes in the order of what they stand for
  pub elements_coded : (cs ns : List ℕ) → Rises cs → All P cs → IsPermutation cs ns → IsSortedByKey of R ns → elements (set_of {R = R} (map of cs)) ≡ map of ns
  elements_coded cs ns r a moved s =
      let turned = IsPermutation-map of cs ns moved in
      rising_elements
      o
      same
      (set_of {R = R} (map of cs))
      (map of ns)
      (rise_apart
      o
      (map of ns)
      (keys_sorted o of ns s)
      (IsDistinct-IsPermutation (eq_by_cmp R) (eq_by_cmp_equiv o).symm (map of cs) (map of ns) turned (distinct_coded cs (IsDistinct-from_sorted nat_cmp cs r) a)))
      (λ q. sym (list_any-IsPermutation (eq_by_cmp R q) (map of cs) (map of ns) turned) ∙ sym (has-set_of {R = R} o (map of cs) q))
