-- What the operations on sets do to membership, and the order of elements.
use Rattle.std.proofs.Common.{◌≡◌, Bool, true, false, not, cond, ◌&&◌, ◌||◌, List, [], ◌∷◌, map, Option, Some, None, is_some, refl, sym, ap, subst, ◌∙◌, ◌⊎◌, inl, inr, T}
use Rattle.std.specs.declared.cmp.Ordering.{Ordering}
use Rattle.std.specs.declared.cmp.Ordering.TheVariants.{Less, Equal, Greater}
use Rattle.std.specs.List.{filter, list_any}
use Rattle.std.specs.Ordering.{eq_by_cmp, is_eq, is_lt, ordering_reverse}
use Rattle.std.specs.Cmp.{IsTotalOrder, tied_itself}
use Rattle.std.specs.FinMap.Entries.{below_all}
use Rattle.std.proofs.lemmas.Map.Views.{any-filter_same}
use Rattle.std.specs.FinMap.{empty, insert, get, entries, entries_sorted, find, is_sorted, same_map, get-insert, get-empty, contains_key-keys, get-entries, IsAntisymmetric}
use Rattle.solutions.specs.Rising.{Part, none, keep, skip}
use Rattle.solutions.proofs.Runs.{and_true, or_left, or_right}
use Rattle.attr_rules.specs.declared.expression.SetOperator.{SetOperator}
use Rattle.attr_rules.specs.declared.expression.SetOperator.TheVariants.{Union, Inter, Minus}
use Rattle.equation_law.specs.Sets.{SetBy, no_elements, has, elements, with_all, set_of, union, inter, minus, IsPart}
use Rattle.equation_law.specs.Values.{combined}
use Rattle.equation_law.proofs.Names.{is_equal}

-- one of two is there
some_or : (b : Bool) (o : Option (Unit {0})) → is_some (cond b (Some tt) o) ≡ (b || is_some o)
some_or true o = refl
some_or false o = refl

-- of three, however they are grouped
or_assoc : (a b c : Bool) → (a || (b || c)) ≡ ((a || b) || c)
or_assoc true b c = refl
or_assoc false b c = refl

-- what each of two gives, both together give
pub or_least : (a b c : Bool) → (a ≡ true → c ≡ true) → (b ≡ true → c ≡ true) → (a || b) ≡ true → c ≡ true
or_least true b c f g e = f refl
or_least false b c f g e = g e

module _ {K : Type 0} {R : K → K → Ordering} (o : IsTotalOrder R) where
  -- what is in a set with one element more
  pub has-insert : (s : SetBy R) (x q : K) → has (insert s x tt) q ≡ (eq_by_cmp R q x || has s q)
  has-insert s x q = ap is_some (get-insert o s x tt q) ∙ some_or (eq_by_cmp R q x) (get s q)

  -- with a list of elements more
  pub has-with_all : (s : SetBy R) (xs : List K) (q : K) → has (with_all s xs) q ≡ (list_any (eq_by_cmp R q) xs || has s q)
  has-with_all s [] q = refl
  has-with_all s (x ∷ xs) q = has-insert (with_all s xs) x q ∙ ap (λ b. eq_by_cmp R q x || b) (has-with_all s xs q) ∙ or_assoc (eq_by_cmp R q x) _ _

  -- and in a union
  pub has-union : (s t : SetBy R) (q : K) → has (union s t) q ≡ (has t q || has s q)
  has-union s t q = has-with_all s (elements t) q ∙ ap (λ b. b || has s q) (sym (contains_key-keys t q))

  -- a union has both of its parts
  pub part_union : (s t : SetBy R) → IsPart s (union s t)
  part_union s t q e = has-union s t q ∙ or_right (has t q) (has s q) e

  pub part_union_right : (s t : SetBy R) → IsPart t (union s t)
  part_union_right s t q e = has-union s t q ∙ or_left (has t q) (has s q) e

  -- and is the least that does
  pub union_least : (s t u : SetBy R) → IsPart s u → IsPart t u → IsPart (union s t) u
  union_least s t u f g q e = or_least (has t q) (has s q) (has u q) (g q) (f q) (sym (has-union s t q) ∙ e)

-- nothing is in the empty set
pub has_none : {K : Type 0} (R : K → K → Ordering) (q : K) → has (no_elements {R = R}) q ≡ false
has_none R q = ap is_some (get-empty R q)

pub none_has : {K : Type 0} (R : K → K → Ordering) (q : K) → has (no_elements {R = R}) q ≡ true → ⊥
none_has R q e = let n = has_none R q in cc

pub or_nothing : (b c : Bool) → c ≡ false → (b || c) ≡ b
or_nothing true c e = refl
or_nothing false c e = e

and_turned : (a b : Bool) → (a && b) ≡ (b && a)
and_turned true true = refl
and_turned true false = refl
and_turned false true = refl
and_turned false false = refl

-- the set of some elements has these
pub has-set_of : {K : Type 0} {R : K → K → Ordering} → IsTotalOrder R → (xs : List K) (q : K) → has (set_of {R = R} xs) q ≡ list_any (eq_by_cmp R q) xs
has-set_of {R = R} o xs q = has-with_all o (no_elements {R = R}) xs q ∙ or_nothing (list_any (eq_by_cmp R q) xs) _ (has_none R q)

-- that of one element has no other
pub only_one : {K : Type 0} {R : K → K → Ordering} → IsTotalOrder R → IsAntisymmetric R → (x q : K) → has (set_of {R = R} (x ∷ [])) q ≡ true → q ≡ x
only_one {R = R} o same x q e = same q x (is_equal _ (sym (or_nothing (eq_by_cmp R q x) false refl) ∙ sym (has-set_of {R = R} o (x ∷ []) q) ∙ e))

-- a set with the elements of another that pass a test has what the other has and passes
has-filter : {K : Type 0} {R : K → K → Ordering} → IsTotalOrder R → IsAntisymmetric R → (test : K → Bool) (s : SetBy R) (q : K) → has (set_of {R = R} (filter test (elements s))) q ≡ (has s q && test q)
has-filter {R = R} o same test s q =
    has-set_of {R = R} o (filter test (elements s)) q
    ∙ any-filter_same (eq_by_cmp R q) test (test q) (λ k e. ap test (sym (same q k (is_equal _ e)))) (elements s)
    ∙ ap (λ b. test q && b) (sym (contains_key-keys s q))
    ∙ and_turned (test q) (has s q)

pub has-inter : {K : Type 0} {R : K → K → Ordering} → IsTotalOrder R → IsAntisymmetric R → (s t : SetBy R) (q : K) → has (inter s t) q ≡ (has s q && has t q)
has-inter o same s t q = has-filter o same (has t) s q

pub has-minus : {K : Type 0} {R : K → K → Ordering} → IsTotalOrder R → IsAntisymmetric R → (s t : SetBy R) (q : K) → has (minus s t) q ≡ (has s q && not (has t q))
has-minus o same s t q = has-filter o same (λ x. not (has t x)) s q

one_or_other : (b c : Bool) → (b || c) ≡ true → (c ≡ true) ⊎ (b ≡ true)
one_or_other true c e = inr refl
one_or_other false c e = inl e

-- what is made of two sets has elements of them alone
pub combined_from : {K : Type 0} {R : K → K → Ordering} → IsTotalOrder R → IsAntisymmetric R → (c : SetOperator) (s t : SetBy R) (q : K) → has (combined c s t) q ≡ true → (has s q ≡ true) ⊎ (has t q ≡ true)
combined_from o same Union s t q e = one_or_other (has t q) (has s q) (sym (has-union o s t q) ∙ e)
combined_from o same Inter s t q e = inl (and_true (has s q) (has t q) (sym (has-inter o same s t q) ∙ e)).0
combined_from o same Minus s t q e = inl (and_true (has s q) _ (sym (has-minus o same s t q) ∙ e)).0

-- the empty set is a part of each
pub empty_part : {K : Type 0} {R : K → K → Ordering} (s : SetBy R) → IsPart no_elements s
empty_part {R = R} s q e = let n : get (empty {X = Unit {0}} {R = R}) q ≡ None = get-empty R q in let f = ap is_some n in cc

-- the test of an order for less
pub is_less : (r : Ordering) → is_lt r ≡ true → r ≡ Less
is_less Less e = refl
is_less Equal e = cc
is_less Greater e = cc

-- a test that holds is true
pub true_T : (b : Bool) → T b → b ≡ true
true_T true h = refl
true_T false h = elim h [ ]

-- nothing is a part of each list
pub part_nil : {K : Type 0} (ks : List K) → Part [] ks
part_nil [] = none
part_nil (k ∷ ks) = skip (part_nil ks)

-- two lists that begin with one element
keep_at : {K : Type 0} {x y : K} (xs ys : List K) → x ≡ y → Part xs ys → Part (x ∷ xs) (y ∷ ys)
keep_at {x = x} xs ys e p = subst (λ z. Part (x ∷ xs) (z ∷ ys)) e (keep p)

module _ {K : Type 0} {R : K → K → Ordering} (o : IsTotalOrder R) (same : IsAntisymmetric R) where
  -- an entry finds itself
  found_head : (e : K × Unit {0}) (es : List (K × Unit {0})) → is_some (find R e.0 (e ∷ es)) ≡ true
  found_head e es = ap (λ r. is_some (cond (is_eq r) (Some e.1) (find R e.0 es))) (tied_itself o e.0)

  -- what is found in the rest is found in the whole
  found_tail : (q : K) (e : K × Unit {0}) (es : List (K × Unit {0})) → is_some (find R q es) ≡ true → is_some (find R q (e ∷ es)) ≡ true
  found_tail q e es h = elim (eq_by_cmp R q e.0) as (λ b. is_some (cond b (Some e.1) (find R q es)) ≡ true) [ true ↦ refl | false ↦ h ]

  -- what is found is the first entry's key, or in the rest
  found_in : (q : K) (e : K × Unit {0}) (es : List (K × Unit {0})) → is_some (find R q (e ∷ es)) ≡ true → (q ≡ e.0) ⊎ (is_some (find R q es) ≡ true)
  found_in q e es h =
      elim (eq_by_cmp R q e.0) as (λ b. eq_by_cmp R q e.0 ≡ b → is_some (cond b (Some e.1) (find R q es)) ≡ true → (q ≡ e.0) ⊎ (is_some (find R q es) ≡ true)) [
        | true ↦ λ p _. inl (same q e.0 (is_equal _ p))
        | false ↦ λ p g. inr g
      ] refl h

  -- what is below all of a list doesn't stand in it
  not_below : (x : K) (es : List (K × Unit {0})) → below_all R x es ≡ true → is_some (find R x es) ≡ true → ⊥
  not_below x [] b h = cc
  not_below x (e ∷ es) b h =
      let c = and_true (is_lt (R x e.0)) (below_all R x es) b in
      elim (found_in x e es h) [
        | inl p ↦ let t = ap (λ y. R x y) (sym p) ∙ tied_itself o x in let l = is_less (R x e.0) c.0 in cc
        | inr g ↦ not_below x es c.1 g
      ]

  -- what is below a key is below all that the key is below
  below_through : (x y : K) (es : List (K × Unit {0})) → R x y ≡ Less → below_all R y es ≡ true → below_all R x es ≡ true
  below_through x y [] l b = refl
  below_through x y (e ∷ es) l b =
      let c = and_true (is_lt (R y e.0)) (below_all R y es) b in
      ap (λ r. is_lt r && below_all R x es) (o.trans x y e.0 l (is_less (R y e.0) c.0)) ∙ below_through x y es l c.1

  -- of two sorted lists, where all that is found in the first is found in the second
  sub_part : (es fs : List (K × Unit {0})) → is_sorted R es ≡ true → is_sorted R fs ≡ true → ((q : K) → is_some (find R q es) ≡ true → is_some (find R q fs) ≡ true) → Part (map (λ e. e.0) es) (map (λ e. e.0) fs)
  sub_part [] fs g h is = part_nil (map (λ e. e.0) fs)
  sub_part (e ∷ es) [] g h is = let a = is e.0 (found_head e es) in cc
  sub_part (e ∷ es) (f ∷ fs) g h is =
      let ge = and_true (below_all R e.0 es) (is_sorted R es) g in
      let hf = and_true (below_all R f.0 fs) (is_sorted R fs) h in
      elim (R e.0 f.0) as (λ r. R e.0 f.0 ≡ r → Part (map (λ e. e.0) (e ∷ es)) (map (λ e. e.0) (f ∷ fs))) [
        | Less ↦ λ p. absurd (not_below e.0 (f ∷ fs) (ap (λ r. is_lt r && below_all R e.0 fs) p ∙ below_through e.0 f.0 fs p hf.0) (is e.0 (found_head e es)))
        | Equal ↦ λ p.
            let k : e.0 ≡ f.0 = same e.0 f.0 p in
            keep_at (map (λ e. e.0) es) (map (λ e. e.0) fs) k (sub_part es fs ge.1 hf.1 (λ q m.
            elim (found_in q f fs (is q (found_tail q e es m))) [
              | inl w ↦ absurd (not_below e.0 es ge.0 (subst (λ z. is_some (find R z es) ≡ true) (w ∙ sym k) m))
              | inr m' ↦ m'
            ]))
        | Greater ↦ λ p.
            let l : R f.0 e.0 ≡ Less = o.antisymm f.0 e.0 ∙ ap ordering_reverse p in
            skip (sub_part (e ∷ es) fs g hf.1 (λ q m.
            elim (found_in q f fs (is q m)) [
              | inl w ↦ absurd (not_below f.0 (e ∷ es) (ap (λ r. is_lt r && below_all R f.0 es) l ∙ below_through f.0 e.0 es l ge.0) (subst (λ z. is_some (find R z (e ∷ es)) ≡ true) w m))
              | inr m' ↦ m'
            ]))
      ] refl

  -- the elements of a part stand in the same order
  pub part_elements : (s t : SetBy R) → IsPart s t → Part (elements s) (elements t)
  part_elements s t is =
      sub_part (entries s) (entries t) (true_T _ (entries_sorted s)) (true_T _ (entries_sorted t)) (λ q m. ap is_some (sym (get-entries t q)) ∙ is q (ap is_some (get-entries s q) ∙ m))

  -- two sets that are parts of each other are equal
  pub same_parts : (s t : SetBy R) → IsPart s t → IsPart t s → s ≡ t
  same_parts s t a b = same_map o same s t (λ q. unit_options (get s q) (get t q) (a q) (b q))
    where
      unit_options : (x y : Option (Unit {0})) → (is_some x ≡ true → is_some y ≡ true) → (is_some y ≡ true → is_some x ≡ true) → x ≡ y
      unit_options None None f g = refl
      unit_options None (Some tt) f g = let a = g refl in cc
      unit_options (Some tt) None f g = let a = f refl in cc
      unit_options (Some x) (Some y) f g = refl
