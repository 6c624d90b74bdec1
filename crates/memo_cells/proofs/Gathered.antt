-- Which attributes and queries have truth values, in lists that are made one by one.
use Rattle.std.proofs.Common.{◌≡◌, ℕ, zero, suc, Bool, true, Some, None, slice_get, ◌+◌, ◌-◌, ◌/◌, ◌^◌, ◌<◌, ◌≤◌, List, [], ◌∷◌, ◌++◌, map, take, length, get_or, refl, sym, ap, ◌∙◌, arith}
use Rattle.std.specs.Option.{option_map}
use Rattle.attr_rules.specs.Queries.{Query as Asked}
use Rattle.attr_rules.specs.Rules.{Attribute as DeclaredAttribute}
use Rattle.attr_rules.specs.Types.{truth_kind}
use Rattle.equation_law.specs.Equations.{asked_kind, kind_in, kind_or_truth}
use Rattle.equation_law.specs.Names.{Attribute, Instance, Query}
use Rattle.equation_law.specs.Program.{Program}
use Rattle.memo_cells.specs.Naming.{IsFirstKey}
use Rattle.memo_cells.specs.Truths.{AreTruths}
use Rattle.std.proofs.Math.Seq.{take-suc}
use Rattle.std.proofs.lemmas.List.{map-append}
use Rattle.std.proofs.lemmas.Option.{get_or_from_slice_get, slice_get_within}

take_past : {A : Type 0} (xs : List A) (n : ℕ) → length xs ≤ n → take n xs ≡ xs
take_past [] zero le = refl
take_past [] (suc n) le = refl
take_past (x ∷ xs) zero le = absurd (omega arith)
take_past (x ∷ xs) (suc n) le = ap (λ ys. x ∷ ys) (take_past xs n (omega arith))

pub whole : {A : Type 0} (f : A → Bool) (xs : List A) (n : ℕ) (l : List Bool) → length xs ≤ n → l ≡ map f (take n xs) → l ≡ map f xs
whole f xs n l le e = e ∙ ap (map f) (take_past xs n le)

pub taken : {A : Type 0} (f : A → Bool) (xs : List A) (k : ℕ) (a : A) (l m : List Bool) (b : Bool) → slice_get xs k ≡ Some a → l ≡ map f (take k xs) → m ≡ l ++ b ∷ [] → b ≡ f a → m ≡ map f (take (k + 1) xs)
taken f xs k a l m b at so more is =
    let next : suc k ≡ k + 1 = omega arith in
    let all : map f (take (suc k) xs) ≡ map f (take k xs) ++ f a ∷ []
    = ap (map f) (take-suc xs k a (slice_get_within xs k a at) ∙ ap (λ x. take k xs ++ x ∷ []) (get_or_from_slice_get xs k a a at)) ∙ map-append f (take k xs) (a ∷ [])
    in
    more ∙ ap (λ ys. ys ++ b ∷ []) so ∙ ap (λ c. map f (take k xs) ++ c ∷ []) is ∙ sym all ∙ ap (λ n. map f (take n xs)) next

some_is : {B : Type 0} (x y : B) → Some x ≡ Some y → x ≡ y
some_is x y e = cc

-- the same, of a part of what stands there
pub taken_part : {A B : Type 0} (g : A → B) (f : B → Bool) (xs : List A) (k : ℕ) (d : B) (l m : List Bool) (b : Bool) → option_map g (slice_get xs k) ≡ Some d → l ≡ map (λ x. f (g x)) (take k xs) → m ≡ l ++ b ∷ [] → b ≡ f d → m ≡ map (λ x. f (g x)) (take (k + 1) xs)
taken_part {A} {B} g f xs k d l m b at so more is =
    elim (slice_get xs k) as (λ o. slice_get xs k ≡ o → option_map g o ≡ Some d → m ≡ map (λ x. f (g x)) (take (k + 1) xs)) [
      | None ↦ λ e h. cc
      | Some a ↦ λ e h. taken (λ x. f (g x)) xs k a l m b e so more (is ∙ ap f (sym (some_is (g a) d h)))
    ] refl at

-- what stands in the lists of a program's attributes and queries
pub attribute_truth : (xs : List DeclaredAttribute) (a : ℕ) → get_or (map (λ x. truth_kind x.declared.kind) xs) a true ≡ truth_kind (kind_or_truth (option_map (λ x. x.kind) (option_map (λ x. x.declared) (slice_get xs a))))
attribute_truth [] zero = refl
attribute_truth [] (suc a) = refl
attribute_truth (x ∷ xs) zero = refl
attribute_truth (x ∷ xs) (suc a) = attribute_truth xs a

pub query_truth : (qs : List Asked) (q : ℕ) → get_or (map (λ x. truth_kind x.kind) qs) q true ≡ truth_kind (kind_or_truth (option_map asked_kind (slice_get qs q)))
query_truth [] zero = refl
query_truth [] (suc q) = refl
query_truth (x ∷ qs) zero = refl
query_truth (x ∷ qs) (suc q) = query_truth qs q

module _ (p : Program) (attributes queries : List Bool) (are : AreTruths p attributes queries) where
  pub first_attribute : (i : Instance) (k : ℕ) → IsFirstKey i k → k < 2 ^ 63 → get_or attributes ((k - 2 ^ 61) / 2 ^ 32) true ≡ truth_kind (kind_in p i)
  first_attribute (Attribute a n xs) k h low =
      let at : (k - 2 ^ 61) / 2 ^ 32 ≡ a = omega (arith, h.1.1, h.1.2) in
      ap (λ (y : ℕ). get_or attributes y true) at ∙ ap (λ l. get_or l a true) are.of_attributes ∙ attribute_truth p.rules.attributes a
  first_attribute (Query q) k h low = absurd (omega (arith, h.1, low))

  pub first_query : (i : Instance) (k : ℕ) → IsFirstKey i k → 2 ^ 63 ≤ k → get_or queries (k - 2 ^ 63) true ≡ truth_kind (kind_in p i)
  first_query (Attribute a n xs) k h high = absurd (omega (arith, h.0, h.1.1, h.1.2, high))
  first_query (Query q) k h high =
      let at : k - 2 ^ 63 ≡ q = omega (arith, h.1) in
      ap (λ (y : ℕ). get_or queries y true) at ∙ ap (λ l. get_or l q true) are.of_queries ∙ query_truth p.queries q

-- a first key has a kind
pub first_kind : (i : Instance) (k : ℕ) → IsFirstKey i k → 2 ^ 61 ≤ k
first_kind (Attribute a n xs) k h = omega (arith, h.1.2)
first_kind (Query q) k h = omega (arith, h.1)
