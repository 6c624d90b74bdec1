-- The names that an equation begins with, one after the other.
use Rattle.std.proofs.Common.{◌≡◌, ℕ, pos, List, [], ◌∷◌, ◌++◌, append-nil, append_assoc, Some, None, drop, map, Option, refl, slice_get, sym, ap, ◌∙◌}
use Rattle.std.specs.Int.{int_wrap}
use Rattle.std.specs.Option.{option_map}
use Rattle.std.proofs.lemmas.List.{map-append}
use mir.Syntax.{w32}
use Rattle.attr_rules.specs.declared.dispatch.Target.{Target}
use Rattle.attr_rules.specs.declared.kinds.Kind.{Kind}
use Rattle.attr_rules.specs.Rules.{Equation, target_in}
use Rattle.equation_law.specs.declared.coding.Single.{Single as CodedSingle}
use Rattle.equation_law.specs.Codes.{Naming, arguments_by, single_by, value_coded}
use Rattle.equation_law.specs.Values.{Int, Value, argument_value, as_argument}
use Rattle.inherited_walk.specs.Sites.{reach_or_own}
use Rattle.expr_eval.proofs.Given.{first_and_rest, nothing_first}

-- a list of which the first is put behind another
moved : (xs : List Value) (v : Value) (ys : List Value) → (xs ++ v ∷ []) ++ ys ≡ xs ++ v ∷ ys
moved xs v ys = append_assoc xs (v ∷ []) ys

module _ (n : Naming) where
  -- a name more
  name_more : (names : List CodedSingle) (v : CodedSingle) (ys : List Value) → map (single_by n) (names ++ v ∷ []) ++ ys ≡ map (single_by n) names ++ single_by n v ∷ ys
  name_more names v ys = ap (λ xs. xs ++ ys) (map-append (single_by n) names (v ∷ [])) ∙ moved (map (single_by n) names) (single_by n v) ys

  pub argument_more : (names later : List CodedSingle) (v : CodedSingle) (ks ls : List Kind) (cs ds : List ℕ) (k : Kind) (c : ℕ) → Some k ≡ slice_get ks 0 → ls ≡ drop 1 ks → Some c ≡ slice_get cs 0 → ds ≡ drop 1 cs → later ≡ names ++ v ∷ [] → single_by n v ≡ argument_value (as_argument k (value_coded n k c))
      → map (single_by n) later ++ map argument_value (arguments_by n ls ds) ≡ map (single_by n) names ++ map argument_value (arguments_by n ks cs)
  argument_more names later v ks ls cs ds k c first rest code codes pushed is =
      let kinds : k ∷ ls ≡ ks = ap (λ zs. k ∷ zs) rest ∙ sym (first_and_rest ks k first) in
      let all : c ∷ ds ≡ cs = ap (λ zs. c ∷ zs) codes ∙ sym (first_and_rest cs c code) in
      ap (λ zs. map (single_by n) zs ++ map argument_value (arguments_by n ls ds)) pushed ∙ name_more names v (map argument_value (arguments_by n ls ds))
      ∙ ap (λ w. map (single_by n) names ++ w ∷ map argument_value (arguments_by n ls ds)) is ∙ (λ i. map (single_by n) names ++ map argument_value (arguments_by n (kinds i) (all i)))

  -- none without a parameter, or without a code
  no_argument : (names : List CodedSingle) (ks : List Kind) (cs : List ℕ) → arguments_by n ks cs ≡ [] → map (single_by n) names ++ map argument_value (arguments_by n ks cs) ≡ map (single_by n) names
  no_argument names ks cs none = ap (λ xs. map (single_by n) names ++ map argument_value xs) none ∙ append-nil (map (single_by n) names)

  pub no_parameter : (names : List CodedSingle) (ks : List Kind) (cs : List ℕ) → None ≡ slice_get ks 0 → map (single_by n) names ++ map argument_value (arguments_by n ks cs) ≡ map (single_by n) names
  no_parameter names ks cs none = no_argument names ks cs (ap (λ ls. arguments_by n ls cs) (nothing_first ks none))

  without_code : (ks : List Kind) → arguments_by n ks [] ≡ []
  without_code [] = refl
  without_code (k ∷ ks) = refl

  pub no_code : (names : List CodedSingle) (ks : List Kind) (cs : List ℕ) → None ≡ slice_get cs 0 → map (single_by n) names ++ map argument_value (arguments_by n ks cs) ≡ map (single_by n) names
  no_code names ks cs none = no_argument names ks cs (ap (arguments_by n ks) (nothing_first cs none) ∙ without_code ks)

  abbrev places : List ℕ → List Value
  places cs = map (λ c. Int (int_wrap w32 (pos c))) cs

  -- a place more, and none
  pub place_more : (names later : List CodedSingle) (v : CodedSingle) (cs ds : List ℕ) (c : ℕ) → Some c ≡ slice_get cs 0 → ds ≡ drop 1 cs → later ≡ names ++ v ∷ [] → single_by n v ≡ Int (int_wrap w32 (pos c))
      → map (single_by n) later ++ places ds ≡ map (single_by n) names ++ places cs
  place_more names later v cs ds c code codes pushed is =
      let all : c ∷ ds ≡ cs = ap (λ zs. c ∷ zs) codes ∙ sym (first_and_rest cs c code) in
      ap (λ zs. map (single_by n) zs ++ places ds) pushed ∙ name_more names v (places ds) ∙ ap (λ w. map (single_by n) names ++ w ∷ places ds) is ∙ ap (λ zs. map (single_by n) names ++ places zs) all

  pub no_place : (names : List CodedSingle) (cs : List ℕ) → None ≡ slice_get cs 0 → map (single_by n) names ++ places cs ≡ map (single_by n) names
  no_place names cs none = ap (λ zs. map (single_by n) names ++ places zs) (nothing_first cs none) ∙ append-nil (map (single_by n) names)

-- the path of an equation by its target
pub reach_is : (o : Option Equation) (t : Target) → option_map target_in o ≡ Some t → t.reach ≡ reach_or_own o
reach_is None t e = cc
reach_is (Some q) t e = let same : q.target ≡ t = cc in ap (λ (x : Target). x.reach) (sym same)
