-- Inherited attributes of one name are of one type and have one list of parameters, where their declarations break nothing.
use Rattle.std.proofs.Common.{◌≡◌, ℕ, zero, suc, ◌<◌, ◌&&◌, ◌||◌, Bool, true, false, cond, not, nat_lt, List, [], ◌∷◌, Some, find, get_or, is_none, position, slice_get, take, refl, sym, ap, ◌∙◌, arith, bytes_eq}
use Rattle.std.specs.Option.{option_and_then, unwrap_or}
use Rattle.std.proofs.lemmas.Bool.{and_from, ltb-true, not-false}
use Rattle.std.proofs.lemmas.Bool.Decides.{nat_tests}
use Rattle.std.proofs.lemmas.List.Quantifiers.{position-Some}
use Rattle.std.proofs.lemmas.Option.{get_or_from_slice_get}
use Rattle.std.proofs.lemmas.Slice.Eq.{bytes_eq-Decides}
use Rattle.broken_rules.specs.Notes.{at}
use Rattle.broken_rules.specs.declared.rule.Rule.TheVariants.{J4, J15}
use Rattle.broken_rules.proofs.Clean.{not_broken}
use Rattle.ast_grammar.specs.Grammar.{Class}
use Rattle.ast_grammar.proofs.Positions.{position-map}
use Rattle.attr_rules.specs.declared.kinds.Attr.{Attr}
use Rattle.attr_rules.specs.declared.kinds.Kind.TheVariants as kinds
use Rattle.attr_rules.specs.Rules.{Attribute, declared_at, declared_of, first_inherited as first_named, first_of_name, is_inherited}
use Rattle.attr_heads.specs.Heads.{attribute_of, attributes_of, first_inherited, heads_broken, is_other, is_other_than, type_in}
use Rattle.attr_heads.specs.Parameters.{differ, parameter_types, params_of, params_written}
use Rattle.attr_heads.specs.Starts.{are_unlike, is_circular}
use Rattle.attr_scope.specs.Written.{Head}
use Rattle.attr_scope.specs.WrittenTypes.{kind_written, same_kind, type_written}
use Rattle.attr_heads.proofs.DeclaredClean.{head_there}
use Rattle.attr_scope.proofs.ItemsFound.{either_false, map_found, some_from}
use Rattle.attr_heads.proofs.KindsKnown.{same_types}
use Rattle.attr_heads.proofs.ParametersClean.{are_typed, same_written}

-- the first item that passes is found before any later place
found_before : {X : Type 0} (p : X → Bool) (xs : List X) (a b : ℕ) (x : X) → slice_get xs b ≡ Some x → p x ≡ true → ((k : ℕ) → k < b → p (get_or xs k x) ≡ false) → b < a → find p (take a xs) ≡ Some x
found_before p [] a b x there passes fails lt = absurd cc
found_before p (y ∷ ys) zero b x there passes fails lt = absurd (omega arith)
found_before p (y ∷ ys) (suc a) zero x there passes fails lt =
    let same : y ≡ x = cc in
    ap (λ z. cond (p z) (Some z) (find p (take a ys))) same ∙ ap (λ t. cond t (Some x) (find p (take a ys))) passes
found_before p (y ∷ ys) (suc a) (suc b) x there passes fails lt =
    ap (λ t. cond t (Some y) (find p (take a ys))) (fails 0 (omega arith)) ∙ found_before p ys a b x there passes (λ k h. fails (suc k) (omega arith)) (omega arith)

-- one number is below another, where it isn't the same and not above it
below_or_same : (a b : ℕ) → (a < b → ⊥) → (nat_lt b a ≡ false) → b ≡ a
below_or_same a b not_below not_above = grind (arith, nat_tests)

-- two that aren't unlike
circular_alike : (a b : Bool) → are_unlike a b ≡ false → b ≡ a
circular_alike true true e = refl
circular_alike true false e = absurd cc
circular_alike false true e = absurd cc
circular_alike false false e = refl

module _ (g : List Class) (list : List Head) (none : heads_broken g list ≡ []) where
  -- the same type and the same parameters, and circular or not alike
  abbrev AreAlike : Head → Head → Type 0
  AreAlike h f = (kind_written g h.of ≡ kind_written g f.of) × (params_written g h.signature.parameters ≡ params_written g f.signature.parameters) × (is_circular h.circular ≡ is_circular f.circular)

  -- a later inherited attribute of a name is as the first
  as_first : (a b : ℕ) (h f : Head) → slice_get list a ≡ Some h → is_inherited h.sort ≡ true → slice_get list b ≡ Some f → first_inherited (take a list) h.signature.name.text ≡ Some f → AreAlike h f
  as_first a b h f at_a inherited at_b found =
      let here = head_there g list a h none at_a in
      let there = head_there g list b f none at_b in
      let other = is_other g h (first_inherited (take a list) h.signature.name.text) in
      let not_other : is_other_than g h f ≡ false = ap (is_other g h) (sym found) ∙ ap (λ b. b && other) (sym inherited) ∙ not_broken (is_inherited h.sort && other) (at h.signature.name.place J15) here.other in
      let unlike = are_unlike (is_circular f.circular) (is_circular h.circular) in
      let other_params = differ g (parameter_types g f.signature.parameters) h.signature.parameters in
      let apart = either_false (not (same_kind (type_in g f) (type_in g h))) (unlike || other_params) not_other in
      let rest = either_false unlike other_params apart.1 in
      let same : same_kind (type_in g f) (type_in g h) ≡ true = not-false (same_kind (type_in g f) (type_in g h)) apart.0 in
      let known = not_broken (is_none (type_written g h.of)) (at h.of.place J4) here.of in
      let known_first = not_broken (is_none (type_written g f.of)) (at f.of.place J4) there.of in
      let kinds_same = same_written g f.signature.parameters h.signature.parameters (are_typed g [] f.signature.parameters there.parameters) (are_typed g [] h.signature.parameters here.parameters) rest.1 in
      (ap (λ o. unwrap_or o kinds.Truth) (sym (same_types (type_in g f) (type_in g h) known_first known same)), ap params_of (sym kinds_same), circular_alike (is_circular f.circular) (is_circular h.circular) rest.0)

  -- whether an attribute is an inherited one of a name
  abbrev is_one : List ℕ → Head → Bool
  is_one name h = is_inherited h.sort && bytes_eq h.signature.name.text name

  pub alike : (a b : ℕ) (d e : Attr) → declared_at (attributes_of g list) a ≡ Some d → is_inherited d.sort ≡ true → first_of_name (attributes_of g list) a ≡ Some b → declared_at (attributes_of g list) b ≡ Some e
      → (d.kind ≡ e.kind) × (d.params ≡ e.params) × (d.circular ≡ e.circular)
  alike a b d e declared inherited first declared_first =
      let x = some_from declared_of (slice_get (attributes_of g list) a) d declared in
      let h = map_found (attribute_of g) list a x.0 x.1 in
      let y = some_from declared_of (slice_get (attributes_of g list) b) e declared_first in
      let f = map_found (attribute_of g) list b y.0 y.1 in
      let name = h.0.signature.name.text in
      let named : position (is_one name) list ≡ Some b =
      sym (position-map (attribute_of g) (λ (z : Attribute). is_inherited z.declared.sort && bytes_eq z.name name) list)
      ∙ ap (λ (z : Attribute). first_named (attributes_of g list) z.name) h.2 ∙ sym (ap (option_and_then (λ (z : Attribute). first_named (attributes_of g list) z.name)) x.1) ∙ first in
      let before_fail = position-Some (is_one name) list b in
      let inherits : is_inherited h.0.sort ≡ true = ap (λ (z : Attribute). is_inherited z.declared.sort) h.2 ∙ ap (λ (z : Attr). is_inherited z.sort) x.2 ∙ inherited in
      let passes : is_one name h.0 ≡ true = and_from (is_inherited h.0.sort) (bytes_eq name name) inherits ((bytes_eq-Decides name name).1 refl) in
      let not_below : a < b → ⊥ =
      (λ lt. let fails : is_one name h.0 ≡ false = ap (is_one name) (sym (get_or_from_slice_get list a h.0 h.0 h.1)) ∙ (before_fail h.0 named).2 a lt in absurd (cc))
      in
      let passes_first : is_one name f.0 ≡ true = ap (is_one name) (sym (get_or_from_slice_get list b f.0 f.0 f.1)) ∙ (before_fail f.0 named).1 in
      let of_a : declared_of (attribute_of g h.0) ≡ d = ap declared_of h.2 ∙ x.2 in
      let of_b : declared_of (attribute_of g f.0) ≡ e = ap declared_of f.2 ∙ y.2 in
      elim (nat_lt b a) as (λ t. nat_lt b a ≡ t → (d.kind ≡ e.kind) × (d.params ≡ e.params) × (d.circular ≡ e.circular)) [
        | true ↦ λ lt. (
            let same = as_first a b h.0 f.0 h.1 inherits f.1 (found_before (is_one name) list a b f.0 f.1 passes_first (before_fail f.0 named).2 (ltb-true b a lt)) in (
              ap (λ (z : Attr). z.kind) (sym of_a) ∙ same.0 ∙ ap (λ (z : Attr). z.kind) of_b,
              ap (λ (z : Attr). z.params) (sym of_a) ∙ same.1 ∙ ap (λ (z : Attr). z.params) of_b,
              ap (λ (z : Attr). z.circular) (sym of_a) ∙ same.2 ∙ ap (λ (z : Attr). z.circular) of_b,
            )
            )
        | false ↦ λ past. (
            let one : declared_at (attributes_of g list) b ≡ declared_at (attributes_of g list) a = ap (declared_at (attributes_of g list)) (below_or_same a b not_below past) in
            let same : d ≡ e = cc in
            (ap (λ (z : Attr). z.kind) same, ap (λ (z : Attr). z.params) same, ap (λ (z : Attr). z.circular) same)
            )
      ] refl
