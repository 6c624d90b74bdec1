-- The types of names.
use Rattle.expr_typing.specs.declared.ranges.Elements.{Elements}
use Rattle.aspect_items.specs.Expressions.{Name}
use Rattle.std.proofs.Common.{◌≡◌, ℕ, false, List, [], map, Option, Some, None, is_none, get_or, slice_get, sym, ap, subst, ◌∙◌, ◌∷◌, suc, zero}
use Rattle.std.specs.Option.{option_and_then, option_map}
use Rattle.std.proofs.lemmas.List.Quantifiers.{position-Some}
use Rattle.std.proofs.lemmas.Option.{slice_get-get_or, slice_get-map}
use Rattle.ast_grammar.specs.declared.grammar.ClassId.{ClassId}
use Rattle.attr_rules.specs.declared.kinds.Kind.{Kind}
use Rattle.attr_rules.specs.declared.types.ValueType.TheVariants as types
use Rattle.attr_rules.specs.Expression as said
use Rattle.attr_rules.specs.Typing as typing
use Rattle.attr_scope.specs.Scope.{Scope, Variable, is_named, variable_named, variable_type, with_variable}
use Rattle.expr_typing.specs.Typed.{name_said, element_kind, element_named, element_type}
use Rattle.expr_typing.proofs.FormsTyped.{IsTyped, of_type}
use Rattle.expr_typing.proofs.MembersTyped.{kind_known, names_at, variable_kind}

-- the type of each name's values is known
pub record AreKnown (s : Scope) : Type 0 where
  pub known : (k : ℕ) (v : Variable) → slice_get s.variables k ≡ Some v → (t : Kind) × (v.type ≡ Some (types.Of t))

no_variable : Variable
no_variable = record { name = []; type = None }

module _ (s : Scope) (all : AreKnown s) (node : ℕ → Option ClassId) (this : Option ClassId) (name : List ℕ) where
  pub variable_typed : (o : Option ℕ) → variable_named s name ≡ o → is_none o ≡ false → IsTyped (names_at s node this) (option_and_then variable_type (option_and_then (slice_get s.variables) o)) (name_said o)
  variable_typed None e some = absurd (cc)
  variable_typed (Some k) e some =
      let at = position-Some (is_named name) s.variables k no_variable e in
      let there = slice_get-get_or s.variables k no_variable at.0 in
      let of = all.known k (get_or s.variables k no_variable) there in
      let type : option_and_then variable_type (slice_get s.variables k) ≡ Some (types.Of of.0) = ap (option_and_then variable_type) there ∙ of.1 in
      let kept : slice_get (map variable_kind s.variables) k ≡ Some of.0 = slice_get-map variable_kind s.variables k ∙ ap (option_map variable_kind) there ∙ ap (λ t. Some (kind_known t)) of.1 in
      subst (λ t. IsTyped (names_at s node this) t (said.Variable k)) (sym type) (of_type (names_at s node this) (types.Of of.0) (said.Variable k) (typing.variable k of.0 kept))

-- the scope of the body of a form over some elements
pub inside_known : (s : Scope) → AreKnown s → (name : Name) (o : Option Elements) (elements : Elements) → o ≡ Some elements → AreKnown (with_variable s (element_named name o))
inside_known s all name o elements is = record {
  known = λ k v. elim k as (λ k. slice_get (element_named name o ∷ s.variables) k ≡ Some v → (t : Kind) × (v.type ≡ Some (types.Of t))) [
    | zero ↦ λ e. (element_kind elements, (let same : element_named name o ≡ v = cc in sym (ap variable_type same) ∙ ap (option_map element_type) is))
    | suc j ↦ λ e. all.known j v e
  ];
}
