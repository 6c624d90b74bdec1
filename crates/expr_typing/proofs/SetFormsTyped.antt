-- The types of the forms of sets that break nothing, from those of their arguments.
use Rattle.std.proofs.Common.{◌≡◌, ◌++◌, [], true, false, Option, Some, None, is_none, if◌then◌else◌, refl, ap, sym, ◌∙◌, subst}
use Rattle.std.specs.Option.{option_and_then}
use Rattle.std.proofs.lemmas.Bool.{not-false}
use Rattle.broken_rules.specs.Notes.{at, broken_if}
use Rattle.broken_rules.specs.declared.rule.Rule.TheVariants.{J10}
use Rattle.broken_rules.proofs.Clean.{append_none, not_broken}
use Rattle.aspect_items.specs.Expressions.{Expr, Name}
use Rattle.attr_rules.specs.declared.kinds.Kind.TheVariants as kinds
use Rattle.attr_rules.specs.declared.types.ValueType.{ValueType}
use Rattle.attr_rules.specs.declared.types.ValueType.TheVariants as types
use Rattle.attr_rules.specs.Expression as said
use Rattle.attr_rules.specs.Expression.{Expression}
use Rattle.attr_rules.specs.Types.{common, is_set, kept_kind, may_be_element, set_of}
use Rattle.attr_rules.specs.Typing as typing
use Rattle.attr_rules.specs.Typing.{Names}
use Rattle.expr_typing.specs.declared.set_forms.SetForm.{SetForm}
use Rattle.expr_typing.specs.declared.set_forms.SetForm.TheVariants as forms
use Rattle.expr_typing.specs.Places.{place_of}
use Rattle.expr_typing.specs.SetForms.{common_of, has_no_sets, have_no_common, is_foreign, is_no_set, made_said, no_set, one_broken, one_said, one_type, pair_broken, pair_said, pair_type, set_known}
use Rattle.expr_typing.proofs.FormsTyped.{IsTyped, known_type, of_type}

-- a part that is known to be a set
pub set_there : (t : Option ValueType) (e : Expr) (v : ValueType) → t ≡ Some v → no_set t e ≡ [] → is_set v ≡ true
set_there t e v is none = not-false (is_set v) (ap is_no_set (sym is) ∙ not_broken (is_no_set t) (at (place_of e) J10) none)

pub set_is : (t : Option ValueType) (v : ValueType) → t ≡ Some v → is_set v ≡ true → set_known t ≡ Some v
set_is t v is set = ap set_known is ∙ ap (λ b. if b then Some v else None) set

module _ (N : Names) (n : Name) (t : Option ValueType) (a : Expr) (x : Expression) (first : IsTyped N t x) where
  -- a form with one argument
  pub one_typed : (f : SetForm) → one_broken f n t a ≡ [] → IsTyped N (one_type f t) (one_said f x)
  one_typed (forms.Makes o) none = absurd (cc)
  one_typed forms.Single none =
      let there : is_none (set_of first.type) ≡ false = ap has_no_sets (sym first.is) ∙ not_broken (has_no_sets t) (at (place_of a) J10) none in
      let found = known_type (set_of first.type) there in
      record { type = found.0; is = ap (option_and_then set_of) first.is ∙ found.1; typed = typing.single first.type found.0 first.typed found.1 }
  one_typed forms.Contains none = absurd (cc)
  one_typed forms.Size none = of_type N (types.Of kinds.Int) (said.Size x) (typing.size first.type first.typed (set_there t a first.type first.is none))

  module _ (u : Option ValueType) (b : Expr) (y : Expression) (second : IsTyped N u y) where
    -- a form with two
    pub pair_typed : (f : SetForm) → pair_broken N.grammar f n t a u b ≡ [] → IsTyped N (pair_type N.grammar f t u) (pair_said f (pair_type N.grammar f t u) x y)
    pair_typed (forms.Makes o) none =
        let apart = broken_if (have_no_common N.grammar (set_known t) (set_known u)) (at (place_of b) J10) in
        let parts = append_none (no_set t a) (no_set u b ++ apart) none in
        let rest = append_none (no_set u b) apart parts.1 in
        let set = set_there t a first.type first.is parts.0 in
        let left = set_is t first.type first.is set in
        let right = set_is u second.type second.is (set_there u b second.type second.is rest.0) in
        let shared = common N.grammar first.type second.type in
        let there : is_none shared ≡ false = (λ i. have_no_common N.grammar (sym left i) (sym right i)) ∙ not_broken (have_no_common N.grammar (set_known t) (set_known u)) (at (place_of b) J10) rest.1 in
        let found = known_type shared there in
        let type : common_of N.grammar (set_known t) (set_known u) ≡ Some found.0 = (λ i. common_of N.grammar (left i) (right i)) ∙ found.1 in
        subst (λ v. IsTyped N v (made_said o v x y)) (sym type)
        (of_type N found.0 (said.Sets o (kept_kind found.0) x y) (typing.sets o (kept_kind found.0) first.type second.type found.0 first.typed second.typed set found.1 refl))
    pair_typed forms.Single none = absurd (cc)
    pair_typed forms.Contains none =
        let foreign = broken_if (is_foreign N.grammar (set_known t) u) (at (place_of b) J10) in
        let parts = append_none (no_set t a) foreign none in
        let left = set_is t first.type first.is (set_there t a first.type first.is parts.0) in
        let fits = (λ i. is_foreign N.grammar (sym left i) (sym second.is i)) ∙ not_broken (is_foreign N.grammar (set_known t) u) (at (place_of b) J10) parts.1 in
        of_type N (types.Of kinds.Truth) (said.Contains x y) (typing.contains first.type second.type first.typed second.typed (not-false (may_be_element N.grammar first.type second.type) fits))
    pair_typed forms.Size none = absurd (cc)
