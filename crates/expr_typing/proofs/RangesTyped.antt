-- The types of forms over the elements of lists and of sets that break nothing.
use Rattle.std.proofs.Common.{◌≡◌, [], false, Option, Some, None, is_none, refl, ap, sym, subst}
use Rattle.std.specs.Option.{option_map}
use Rattle.ast_grammar.specs.declared.grammar.ClassId.{ClassId}
use Rattle.aspect_items.specs.declared.expression.Quantifier.{Quantifier}
use Rattle.aspect_items.specs.declared.expression.Quantifier.TheVariants as forms
use Rattle.aspect_items.specs.Expressions.{Expr}
use Rattle.attr_rules.specs.declared.accessors.Accessor.{Accessor}
use Rattle.attr_rules.specs.declared.expression.Quantifier.TheVariants as quantifiers
use Rattle.attr_rules.specs.declared.kinds.Kind.{Kind}
use Rattle.attr_rules.specs.declared.kinds.Kind.TheVariants as kinds
use Rattle.attr_rules.specs.declared.types.ValueType.{ValueType}
use Rattle.attr_rules.specs.declared.types.ValueType.TheVariants as types
use Rattle.attr_rules.specs.Expression as said
use Rattle.attr_rules.specs.Expression.{Expression}
use Rattle.attr_rules.specs.Types.{elements_of, kept_kind, of_class}
use Rattle.attr_rules.specs.Typing as typing
use Rattle.attr_rules.specs.Typing.{HasType, Names}
use Rattle.expr_typing.specs.declared.ranges.Elements.{Elements}
use Rattle.expr_typing.specs.declared.ranges.Elements.TheVariants as elements
use Rattle.expr_typing.specs.Fitting.{body_misfit, has_no_elements}
use Rattle.expr_typing.specs.SetForms.{set_known}
use Rattle.expr_typing.specs.Typed.{element_type, elements_over, over_said, quantified_type, set_over, union_over}
use Rattle.expr_typing.proofs.FormsTyped.{IsTyped, of_type, wanted_truth}
use Rattle.expr_typing.proofs.ListsTyped.{IsListed}
use Rattle.expr_typing.proofs.MembersTyped.{kind_known}
use Rattle.expr_typing.proofs.SetFormsTyped.{set_is, set_there}

-- What stands as a range: it is of a type, or gives a list.
abbrev pub IsRanged : Names → Option ValueType → Option Accessor → Expression → Type 0
IsRanged N None x e = IsListed N e x
IsRanged N (Some t) x e = HasType N e t

kind_there : (o : Option Kind) → is_none (option_map elements.OfSet o) ≡ false → (k : Kind) × (o ≡ Some k)
kind_there None e = absurd (cc)
kind_there (Some k) e = (k, refl)

-- the elements of a set
set_elements : (q : Quantifier) (t : ValueType) → is_none (set_over q t) ≡ false → (k : Kind) × (set_over q t ≡ Some (elements.OfSet k)) × (elements_of t ≡ Some k)
set_elements forms.Each t there = let found = kind_there (elements_of t) there in (found.0, ap (option_map elements.OfSet) found.1, found.1)
set_elements forms.Any t there = let found = kind_there (elements_of t) there in (found.0, ap (option_map elements.OfSet) found.1, found.1)
set_elements forms.All t there = let found = kind_there (elements_of t) there in (found.0, ap (option_map elements.OfSet) found.1, found.1)
set_elements forms.First t there = absurd (cc)

module _ (N : Names) (e : Expression) where
  -- there are elements
  pub elements_there : (q : Quantifier) (x : Option Accessor) (o : Option ValueType) → IsRanged N o x e → has_no_elements q o ≡ false → (over : Elements) × (elements_over q x o ≡ Some over)
  elements_there q x None range some = (elements.OfList range.list, ap (option_map elements.OfList) range.is)
  elements_there q x (Some t) range some = let found = set_elements q t some in (elements.OfSet found.0, found.1)

  module _ (b : Expression) (u : Option ValueType) (f : Expr) where
    abbrev Body : Option Elements → Type 0
    Body o = IsTyped (typing.with_variable N (kind_known (option_map element_type o))) u b

    abbrev Form : Quantifier → Option Elements → Type 0
    Form q o = IsTyped N (quantified_type q o u) (over_said q u o e b)

    -- `each`, whose body is a set
    union_typed : (o : Elements) (v : ValueType) → set_known u ≡ Some v → HasType N (union_over (Some v) o e b) v → Form forms.Each (Some o)
    union_typed o v is typed = subst (λ w. IsTyped N w (union_over w o e b)) (sym is) (of_type N v (union_over (Some v) o e b) typed)

    module _ (x : Option Accessor) (l : IsListed N e x) where
      abbrev inner : Names
      inner = typing.with_variable N (kinds.Node l.component.class)

      inside : Body (Some (elements.OfList l.list)) → IsTyped inner u b
      inside body = subst (λ (c : ClassId). IsTyped (typing.with_variable N (kinds.Node c)) u b) l.of body

      over_list : (q : Quantifier) → Body (Some (elements.OfList l.list)) → body_misfit N.grammar q u f ≡ [] → Form q (Some (elements.OfList l.list))
      over_list forms.Each body none =
          let typed = inside body in
          let set = set_there u f typed.type typed.is none in
          union_typed (elements.OfList l.list) typed.type (set_is u typed.type typed.is set)
          (typing.each (kept_kind typed.type) l.class l.list.component.0 l.component typed.type l.owner l.found l.shaped typed.typed set refl)
      over_list forms.Any body none =
          of_type N (types.Of kinds.Truth) (said.Quantified quantifiers.Any l.list.component.0 e b)
          (typing.quantified quantifiers.Any l.class l.list.component.0 l.component l.owner l.found l.shaped (wanted_truth inner u f b (inside body) none))
      over_list forms.All body none =
          of_type N (types.Of kinds.Truth) (said.Quantified quantifiers.All l.list.component.0 e b)
          (typing.quantified quantifiers.All l.class l.list.component.0 l.component l.owner l.found l.shaped (wanted_truth inner u f b (inside body) none))
      over_list forms.First body none =
          let found = typing.quantified quantifiers.First l.class l.list.component.0 l.component l.owner l.found l.shaped (wanted_truth inner u f b (inside body) none) in
          of_type N (of_class l.list.class) (said.Quantified quantifiers.First l.list.component.0 e b) (subst (λ c. HasType N (said.Quantified quantifiers.First l.list.component.0 e b) (of_class c)) (sym l.of) found)

    module _ (t : ValueType) (k : Kind) (set : HasType N e t) (of : elements_of t ≡ Some k) where
      over_set : (q : Quantifier) → is_none (set_over q t) ≡ false → Body (Some (elements.OfSet k)) → body_misfit N.grammar q u f ≡ [] → Form q (Some (elements.OfSet k))
      over_set forms.Each some body none =
          let is = set_there u f body.type body.is none in
          union_typed (elements.OfSet k) body.type (set_is u body.type body.is is) (typing.each_of_set (kept_kind body.type) t k body.type set of body.typed is refl)
      over_set forms.Any some body none =
          of_type N (types.Of kinds.Truth) (said.QuantifiedSet quantifiers.Any e b) (typing.quantified_set quantifiers.Any t k refl set of (wanted_truth (typing.with_variable N k) u f b body none))
      over_set forms.All some body none =
          of_type N (types.Of kinds.Truth) (said.QuantifiedSet quantifiers.All e b) (typing.quantified_set quantifiers.All t k refl set of (wanted_truth (typing.with_variable N k) u f b body none))
      over_set forms.First some body none = absurd (cc)

    -- a form over some elements
    pub form_typed : (q : Quantifier) (x : Option Accessor) (o : Option ValueType) → IsRanged N o x e → has_no_elements q o ≡ false → Body (elements_over q x o) → body_misfit N.grammar q u f ≡ [] → Form q (elements_over q x o)
    form_typed q x None range some body none =
        let is = ap (option_map elements.OfList) range.is in
        subst (Form q) (sym is) (over_list x range q (subst Body is body) none)
    form_typed q x (Some t) range some body none =
        let found = set_elements q t some in
        subst (Form q) (sym found.1) (over_set t found.0 range found.2 q some (subst Body found.1 body) none)
