-- The lists over which forms go, where these break nothing.
use Rattle.std.proofs.Common.{◌≡◌, ◌==◌, ◌++◌, ℕ, true, false, not, Option, Some, None, is_some, length, if◌then◌else◌, refl, ap, sym, subst, ◌∙◌, []}
use Rattle.std.specs.Option.{option_and_then, option_map}
use Rattle.std.proofs.lemmas.Bool.{not-false}
use Rattle.rag_io.specs.declared.token.Place.{Place}
use Rattle.broken_rules.specs.Notes.{at, broken_if}
use Rattle.broken_rules.specs.declared.rule.Rule.TheVariants.{J10, J11}
use Rattle.broken_rules.proofs.Clean.{append_none, not_broken}
use Rattle.ast_grammar.specs.declared.grammar.ClassId.{ClassId}
use Rattle.ast_grammar.specs.declared.grammar.Shape.TheVariants as shapes
use Rattle.ast_grammar.specs.Grammar.{Component, component_at}
use Rattle.aspect_items.specs.Expressions.{Name}
use Rattle.attr_rules.specs.declared.accessors.Access.{Access}
use Rattle.attr_rules.specs.declared.accessors.Access.TheVariants as access
use Rattle.attr_rules.specs.declared.accessors.Accessor.{Accessor}
use Rattle.attr_rules.specs.declared.types.ValueType.{ValueType}
use Rattle.attr_rules.specs.Accessors.{arguments_of, type_read}
use Rattle.attr_rules.specs.Expression as said
use Rattle.attr_rules.specs.Expression.{Expression}
use Rattle.attr_rules.specs.Types.{class_in, of_class}
use Rattle.attr_rules.specs.Typing.{HasType, Names}
use Rattle.attr_scope.specs.declared.scope.Member.{Member}
use Rattle.attr_scope.specs.declared.scope.Member.TheVariants as members
use Rattle.expr_typing.specs.Calls.{call_broken, member_broken, on_class_broken}
use Rattle.attr_scope.specs.Scope.{Scope, arguments_wanted, is_list, kind_declared, list_called, member_of, member_on, type_called}
use Rattle.attr_scope.specs.ScopeKept.{IsScope}
use Rattle.expr_typing.specs.Typed.{call_said, first_in, read}
use Rattle.attr_scope.proofs.AccessorsFound.{IsAccessor}
use Rattle.expr_typing.proofs.FormsTyped.{IsTyped}
use Rattle.expr_typing.proofs.MembersTyped.{IsMember, class_is, member_found}

-- what has a type is no whole list
pub no_list : (s : Scope) (m : Member) (t : ValueType) → type_called s m ≡ Some t → is_list m ≡ false
no_list s (members.Reads x) t e = elim x.access as (λ a. x.access ≡ a → is_list (members.Reads x) ≡ false) [
  | access.Child ↦ λ is. ap (λ a. is_list (members.Reads (record { component = x.component; class = x.class; access = a }))) is
  | access.Token k ↦ λ is. ap (λ a. is_list (members.Reads (record { component = x.component; class = x.class; access = a }))) is
  | access.Has ↦ λ is. ap (λ a. is_list (members.Reads (record { component = x.component; class = x.class; access = a }))) is
  | access.Count ↦ λ is. ap (λ a. is_list (members.Reads (record { component = x.component; class = x.class; access = a }))) is
  | access.Elements ↦ λ is. absurd (let none : type_called s (members.Reads (record { component = x.component; class = x.class; access = access.Elements })) ≡ Some t = sym (ap (λ a. type_called s (members.Reads (record { component = x.component; class = x.class; access = a }))) is) ∙ e in cc)
  | access.Element ↦ λ is. ap (λ a. is_list (members.Reads (record { component = x.component; class = x.class; access = a }))) is
] refl
no_list s (members.Calls a) t e = refl

-- The list is there, and what has it is of a class that has such a list.
pub record IsListed (N : Names) (r : Expression) (o : Option Accessor) : Type 0 where
  pub list : Accessor
  pub is : o ≡ Some list
  pub class : ClassId
  pub owner : HasType N r (of_class class)
  pub component : Component
  pub found : component_at N.grammar class.0 list.component.0 ≡ Some component
  pub of : list.class ≡ component.class
  pub shaped : component.shape ≡ shapes.List

module _ (s : Scope) (is_scope : IsScope s) (N : Names) (same : N.grammar ≡ s.grammar) (r : Expression) (es : said.Arguments) where
  module _ (c : ClassId) (owner : HasType N r (of_class c)) where
    listed_read : (k : ℕ) (class : ClassId) (a : Access) (n : ℕ) → IsAccessor s.grammar c.0 (record { component = record { 0 = k }; class = class; access = a }) → (length (arguments_of a) == n) ≡ true → is_some (type_read a class) ≡ false
        → IsListed N (read a k r (first_in es)) (list_called n (members.Reads (record { component = record { 0 = k }; class = class; access = a })))
    listed_read k class access.Child n x count none = absurd (cc)
    listed_read k class (access.Token t) n x count none = absurd (cc)
    listed_read k class access.Has n x count none = absurd (cc)
    listed_read k class access.Count n x count none = absurd (cc)
    listed_read k class access.Elements n x count none =
        let list : Accessor = record { component = record { 0 = k }; class = class; access = access.Elements } in
        record {
          list = list;
          is = ap (λ b. if b then Some list else None) count;
          class = c;
          owner = owner;
          component = x.component;
          found = ap (λ g. component_at g c.0 k) same ∙ x.found;
          of = x.class;
          shaped = x.shaped;
        }
    listed_read k class access.Element n x count none = absurd (cc)

    listed_member : (m : Member) (p : Place) (n : ℕ) → IsMember s c m → (length (arguments_wanted s m) == n) ≡ true → is_some (type_called s m) ≡ false → IsListed N (call_said (Some m) p r es) (list_called n m)
    listed_member (members.Reads x) p n is count none = listed_read x.component.0 x.class x.access n is count none
    listed_member (members.Calls a) p n is count none =
        let typed : type_called s (members.Calls a) ≡ Some (kind_declared is.attribute) = ap (option_map kind_declared) is.declared in
        absurd (let both : true ≡ false = sym (ap is_some typed) ∙ none in cc)

    listed_named : (o : Option Member) (name : Name) (n : ℕ) (first : Place) → member_of s name.text n c ≡ o → member_broken s true o name n first ≡ [] → is_some (option_and_then (type_called s) o) ≡ false
        → IsListed N (call_said o name.place r es) (option_and_then (list_called n) o)
    listed_named None name n first is none typeless = absurd (cc)
    listed_named (Some m) name n first is none typeless =
        let takes = length (arguments_wanted s m) == n in
        let count : takes ≡ true = not-false takes (not_broken (not takes) (at name.place J11) (append_none (broken_if (not takes) (at name.place J11)) [] none).0) in
        listed_member m name.place n (member_found s is_scope c name.text n m is) count typeless

  module _ (name : Name) (n : ℕ) (first : Place) where
    listed_on : (t : ValueType) (o : Option ClassId) → class_in t ≡ o → HasType N r t → on_class_broken s true name n first o ≡ [] → is_some (option_and_then (type_called s) (option_and_then (member_of s name.text n) o)) ≡ false
        → IsListed N (call_said (option_and_then (member_of s name.text n) o) name.place r es) (option_and_then (list_called n) (option_and_then (member_of s name.text n) o))
    listed_on t None is owner none typeless = absurd (cc)
    listed_on t (Some c) is owner none typeless = listed_named c (subst (HasType N r) (class_is t c is) owner) (member_of s name.text n c) name n first refl none typeless

    -- the list that a call gives behind what has it
    pub call_listed : (t : Option ValueType) → IsTyped N t r → call_broken s true name n first t ≡ [] → is_some (option_and_then (type_called s) (member_on s t name.text n)) ≡ false
        → IsListed N (call_said (member_on s t name.text n) name.place r es) (option_and_then (list_called n) (member_on s t name.text n))
    call_listed t owner =
        subst (λ u. call_broken s true name n first u ≡ [] → is_some (option_and_then (type_called s) (member_on s u name.text n)) ≡ false → IsListed N (call_said (member_on s u name.text n) name.place r es) (option_and_then (list_called n) (member_on s u name.text n)))
        (sym owner.is) (listed_on owner.type (class_in owner.type) refl owner.typed)

-- a call as a range that has a type may stand anywhere
module _ (s : Scope) (name : Name) (n : ℕ) (first : Place) (u : ValueType) where
  member_anywhere : (o : Option Member) → option_and_then (type_called s) o ≡ Some u → member_broken s true o name n first ≡ [] → member_broken s false o name n first ≡ []
  member_anywhere None typed none = none
  member_anywhere (Some m) typed none =
      ap (λ b. broken_if (not (length (arguments_wanted s m) == n)) (at name.place J11) ++ broken_if b (at first J10)) (no_list s m u typed) ∙ none

  class_anywhere : (o : Option ClassId) → option_and_then (type_called s) (option_and_then (member_of s name.text n) o) ≡ Some u → on_class_broken s true name n first o ≡ [] → on_class_broken s false name n first o ≡ []
  class_anywhere None typed none = none
  class_anywhere (Some c) typed none = member_anywhere (member_of s name.text n c) typed none

  pub call_anywhere : (t : Option ValueType) → option_and_then (type_called s) (member_on s t name.text n) ≡ Some u → call_broken s true name n first t ≡ [] → call_broken s false name n first t ≡ []
  call_anywhere None typed none = none
  call_anywhere (Some t) typed none = class_anywhere (class_in t) typed none
