-- The types of calls that break nothing.
use Rattle.std.proofs.Common.{◌≡◌, ◌==◌, nat_lt, ℕ, Bool, List, [], ◌∷◌, true, false, not, map, Option, Some, None, length, if◌then◌else◌, refl, ap, sym, ◌∙◌, subst, eqb-true}
use Rattle.std.specs.Option.{option_and_then, option_map}
use Rattle.std.proofs.lemmas.Bool.{not-false}
use Rattle.rag_io.specs.declared.token.Place.{Place}
use Rattle.broken_rules.specs.Notes.{at, broken_if}
use Rattle.broken_rules.specs.declared.rule.Rule.TheVariants.{J10, J11}
use Rattle.broken_rules.proofs.Clean.{append_none, not_broken}
use Rattle.ast_grammar.specs.declared.grammar.ClassId.{ClassId}
use Rattle.aspect_items.specs.Expressions.{Name}
use Rattle.attr_rules.specs.declared.accessors.Access.{Access}
use Rattle.attr_rules.specs.declared.accessors.Access.TheVariants as access
use Rattle.attr_rules.specs.declared.accessors.Accessor.{Accessor}
use Rattle.attr_rules.specs.declared.kinds.AttrId.{AttrId}
use Rattle.attr_rules.specs.declared.kinds.Kind.{Kind}
use Rattle.attr_rules.specs.declared.kinds.Kind.TheVariants as kinds
use Rattle.attr_scope.specs.declared.scope.Member.{Member}
use Rattle.attr_scope.specs.declared.scope.Member.TheVariants as members
use Rattle.attr_rules.specs.declared.types.ValueType.{ValueType}
use Rattle.attr_rules.specs.declared.types.ValueType.TheVariants as types
use Rattle.attr_rules.specs.Accessors.{accessor_of, arguments_of, type_read}
use Rattle.attr_rules.specs.Expression as said
use Rattle.attr_rules.specs.Expression.{Arguments, Expression}
use Rattle.attr_rules.specs.Rules.{attribute_named, declared_at}
use Rattle.attr_rules.specs.Types.{class_in, fits, kept_kind, of_class}
use Rattle.attr_rules.specs.Typing as typing
use Rattle.attr_rules.specs.Typing.{Fit, HasType, Names}
use Rattle.expr_typing.specs.Calls.{call_broken, member_broken, on_class_broken}
use Rattle.attr_scope.specs.Scope.{Scope, arguments_wanted, attribute_in, calls, either_member, is_elements, is_list, kind_declared, kinds_declared, member_of, member_on, type_called, wanted_for, Variable}
use Rattle.attr_scope.specs.ScopeKept.{IsScope}
use Rattle.expr_typing.specs.Typed.{call_said, first_in, read}
use Rattle.attr_scope.proofs.AccessorsFound.{IsAccessor, accessor_found}
use Rattle.expr_typing.proofs.FormsTyped.{IsTyped, int_is, of_type}
use Rattle.attr_scope.proofs.AttributesFound.{HasAttribute, named_has}

-- the type at which a name's values are kept
abbrev pub kind_known : Option ValueType → Kind
kind_known None = kinds.Truth
kind_known (Some t) = kept_kind t

abbrev pub variable_kind : Variable → Kind
variable_kind v = kind_known v.type

-- what may be named in a scope, where there are these source nodes, and at a node of this class
abbrev pub names_at : Scope → (ℕ → Option ClassId) → Option ClassId → Names
names_at s node this = record { grammar = s.grammar; attribute = declared_at s.known.attributes; node = node; this = this; variables = map variable_kind s.variables }

-- the same in an equation
abbrev pub names_in : Scope → Names
names_in s = names_at s (λ k. None) (Some s.this)

pub class_is : (t : ValueType) (c : ClassId) → class_in t ≡ Some c → t ≡ of_class c
class_is types.Null c e = absurd (cc)
class_is types.Empty c e = absurd (cc)
class_is (types.Of kinds.Truth) c e = absurd (cc)
class_is (types.Of kinds.Int) c e = absurd (cc)
class_is (types.Of kinds.Text) c e = absurd (cc)
class_is (types.Of (kinds.Node d)) c e = let same : d ≡ c = cc in ap of_class same
class_is (types.Of kinds.Texts) c e = absurd (cc)
class_is (types.Of (kinds.Nodes d)) c e = absurd (cc)

-- A member is an accessor or an attribute of a class.
abbrev pub IsMember : Scope → ClassId → Member → Type 0
IsMember s c (members.Reads x) = IsAccessor s.grammar c.0 x
IsMember s c (members.Calls a) = HasAttribute s.grammar s.known.attributes c.0 a.0

-- The arguments fit, where there are as many as are wanted.
pub record IsPassed (N : Names) (wanted : List Kind) (n : ℕ) (es : Arguments) : Type 0 where
  pub passed : length wanted ≡ n → Fit N es wanted

-- the only argument of an accessor
int_fits : {N : Names} (e : Expression) (t : ValueType) → HasType N e t → fits N.grammar t kinds.Int ≡ true → HasType N e (types.Of kinds.Int)
int_fits {N} e t typed fit = subst (HasType N e) (int_is t fit) typed

int_first : {N : Names} {es : Arguments} → Fit N es (kinds.Int ∷ []) → HasType N (first_in es) (types.Of kinds.Int)
int_first (typing.more {e = e} t typed fit rest) = int_fits e t typed fit

module _ (s : Scope) (is_scope : IsScope s) where
  -- an attribute of a class of the grammar, is one of the class
  is_named : (c : ClassId) (name : List ℕ) (a : ℕ) (b : Bool) → (if b then attribute_named s.known.superclasses s.known.attributes c name else None) ≡ Some a → attribute_named s.known.superclasses s.known.attributes c name ≡ Some a
  is_named c name a true e = e
  is_named c name a false e = absurd (cc)

  either_found : (c : ClassId) (name : List ℕ) (n : ℕ) (x : Option Accessor) (a : Option ℕ) (m : Member) → accessor_of s.grammar c.0 name n ≡ x → attribute_in s name c ≡ a
      → either_member x a ≡ Some m → IsMember s c m
  either_found c name n None None m reads named e = absurd (cc)
  either_found c name n None (Some a) m reads named e =
      let same : calls a ≡ m = cc in
      subst (IsMember s c) same (named_has s.grammar s.known.attributes c name a (ap (λ above. attribute_named above s.known.attributes c name) (sym is_scope.superclasses) ∙ is_named c name a (nat_lt c.0 (length s.grammar)) named))
  either_found c name n (Some x) a m reads named e =
      let same : members.Reads x ≡ m = cc in
      subst (IsMember s c) same (accessor_found s.grammar c.0 name n x reads)

  -- what a name means behind a receiver of a class, is there
  pub member_found : (c : ClassId) (name : List ℕ) (n : ℕ) (m : Member) → member_of s name n c ≡ Some m → IsMember s c m
  member_found c name n m e = either_found c name n (accessor_of s.grammar c.0 name n) (attribute_in s name c) m refl refl e

  module _ (node : ℕ → Option ClassId) (this : Option ClassId) (c : ClassId) (r : Expression) (es : Arguments) (receiver : HasType (names_at s node this) r (of_class c)) where
    of_its_class : {a : Access} (k : ℕ) (class : ClassId) (e : Expression) (x : IsAccessor s.grammar c.0 (record { component = record { 0 = k }; class = class; access = a })) → HasType (names_at s node this) e (of_class x.component.class) → HasType (names_at s node this) e (of_class class)
    of_its_class k class e x typed = subst (λ d. HasType (names_at s node this) e (of_class d)) (sym x.class) typed

    -- what an accessor reads is typed
    read_typed : (k : ℕ) (class : ClassId) (a : Access) (n : ℕ) → IsAccessor s.grammar c.0 (record { component = record { 0 = k }; class = class; access = a }) → is_elements a ≡ false → (length (arguments_of a) == n) ≡ true
        → IsPassed (names_at s node this) (arguments_of a) n es → IsTyped (names_at s node this) (type_read a class) (read a k r (first_in es))
    read_typed k class access.Child n x list count argument =
        of_type (names_at s node this) (of_class class) (said.Child k r) (of_its_class k class (said.Child k r) x (typing.child c k x.component receiver x.found x.shaped))
    read_typed k class (access.Token t) n x list count argument = of_type (names_at s node this) (types.Of t) (said.Token t k r) (typing.token c k x.component t receiver x.found x.shaped)
    read_typed k class access.Has n x list count argument = of_type (names_at s node this) (types.Of kinds.Truth) (said.Has k r) (typing.has c k x.component receiver x.found x.shaped)
    read_typed k class access.Count n x list count argument = of_type (names_at s node this) (types.Of kinds.Int) (said.Count k r) (typing.count c k x.component receiver x.found x.shaped)
    read_typed k class access.Elements n x list count argument = absurd (cc)
    read_typed k class access.Element n x list count argument =
        let i = first_in es in
        of_type (names_at s node this) (of_class class) (said.Element k r i) (of_its_class k class (said.Element k r i) x (typing.element c k x.component receiver x.found x.shaped (int_first (argument.passed (eqb-true 1 n count)))))

    called_typed : (a : AttrId) (p : Place) → HasAttribute s.grammar s.known.attributes c.0 a.0 → Fit (names_at s node this) es (arguments_wanted s (members.Calls a)) → IsTyped (names_at s node this) (type_called s (members.Calls a)) (said.Call a.0 p r es)
    called_typed a p has fit = record {
      type = types.Of has.attribute.kind;
      is = ap (option_map kind_declared) has.declared;
      typed = typing.call c a.0 p has.attribute receiver has.declared has.has (subst (λ o. Fit (names_at s node this) es (kinds_declared o)) has.declared fit);
    }

    -- what a member says is typed
    pub member_says : (m : Member) (p : Place) (n : ℕ) → IsMember s c m → is_list m ≡ false → (length (arguments_wanted s m) == n) ≡ true → IsPassed (names_at s node this) (arguments_wanted s m) n es
        → IsTyped (names_at s node this) (type_called s m) (call_said (Some m) p r es)
    member_says (members.Reads x) p n is list count argument = read_typed x.component.0 x.class x.access n is list count argument
    member_says (members.Calls a) p n is list count argument = called_typed a p is (argument.passed (eqb-true (length (arguments_wanted s (members.Calls a))) n count))

    member_typed : (o : Option Member) (name : Name) (n : ℕ) (first : Place) → member_of s name.text n c ≡ o → member_broken s false o name n first ≡ [] → IsPassed (names_at s node this) (wanted_for s o n) n es
        → IsTyped (names_at s node this) (option_and_then (type_called s) o) (call_said o name.place r es)
    member_typed None name n first is none argument = absurd (cc)
    member_typed (Some m) name n first is none argument =
        let takes = length (arguments_wanted s m) == n in
        let parts = append_none (broken_if (not takes) (at name.place J11)) (broken_if (is_list m) (at first J10)) none in
        let count : takes ≡ true = not-false takes (not_broken (not takes) (at name.place J11) parts.0) in
        let list : is_list m ≡ false = not_broken (is_list m) (at first J10) parts.1 in
        let wanted : wanted_for s (Some m) n ≡ arguments_wanted s m = ap (λ b. if b then arguments_wanted s m else []) count in
        member_says m name.place n (member_found c name.text n m is) list count (subst (λ ks. IsPassed (names_at s node this) ks n es) wanted argument)

  module _ (node : ℕ → Option ClassId) (this : Option ClassId) (r : Expression) (es : Arguments) (name : Name) (n : ℕ) (first : Place) where
    class_typed : (t : ValueType) (o : Option ClassId) → class_in t ≡ o → HasType (names_at s node this) r t → on_class_broken s false name n first o ≡ []
        → IsPassed (names_at s node this) (wanted_for s (option_and_then (member_of s name.text n) o) n) n es
        → IsTyped (names_at s node this) (option_and_then (type_called s) (option_and_then (member_of s name.text n) o)) (call_said (option_and_then (member_of s name.text n) o) name.place r es)
    class_typed t None is receiver none argument = absurd (cc)
    class_typed t (Some c) is receiver none argument = member_typed node this c r es (subst (HasType (names_at s node this) r) (class_is t c is) receiver) (member_of s name.text n c) name n first refl none argument

    -- what a call says behind a receiver, is typed
    pub call_typed : (t : Option ValueType) → IsTyped (names_at s node this) t r → call_broken s false name n first t ≡ [] → IsPassed (names_at s node this) (wanted_for s (member_on s t name.text n) n) n es
        → IsTyped (names_at s node this) (option_and_then (type_called s) (member_on s t name.text n)) (call_said (member_on s t name.text n) name.place r es)
    call_typed t receiver none argument =
        subst (λ u. call_broken s false name n first u ≡ [] → IsPassed (names_at s node this) (wanted_for s (member_on s u name.text n) n) n es
        → IsTyped (names_at s node this) (option_and_then (type_called s) (member_on s u name.text n)) (call_said (member_on s u name.text n) name.place r es))
        (sym receiver.is) (class_typed receiver.type (class_in receiver.type) refl receiver.typed) none argument
