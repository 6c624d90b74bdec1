-- What has a type by the rules breaks nothing, and its type is the one that is known.
use Rattle.std.proofs.Common.{◌≡◌, ℕ, suc, ◌≤◌, ◌==◌, List, [], ◌++◌, Bool, true, false, not, ◌&&◌, Option, Some, None, is_none, length, nat_lt, refl, ap, sym, ◌∙◌, subst, arith, codes, if◌then◌else◌}
use Rattle.std.specs.Option.{option_and_then, option_map}
use Rattle.std.specs.Str.{bytes_eq}
use Rattle.std.proofs.lemmas.Bool.{le-ltb}
use Rattle.std.proofs.lemmas.Bool.Decides.{Decides-eqb}
use Rattle.std.proofs.lemmas.Slice.Eq.{bytes_eq-Decides}
use Rattle.rag_io.specs.declared.token.Place.{Place}
use Rattle.broken_rules.specs.declared.broken.Broken.{Broken}
use Rattle.broken_rules.specs.declared.rule.Rule.TheVariants.{J2, J9, J10, J11, J17}
use Rattle.broken_rules.specs.Notes.{at, broken_if}
use Rattle.ast_grammar.specs.declared.grammar.ClassId.{ClassId}
use Rattle.ast_grammar.specs.Grammar.{Class, class_named}
use Rattle.attr_rules.specs.declared.accessors.Access.TheVariants as access
use Rattle.attr_rules.specs.declared.accessors.Accessor.{Accessor}
use Rattle.attr_rules.specs.declared.expression.SetOperator.{SetOperator}
use Rattle.attr_rules.specs.declared.expression.SetOperator.TheVariants.{Union, Inter, Minus}
use Rattle.attr_rules.specs.declared.kinds.Kind.{Kind}
use Rattle.attr_rules.specs.declared.kinds.Kind.TheVariants as kinds
use Rattle.attr_rules.specs.declared.types.ValueType.{ValueType}
use Rattle.attr_rules.specs.declared.types.ValueType.TheVariants as types
use Rattle.attr_rules.specs.Accessors.{arguments_of, type_read}
use Rattle.attr_rules.specs.Types.{class_of_number, common, comparable, elements_of, fits, is_node, is_set, may_be_element, of_class, parameter_kinds, set_of}
use Rattle.aspect_items.specs.declared.expression.Operator.{Operator}
use Rattle.aspect_items.specs.declared.expression.Quantifier.{Quantifier}
use Rattle.aspect_items.specs.declared.expression.Quantifier.TheVariants as quantifiers
use Rattle.aspect_items.specs.Expressions.{Expr, Arguments, Name, no_more, argument, Int, Variable as Named, Call, Member, Quantified}
use Rattle.attr_scope.specs.declared.scope.Member as member
use Rattle.attr_scope.specs.declared.scope.Member.TheVariants as members
use Rattle.attr_scope.specs.Classes.{class_broken}
use Rattle.attr_scope.specs.Scope.{Scope, arguments_wanted, is_elements, is_list, kinds_declared, kind_declared, list_called, member_of, member_on, type_called, type_named, wanted_for, with_variable}
use Rattle.expr_typing.specs.declared.ranges.Elements.{Elements}
use Rattle.expr_typing.specs.declared.ranges.Elements.TheVariants as elements
use Rattle.expr_typing.specs.declared.set_forms.SetForm.{SetForm}
use Rattle.expr_typing.specs.declared.set_forms.SetForm.TheVariants as forms
use Rattle.expr_typing.specs.declared.standing.Stands.{Stands}
use Rattle.expr_typing.specs.declared.standing.Stands.TheVariants.{Anywhere, Negated, Range}
use Rattle.expr_typing.specs.Calls.{call_broken, member_broken}
use Rattle.expr_typing.specs.Fitting.{are_apart, body_misfit, equal_broken, has_no_elements, is_no_node, is_unfit, misfit, no_node, no_range, sides_broken}
use Rattle.expr_typing.specs.Places.{place_of}
use Rattle.expr_typing.specs.SetForms.{common_of, form_by, form_named, form_type, has_no_sets, have_no_common, is_foreign, is_no_set, no_set, operator_named, other_named, set_known}
use Rattle.expr_typing.specs.Standing.{greatest, is_range}
use Rattle.expr_typing.specs.Typed.{count, element_named, element_type, elements_over, inside, known, list_alone, list_of, quantified_type, range_of, result_of, set_over, type_alone, types_known}
use Rattle.attr_bodies.specs.Bodies.{alone_broken, arguments_broken, expr_broken, form_broken, wanted_alone}
use Rattle.expr_typing.proofs.ListsTyped.{no_list}
use Rattle.typing_rules.specs.TypeRules as rules
use Rattle.typing_rules.specs.TypeRules.{Asks, Compares, Fit, GoesOver, IsCalled, IsForm, IsList, IsTyped, OnInts, OnTruths, with_element}
use Rattle.typing_rules.proofs.NamesMean.{means_named, means_type}

-- two lists of broken rules, of which both are empty
pub none_after : {bs cs : List Broken} → bs ≡ [] → cs ≡ [] → bs ++ cs ≡ []
none_after {bs} {cs} h k = λ i. h i ++ k i

-- a rule that isn't broken
pub none_if : {b : Bool} (x : Broken) → b ≡ false → broken_if b x ≡ []
none_if x h = ap (λ b. broken_if b x) h

-- an expression of a known type breaks nothing wherever it stands
pub record IsClean (s : Scope) (e : Expr) (t : ValueType) : Type 0 where
  pub is : known s e ≡ Some t
  pub none : (w : Stands) → expr_broken s w e ≡ []

-- a call is of a known type, and breaks nothing wherever it stands; neither do its arguments
pub record IsCleanCall (s : Scope) (c : ClassId) (n : Name) (es : Arguments) (t : ValueType) : Type 0 where
  pub meant : member.Member
  pub is : member_of s n.text (count es) c ≡ Some meant
  pub type : type_called s meant ≡ Some t
  pub none : (range : Bool) (first : Place) → member_broken s range (Some meant) n (count es) first ≡ []
  pub arguments : arguments_broken s (wanted_for s (Some meant) (count es)) es ≡ []

-- arguments that fit
pub record AreClean (s : Scope) (es : Arguments) (ks : List Kind) : Type 0 where
  pub many : length ks ≡ count es
  pub none : arguments_broken s ks es ≡ []

-- a whole list breaks nothing as a range
pub record IsCleanList (s : Scope) (e : Expr) (c : ClassId) : Type 0 where
  pub untyped : known s e ≡ None
  pub list : Accessor
  pub class : list.class ≡ c
  pub is : list_of s e ≡ Some list
  pub none : expr_broken s Range e ≡ []

-- a range breaks nothing, and has elements
pub record IsCleanRange (s : Scope) (e : Expr) (k : Kind) (q : Quantifier) : Type 0 where
  pub over : Elements
  pub is : range_of s q e ≡ Some over
  pub type : element_type over ≡ types.Of k
  pub none : expr_broken s Range e ≡ []
  pub some : no_range q (known s e) e ≡ []

-- the forms of sets have their names
pub form_is : {name : List ℕ} {f : SetForm} → IsForm name f → form_named name ≡ Some f
form_is rules.union = refl
form_is rules.inter = refl
form_is rules.minus = refl
form_is rules.single = refl
form_is rules.contains = refl
form_is rules.size = refl

pub ints_known : (o : Operator) (k : Kind) → OnInts o k → result_of o ≡ Some (types.Of k)
ints_known o k rules.multiply = refl
ints_known o k rules.add = refl
ints_known o k rules.subtract = refl
ints_known o k rules.less = refl
ints_known o k rules.at_most = refl
ints_known o k rules.greater = refl
ints_known o k rules.at_least = refl

truths_known : (o : Operator) → OnTruths o → result_of o ≡ Some (types.Of kinds.Truth)
truths_known o rules.and = refl
truths_known o rules.or = refl

compared_known : (o : Operator) → Compares o → result_of o ≡ Some (types.Of kinds.Truth)
compared_known o rules.equal = refl
compared_known o rules.differ = refl

module _ (g : List Class) where
  -- types that fit
  pub fits_none : (wanted : Kind) (o : Option ValueType) (t : ValueType) (e : Expr) → o ≡ Some t → fits g t wanted ≡ true → misfit g wanted o e ≡ []
  fits_none wanted o t e is fit = none_if (at (place_of e) J10) (ap (λ o. is_unfit g o wanted) is ∙ ap not fit)

  module _ (t : Option ValueType) (a : Expr) (u : Option ValueType) (b : Expr) where
    both_int : t ≡ Some (types.Of kinds.Int) → u ≡ Some (types.Of kinds.Int) → misfit g kinds.Int t a ++ misfit g kinds.Int u b ≡ []
    both_int h j = none_after (fits_none kinds.Int t (types.Of kinds.Int) a h refl) (fits_none kinds.Int u (types.Of kinds.Int) b j refl)

    both_truth : t ≡ Some (types.Of kinds.Truth) → u ≡ Some (types.Of kinds.Truth) → misfit g kinds.Truth t a ++ misfit g kinds.Truth u b ≡ []
    both_truth h j = none_after (fits_none kinds.Truth t (types.Of kinds.Truth) a h refl) (fits_none kinds.Truth u (types.Of kinds.Truth) b j refl)

    ints_none : (o : Operator) (k : Kind) → OnInts o k → t ≡ Some (types.Of kinds.Int) → u ≡ Some (types.Of kinds.Int) → sides_broken g o t a u b ≡ []
    ints_none o k rules.multiply h j = both_int h j
    ints_none o k rules.add h j = both_int h j
    ints_none o k rules.subtract h j = both_int h j
    ints_none o k rules.less h j = both_int h j
    ints_none o k rules.at_most h j = both_int h j
    ints_none o k rules.greater h j = both_int h j
    ints_none o k rules.at_least h j = both_int h j

    truths_none : (o : Operator) → OnTruths o → t ≡ Some (types.Of kinds.Truth) → u ≡ Some (types.Of kinds.Truth) → sides_broken g o t a u b ≡ []
    truths_none o rules.and h j = both_truth h j
    truths_none o rules.or h j = both_truth h j

    equal_none : (v w : ValueType) → t ≡ Some v → u ≡ Some w → comparable v w ≡ true → equal_broken t u b ≡ []
    equal_none v w h j same = none_if (at (place_of b) J10) ((λ i. are_apart (h i) (j i)) ∙ ap not same)

    compared_none : (o : Operator) (v w : ValueType) → Compares o → t ≡ Some v → u ≡ Some w → comparable v w ≡ true → sides_broken g o t a u b ≡ []
    compared_none o v w rules.equal h j same = equal_none v w h j same
    compared_none o v w rules.differ h j same = equal_none v w h j same

  -- a class that is named
  pub class_none : (n : Name) (c : ℕ) → class_named g n.text ≡ Some c → class_broken g n ≡ []
  class_none n c is = none_if (at n.place J2) (ap is_none is)

node_none : (o : Option ValueType) (t : ValueType) (e : Expr) → o ≡ Some t → is_node t ≡ true → no_node o e ≡ []
node_none o t e is node = none_if (at (place_of e) J10) (ap is_no_node is ∙ ap not node)

set_none : (o : Option ValueType) (t : ValueType) (e : Expr) → o ≡ Some t → is_set t ≡ true → no_set o e ≡ []
set_none o t e is set = none_if (at (place_of e) J10) (ap is_no_set is ∙ ap not set)

set_is : (o : Option ValueType) (t : ValueType) → o ≡ Some t → is_set t ≡ true → set_known o ≡ Some t
set_is o t is set = ap set_known is ∙ ap (λ b. if b then Some t else None) set

literal_none : (most n : ℕ) (p : Place) → n ≤ most → broken_if (nat_lt most n) (at p J17) ≡ []
literal_none most n p within = none_if (at p J17) (le-ltb most n within)

-- a name that is that of no form
module _ (name : List ℕ) where
  abbrev operator_by : Bool → Bool → Bool → Option SetOperator
  operator_by a b c = if a then Some Union else (if b then Some Inter else (if c then Some Minus else None))

  abbrev other_by : Bool → Bool → Bool → Option SetForm
  other_by a b c = if a then Some forms.Single else (if b then Some forms.Contains else (if c then Some forms.Size else None))

  named : (f : SetForm) (word : List ℕ) → name ≡ word → IsForm word f → IsForm name f
  named f word is form = subst (λ x. IsForm x f) (sym is) form

  made_from : (a b c : Bool) (o : SetOperator) → (a ≡ true → name ≡ codes "union") → (b ≡ true → name ≡ codes "inter") → (c ≡ true → name ≡ codes "minus") → operator_by a b c ≡ Some o → IsForm name (forms.Makes o)
  made_from true b c o h i j e = let same : Union ≡ o = cc in subst (λ o. IsForm name (forms.Makes o)) same (named (forms.Makes Union) (codes "union") (h refl) rules.union)
  made_from false true c o h i j e = let same : Inter ≡ o = cc in subst (λ o. IsForm name (forms.Makes o)) same (named (forms.Makes Inter) (codes "inter") (i refl) rules.inter)
  made_from false false true o h i j e = let same : Minus ≡ o = cc in subst (λ o. IsForm name (forms.Makes o)) same (named (forms.Makes Minus) (codes "minus") (j refl) rules.minus)
  made_from false false false o h i j e = absurd (cc)

  other_from : (a b c : Bool) (f : SetForm) → (a ≡ true → name ≡ codes "single") → (b ≡ true → name ≡ codes "contains") → (c ≡ true → name ≡ codes "size") → other_by a b c ≡ Some f → IsForm name f
  other_from true b c f h i j e = let same : forms.Single ≡ f = cc in subst (IsForm name) same (named forms.Single (codes "single") (h refl) rules.single)
  other_from false true c f h i j e = let same : forms.Contains ≡ f = cc in subst (IsForm name) same (named forms.Contains (codes "contains") (i refl) rules.contains)
  other_from false false true f h i j e = let same : forms.Size ≡ f = cc in subst (IsForm name) same (named forms.Size (codes "size") (j refl) rules.size)
  other_from false false false f h i j e = absurd (cc)

  spelled : (word : List ℕ) → bytes_eq name word ≡ true → name ≡ word
  spelled word = (bytes_eq-Decides name word).0

  by_from : (o : Option SetOperator) (x : Option SetForm) (f : SetForm) → ((p : SetOperator) → o ≡ Some p → IsForm name (forms.Makes p)) → ((g : SetForm) → x ≡ Some g → IsForm name g) → form_by o x ≡ Some f → IsForm name f
  by_from None x f made other e = other f e
  by_from (Some o) x f made other e = let same : forms.Makes o ≡ f = cc in subst (IsForm name) same (made o refl)

  -- a form that a name means has that name
  pub form_from : (f : SetForm) → form_named name ≡ Some f → IsForm name f
  form_from f e =
      by_from (operator_named name) (other_named name) f
      (λ p is. made_from (bytes_eq name (codes "union")) (bytes_eq name (codes "inter")) (bytes_eq name (codes "minus")) p (spelled (codes "union")) (spelled (codes "inter")) (spelled (codes "minus")) is)
      (λ g is. other_from (bytes_eq name (codes "single")) (bytes_eq name (codes "contains")) (bytes_eq name (codes "size")) g (spelled (codes "single")) (spelled (codes "contains")) (spelled (codes "size")) is)
      e

  no_form_by : (o : Option SetForm) → form_named name ≡ o → ((f : SetForm) → IsForm name f → ⊥) → form_named name ≡ None
  no_form_by None is none = is
  no_form_by (Some f) is none = absurd (none f (form_from f is))

  pub no_form : ((f : SetForm) → IsForm name f → ⊥) → form_named name ≡ None
  no_form none = no_form_by (form_named name) refl none

-- what a call breaks, that takes these arguments
no_elements : (range : Bool) (m : member.Member) → is_list m ≡ false → (not range && is_list m) ≡ false
no_elements true m is = refl
no_elements false m is = is

module _ (s : Scope) (n : Name) (es : Arguments) where
  call_clean : (c : ClassId) (m : member.Member) (t : ValueType) (ks : List Kind) → member_of s n.text (count es) c ≡ Some m → type_called s m ≡ Some t → arguments_wanted s m ≡ ks → AreClean s es ks → IsCleanCall s c n es t
  call_clean c m t ks is type wanted fit =
      let takes : (length (arguments_wanted s m) == count es) ≡ true = (Decides-eqb (length (arguments_wanted s m)) (count es)).1 (ap length wanted ∙ fit.many) in
      let all : wanted_for s (Some m) (count es) ≡ ks = ap (λ b. if b then arguments_wanted s m else []) takes ∙ wanted in
      record {
        meant = m;
        is = is;
        type = type;
        none = λ range first. none_after (none_if (at n.place J11) (ap not takes)) (none_if (at first J10) (no_elements range m (no_list s m t type)));
        arguments = ap (λ ks. arguments_broken s ks es) all ∙ fit.none;
      }

  member_clean : (e : Expr) (c : ClassId) (t : ValueType) → IsClean s e (of_class c) → IsCleanCall s c n es t → IsClean s (Member e n es) t
  member_clean e c t r call =
      let k = count es in
      let meant : member_on s (known s e) n.text k ≡ Some call.meant = ap (λ o. member_on s o n.text k) r.is ∙ call.is in
      record {
        is = ap (option_and_then (type_called s)) meant ∙ call.type;
        none = λ w.
            let here : call_broken s (is_range w) n k (place_of e) (known s e) ≡ [] =
            ap (call_broken s (is_range w) n k (place_of e)) r.is ∙ ap (λ m. member_broken s (is_range w) m n k (place_of e)) call.is ∙ call.none (is_range w) (place_of e)
            in
            let inner : arguments_broken s (wanted_for s (member_on s (known s e) n.text k) k) es ≡ [] = ap (λ m. arguments_broken s (wanted_for s m k) es) meant ∙ call.arguments in
            none_after (r.none Anywhere) (none_after here inner);
      }

  abbrev broken_by : Bool → Option SetForm → List Broken
  broken_by range o = alone_broken s range n es (arguments_broken s (wanted_alone s n (count es) o) es) o

  alone_clean : (t : ValueType) → form_named n.text ≡ None → IsCleanCall s s.this n es t → IsClean s (Call n es) t
  alone_clean t none call =
      let k = count es in
      let meant : member_on s (Some (of_class s.this)) n.text k ≡ Some call.meant = call.is in
      record {
        is = ap (λ o. type_alone s n (types_known s es) k o) none ∙ ap (option_and_then (type_called s)) meant ∙ call.type;
        none = λ w.
            let here : call_broken s (is_range w) n k n.place (Some (of_class s.this)) ≡ [] = ap (λ m. member_broken s (is_range w) m n k n.place) call.is ∙ call.none (is_range w) n.place in
            let inner : arguments_broken s (wanted_for s (member_on s (Some (of_class s.this)) n.text k) k) es ≡ [] = ap (λ m. arguments_broken s (wanted_for s m k) es) meant ∙ call.arguments in
            ap (broken_by (is_range w)) none ∙ none_after here inner;
      }

  form_clean : (f : SetForm) (t : ValueType) → IsForm n.text f → arguments_broken s [] es ≡ [] → form_broken s f n es ≡ [] → form_type s.grammar f (types_known s es) ≡ Some t → IsClean s (Call n es) t
  form_clean f t form inner none type = record {
    is = ap (λ o. type_alone s n (types_known s es) (count es) o) (form_is form) ∙ type;
    none = λ w. ap (broken_by (is_range w)) (form_is form) ∙ none_after inner none;
  }

-- one argument, and two, of which no types are wanted
one_none : (s : Scope) (a : Expr) (t : ValueType) → IsClean s a t → arguments_broken s [] (argument a no_more) ≡ []
one_none s a t h = none_after (h.none Anywhere) refl

two_none : (s : Scope) (a b : Expr) (t u : ValueType) → IsClean s a t → IsClean s b u → arguments_broken s [] (argument a (argument b no_more)) ≡ []
two_none s a b t u h j = none_after (h.none Anywhere) (none_after (j.none Anywhere) refl)

module _ (s : Scope) (n : Name) (a : Expr) (t : ValueType) (h : IsClean s a t) where
  single_clean : (u : ValueType) → IsForm n.text forms.Single → set_of t ≡ Some u → IsClean s (Call n (argument a no_more)) u
  single_clean u form is =
      form_clean s n (argument a no_more) forms.Single u form (one_none s a t h) (none_if (at (place_of a) J10) (ap has_no_sets h.is ∙ ap is_none is)) (ap (option_and_then set_of) h.is ∙ is)

  size_clean : IsForm n.text forms.Size → is_set t ≡ true → IsClean s (Call n (argument a no_more)) (types.Of kinds.Int)
  size_clean form set = form_clean s n (argument a no_more) forms.Size (types.Of kinds.Int) form (one_none s a t h) (set_none (known s a) t a h.is set) refl

  module _ (b : Expr) (u : ValueType) (j : IsClean s b u) where
    abbrev both : Arguments
    both = argument a (argument b no_more)

    made_clean : (o : SetOperator) (v : ValueType) → IsForm n.text (forms.Makes o) → is_set t ≡ true → is_set u ≡ true → common s.grammar t u ≡ Some v → IsClean s (Call n both) v
    made_clean o v form set other is =
        let left = set_is (known s a) t h.is set in
        let right = set_is (known s b) u j.is other in
        let apart : have_no_common s.grammar (set_known (known s a)) (set_known (known s b)) ≡ false = (λ i. have_no_common s.grammar (left i) (right i)) ∙ ap is_none is in
        form_clean s n both (forms.Makes o) v form (two_none s a b t u h j)
        (none_after (set_none (known s a) t a h.is set) (none_after (set_none (known s b) u b j.is other) (none_if (at (place_of b) J10) apart)))
        ((λ i. common_of s.grammar (left i) (right i)) ∙ is)

    contains_clean : IsForm n.text forms.Contains → is_set t ≡ true → may_be_element s.grammar t u ≡ true → IsClean s (Call n both) (types.Of kinds.Truth)
    contains_clean form set is =
        let left = set_is (known s a) t h.is set in
        let foreign : is_foreign s.grammar (set_known (known s a)) (known s b) ≡ false = (λ i. is_foreign s.grammar (left i) (j.is i)) ∙ ap not is in
        form_clean s n both forms.Contains (types.Of kinds.Truth) form (two_none s a b t u h j) (none_after (set_none (known s a) t a h.is set) (none_if (at (place_of b) J10) foreign)) refl

-- what has elements is a set
element_of_set : (g : List Class) (t u : ValueType) → may_be_element g t u ≡ true → is_set t ≡ true
element_of_set g types.Null u e = absurd (cc)
element_of_set g types.Empty u e = refl
element_of_set g (types.Of kinds.Truth) u e = absurd (cc)
element_of_set g (types.Of kinds.Int) u e = absurd (cc)
element_of_set g (types.Of kinds.Text) u e = absurd (cc)
element_of_set g (types.Of (kinds.Node c)) u e = absurd (cc)
element_of_set g (types.Of kinds.Texts) u e = refl
element_of_set g (types.Of (kinds.Nodes c)) u e = refl

-- a list that an accessor reads
module _ (s : Scope) (x : Accessor) (elements_read : x.access ≡ access.Elements) where
  list_untyped : type_called s (members.Reads x) ≡ None
  list_untyped = ap (λ a. type_read a x.class) elements_read

  list_there : list_called 0 (members.Reads x) ≡ Some x
  list_there = λ i. if length (arguments_of (elements_read i)) == 0 then (if is_elements (elements_read i) then Some x else None) else None

  list_none : (n : Name) (first : Place) → member_broken s true (Some (members.Reads x)) n 0 first ≡ []
  list_none n first = ap (λ a. broken_if (not (length (arguments_of a) == 0)) (at n.place J11) ++ []) elements_read

  module _ (n : Name) where
    listed_clean : (e : Expr) (c : ClassId) → IsClean s e (of_class c) → member_of s n.text 0 c ≡ Some (members.Reads x) → IsCleanList s (Member e n no_more) x.class
    listed_clean e c r is =
        let meant : member_on s (known s e) n.text 0 ≡ Some (members.Reads x) = ap (λ o. member_on s o n.text 0) r.is ∙ is in
        let here : call_broken s true n 0 (place_of e) (known s e) ≡ [] = ap (call_broken s true n 0 (place_of e)) r.is ∙ ap (λ m. member_broken s true m n 0 (place_of e)) is ∙ list_none n (place_of e) in
        record {
          untyped = ap (option_and_then (type_called s)) meant ∙ list_untyped;
          list = x;
          class = refl;
          is = ap (option_and_then (list_called 0)) meant ∙ list_there;
          none = none_after (r.none Anywhere) (none_after here refl);
        }

    alone_listed_clean : form_named n.text ≡ None → member_of s n.text 0 s.this ≡ Some (members.Reads x) → IsCleanList s (Call n no_more) x.class
    alone_listed_clean none is =
        record {
          untyped = ap (λ o. type_alone s n [] 0 o) none ∙ ap (option_and_then (type_called s)) is ∙ list_untyped;
          list = x;
          class = refl;
          is = ap (λ o. list_alone s n 0 o) none ∙ ap (option_and_then (list_called 0)) is ∙ list_there;
          none = ap (broken_by s n no_more true) none ∙ none_after (ap (λ m. member_broken s true m n 0 n.place) is ∙ list_none n n.place) refl;
        }

-- ranges
module _ (s : Scope) (e : Expr) (q : Quantifier) where
  list_range : (c : ClassId) → IsCleanList s e c → IsCleanRange s e (kinds.Node c) q
  list_range c l = record {
    over = elements.OfList l.list;
    is = (λ i. elements_over q (l.is i) (l.untyped i));
    type = ap of_class l.class;
    none = l.none;
    some = none_if (at (place_of e) J10) (ap (has_no_elements q) l.untyped);
  }

  set_range : (t : ValueType) (k : Kind) → ((v : ValueType) → set_over q v ≡ option_map elements.OfSet (elements_of v)) → elements_of t ≡ Some k → IsClean s e t → IsCleanRange s e k q
  set_range t k takes of h =
      let there : set_over q t ≡ Some (elements.OfSet k) = takes t ∙ ap (option_map elements.OfSet) of in
      record {
        over = elements.OfSet k;
        is = ap (elements_over q (list_of s e)) h.is ∙ there;
        type = refl;
        none = h.none Range;
        some = none_if (at (place_of e) J10) (ap (has_no_elements q) h.is ∙ ap is_none there);
      }

-- forms over some elements
module _ (s : Scope) (q : Quantifier) (p : Place) (n : Name) (r e : Expr) (k : Kind) (u t : ValueType) (range : IsCleanRange s r k q) (body : IsClean (with_element s n k) e u) where
  inside_is : inside s q n r ≡ with_element s n k
  inside_is = ap (λ o. with_variable s (element_named n o)) range.is ∙ ap (λ (v : ValueType). with_variable s (record { name = n.text; type = Some v })) range.type

  quantified_clean : body_misfit s.grammar q (Some u) e ≡ [] → quantified_type q (Some range.over) (Some u) ≡ Some t → IsClean s (Quantified q p n r e) t
  quantified_clean fit type =
      let is : known (inside s q n r) e ≡ Some u = ap (λ i. known i e) inside_is ∙ body.is in
      let inner : expr_broken (inside s q n r) Anywhere e ≡ [] = ap (λ i. expr_broken i Anywhere e) inside_is ∙ body.none Anywhere in
      record {
        is = (λ i. quantified_type q (range.is i) (is i)) ∙ type;
        none = λ w. none_after (none_after range.none range.some) (none_after inner (ap (λ o. body_misfit s.grammar q o e) is ∙ fit));
      }

-- a literal, and a name
literal_clean : (w : Stands) (n : ℕ) (p : Place) → n ≤ 2147483647 → broken_if (nat_lt (greatest w) n) (at p J17) ≡ []
literal_clean Anywhere n p within = literal_none 2147483647 n p within
literal_clean Negated n p within = let more : n ≤ 2147483648 = omega (arith, within) in literal_none 2147483648 n p more
literal_clean Range n p within = literal_none 2147483647 n p within

variable_clean : (s : Scope) (n : Name) (t : ValueType) → type_named s n.text ≡ Some t → IsClean s (Named n) t
variable_clean s n t is = record { is = is; none = λ w. none_if (at n.place J9) (means_named s n.text t is) }

-- the forms that go over sets too
abbrev TakesSets : Quantifier → Type 0
TakesSets q = (v : ValueType) → set_over q v ≡ option_map elements.OfSet (elements_of v)

asks_sets : (q : Quantifier) → Asks q → TakesSets q
asks_sets q rules.any = λ v. refl
asks_sets q rules.all = λ v. refl

asks_truth : (g : List Class) (q : Quantifier) (e : Expr) → Asks q → body_misfit g q (Some (types.Of kinds.Truth)) e ≡ []
asks_truth g q e rules.any = refl
asks_truth g q e rules.all = refl

asks_type : (q : Quantifier) (o : Option Elements) (u : Option ValueType) → Asks q → quantified_type q o u ≡ Some (types.Of kinds.Truth)
asks_type q o u rules.any = refl
asks_type q o u rules.all = refl

mutual
  -- what has a type is of that type, and breaks nothing wherever it stands
  pub clean : {s : Scope} {e : Expr} {t : ValueType} → IsTyped s e t → IsClean s e t
  clean (rules.truth p b) = record { is = refl; none = λ w. refl }
  clean (rules.null p) = record { is = refl; none = λ w. refl }
  clean (rules.empty p) = record { is = refl; none = λ w. refl }
  clean (rules.this p) = record { is = refl; none = λ w. refl }
  clean (rules.literal p n within) = record { is = refl; none = λ w. literal_clean w n p within }
  clean (rules.text p n) = record { is = refl; none = λ w. refl }
  clean {s} (rules.variable n t means) = variable_clean s n t (means_type means)
  clean {s} (rules.member {e = e} {es = es} n c t h call) = member_clean s n es e c t (clean h) (called call)
  clean {s} (rules.alone {es = es} n t none call) = alone_clean s n es t (no_form n.text none) (called call)
  clean {s} (rules.made {a = a} {b = b} n o t u v form h j set other is) = made_clean s n a t (clean h) b u (clean j) o v form set other is
  clean {s} (rules.single {e = e} n t u form h is) = single_clean s n e t (clean h) u form is
  clean {s} (rules.contains {a = a} {b = b} n t u form h j is) = contains_clean s n a t (clean h) b u (clean j) form (element_of_set s.grammar t u is) is
  clean {s} (rules.size {e = e} n t form h set) = size_clean s n e t (clean h) form set
  clean {s} (rules.each {r = r} {e = e} p n k t range h set) =
      let over = gone quantifiers.Each (λ v. refl) range in
      quantified_clean s quantifiers.Each p n r e k t t over (clean h) (set_none (Some t) t e refl set) (set_is (Some t) t refl set)
  clean {s} (rules.asked {r = r} {e = e} q p n k asks range h) =
      let over = gone q (asks_sets q asks) range in
      quantified_clean s q p n r e k (types.Of kinds.Truth) (types.Of kinds.Truth) over (clean h) (asks_truth s.grammar q e asks) (asks_type q (Some over.over) (Some (types.Of kinds.Truth)) asks)
  clean {s} (rules.first {r = r} {e = e} p n c list h) =
      let over = list_range s r quantifiers.First c (listed list) in
      quantified_clean s quantifiers.First p n r e (kinds.Node c) (types.Of kinds.Truth) (of_class c) over (clean h) refl (ap Some over.type)
  clean (rules.group p t h) = let inner = clean h in record { is = inner.is; none = λ w. inner.none Anywhere }
  clean {s} (rules.cast {e = e} p n c t is h node) = let inner = clean h in record {
    is = ap (option_map class_of_number) is;
    none = λ w. none_after (class_none s.grammar n c is) (none_after (inner.none Anywhere) (node_none (known s e) t e inner.is node));
  }
  clean {s} (rules.instance_of {e = e} n c t is h node) = let inner = clean h in record {
    is = refl;
    none = λ w. none_after (class_none s.grammar n c is) (none_after (inner.none Anywhere) (node_none (known s e) t e inner.is node));
  }
  clean {s} (rules.not {e = e} p h) = let inner = clean h in record { is = refl; none = λ w. none_after (inner.none Anywhere) (fits_none s.grammar kinds.Truth (known s e) (types.Of kinds.Truth) e inner.is refl) }
  clean {s} (rules.negate {e = e} p h) = let inner = clean h in record { is = refl; none = λ w. none_after (inner.none Negated) (fits_none s.grammar kinds.Int (known s e) (types.Of kinds.Int) e inner.is refl) }
  clean {s} (rules.least p q n within) = record { is = refl; none = λ w. none_after (literal_none 2147483648 n q within) (fits_none s.grammar kinds.Int (Some (types.Of kinds.Int)) (types.Of kinds.Int) (Int q n) refl refl) }
  clean {s} (rules.ints {a = a} {b = b} o k takes h j) =
      let left = clean h in
      let right = clean j in
      record { is = ints_known o k takes; none = λ w. none_after (left.none Anywhere) (none_after (right.none Anywhere) (ints_none s.grammar (known s a) a (known s b) b o k takes left.is right.is)) }
  clean {s} (rules.truths {a = a} {b = b} o takes h j) =
      let left = clean h in
      let right = clean j in
      record { is = truths_known o takes; none = λ w. none_after (left.none Anywhere) (none_after (right.none Anywhere) (truths_none s.grammar (known s a) a (known s b) b o takes left.is right.is)) }
  clean {s} (rules.compared {a = a} {b = b} o t u compares h j same) =
      let left = clean h in
      let right = clean j in
      record { is = compared_known o compares; none = λ w. none_after (left.none Anywhere) (none_after (right.none Anywhere) (compared_none s.grammar (known s a) a (known s b) b o t u compares left.is right.is same)) }
  clean {s} (rules.choice {c = c} {a = a} {b = b} t u v g h j is) =
      let condition = clean g in
      let left = clean h in
      let right = clean j in
      let apart : have_no_common s.grammar (known s a) (known s b) ≡ false = (λ i. have_no_common s.grammar (left.is i) (right.is i)) ∙ ap is_none is in
      record {
        is = (λ i. common_of s.grammar (left.is i) (right.is i)) ∙ is;
        none = λ w. none_after (condition.none Anywhere)
            (none_after (left.none Anywhere)
            (none_after (right.none Anywhere) (none_after (fits_none s.grammar kinds.Truth (known s c) (types.Of kinds.Truth) c condition.is refl) (none_if (at (place_of b) J10) apart))));
      }

  called : {s : Scope} {c : ClassId} {n : Name} {es : Arguments} {t : ValueType} → IsCalled s c n es t → IsCleanCall s c n es t
  called {s} {c} {n} {es} (rules.reads x t is type fit) = call_clean s n es c (members.Reads x) t (arguments_of x.access) is type refl (fitted fit)
  called {s} {c} {n} {es} (rules.calls a d is declared fit) =
      call_clean s n es c (members.Calls a) (types.Of d.kind) (parameter_kinds d.params) is (ap (option_map kind_declared) declared) (ap kinds_declared declared) (fitted fit)

  fitted : {s : Scope} {es : Arguments} {ks : List Kind} → Fit s es ks → AreClean s es ks
  fitted rules.end = record { many = refl; none = refl }
  fitted {s} (rules.more {e = e} {k = k} t h fit rest) =
      let first = clean h in
      let others = fitted rest in
      record { many = ap suc others.many; none = none_after (first.none Anywhere) (none_after (fits_none s.grammar k (known s e) t e first.is fit) others.none) }

  listed : {s : Scope} {e : Expr} {c : ClassId} → IsList s e c → IsCleanList s e c
  listed {s} (rules.listed {e = e} n c x h is read) = listed_clean s x read n e c (clean h) is
  listed {s} (rules.listed_alone n x none is read) = alone_listed_clean s x read n (no_form n.text none) is

  gone : {s : Scope} {e : Expr} {k : Kind} (q : Quantifier) → TakesSets q → GoesOver s e k → IsCleanRange s e k q
  gone {s} {e} q takes (rules.list c list) = list_range s e q c (listed list)
  gone {s} {e} q takes (rules.set t k h of) = set_range s e q t k takes of (clean h)
