-- Expressions that break nothing are typed.
use Rattle.std.proofs.Common.{◌≡◌, List, [], ◌∷◌, ◌++◌, true, false, pos, subst, is_none, Some, None, refl, ap, sym, ◌∙◌, arith, length, Option, is_some}
use Rattle.broken_rules.specs.declared.broken.Broken.{Broken}
use Rattle.broken_rules.specs.Notes.{at}
use Rattle.broken_rules.specs.declared.rule.Rule.TheVariants.{J9, J10}
use Rattle.broken_rules.proofs.Clean.{append_none, not_broken}
use Rattle.aspect_items.specs.Expressions.{Expr, Arguments, Name, no_more, argument, Truth, Null, Empty, This, Int, Text, Source, Variable, Call, Member, New, Quantified, Group, Cast, Not, Negate, Binary, InstanceOf, If}
use Rattle.attr_rules.specs.declared.accessors.Accessor.{Accessor}
use Rattle.attr_rules.specs.declared.kinds.Kind.{Kind}
use Rattle.attr_rules.specs.declared.kinds.Kind.TheVariants as kinds
use Rattle.attr_rules.specs.declared.types.ValueType.{ValueType}
use Rattle.attr_rules.specs.declared.types.ValueType.TheVariants as types
use Rattle.attr_rules.specs.Expression as said
use Rattle.attr_rules.specs.Expression.{Expression}
use Rattle.attr_rules.specs.Types.{of_class}
use Rattle.attr_rules.specs.Typing as typing
use Rattle.attr_rules.specs.Typing.{Fit, HasType, Names}
use Rattle.expr_typing.specs.declared.set_forms.SetForm.{SetForm}
use Rattle.expr_typing.specs.declared.standing.Stands.{Stands}
use Rattle.expr_typing.specs.declared.standing.Stands.TheVariants.{Anywhere, Negated, Range}
use Rattle.attr_bodies.specs.Bodies.{alone_broken, arguments_broken, expr_broken, form_broken, wanted_alone}
use Rattle.expr_typing.specs.Fitting.{body_misfit, choice_broken, has_no_elements, misfit, no_node, no_range, sides_broken}
use Rattle.expr_typing.specs.Calls.{call_broken}
use Rattle.expr_typing.specs.Standing.{is_range}
use Rattle.attr_scope.specs.Classes.{class_broken}
use Rattle.expr_typing.specs.Places.{else_place, place_of}
use Rattle.attr_scope.specs.Scope.{Scope, member_on, variable_named, wanted_for}
use Rattle.attr_scope.specs.ScopeKept.{IsScope}
use Rattle.expr_typing.specs.SetForms.{form_named, form_said, form_type}
use Rattle.expr_typing.specs.Typed.{arguments_said, body_of, count, known, inside, list_alone, list_of, range_of, said_alone, type_alone, types_known}
use Rattle.expr_typing.proofs.FormsTyped.{IsTyped, choice_typed, fitting, joined_typed, literal_typed, negate_typed, not_typed, of_type, cast_typed, test_typed}
use Rattle.expr_typing.proofs.ListsTyped.{IsListed, call_anywhere, call_listed}
use Rattle.expr_typing.proofs.MembersTyped.{call_typed, names_in}
use Rattle.expr_typing.proofs.RangesTyped.{IsRanged, elements_there, form_typed}
use Rattle.expr_typing.proofs.SetFormsTyped.{one_typed, pair_typed}
use Rattle.expr_typing.proofs.Variables.{AreKnown, variable_typed, inside_known}

-- what has a type is no list
no_listed : (s : Scope) (e : Expr) {N : Names} {a r : Expression} {o : Option Accessor} → IsTyped N (known s e) a → known s e ≡ None → IsListed N r o
no_listed s e typed none = let never : Some typed.type ≡ None = sym typed.is ∙ none in absurd (cc)

-- an expression of a type stands as a range where it may stand anywhere
alone_anywhere : (s : Scope) (n : Name) (es : Arguments) (ts : List (Option ValueType)) (inner : List Broken) (u : ValueType) (o : Option SetForm) → type_alone s n ts (count es) o ≡ Some u → alone_broken s true n es inner o ≡ [] → alone_broken s false n es inner o ≡ []
alone_anywhere s n es ts inner u None typed none =
    let this = Some (of_class s.this) in
    let parts = append_none (call_broken s true n (count es) n.place this) inner none in
    (λ i. call_anywhere s n (count es) n.place u this typed parts.0 i ++ parts.1 i)
alone_anywhere s n es ts inner u (Some f) typed none = none

anywhere : (s : Scope) (u : ValueType) (e : Expr) → known s e ≡ Some u → expr_broken s Range e ≡ [] → expr_broken s Anywhere e ≡ []
anywhere s u (Call n es) typed none = alone_anywhere s n es (types_known s es) (arguments_broken s (wanted_alone s n (count es) (form_named n.text)) es) u (form_named n.text) typed none
anywhere s u (Member e n es) typed none =
    let call = call_broken s true n (count es) (place_of e) (known s e) in
    let arguments = arguments_broken s (wanted_for s (member_on s (known s e) n.text (count es)) (count es)) es in
    let parts = append_none (expr_broken s Anywhere e) (call ++ arguments) none in
    let rest = append_none call arguments parts.1 in
    (λ i. parts.0 i ++ (call_anywhere s n (count es) (place_of e) u (known s e) typed rest.0 i ++ rest.1 i))
anywhere s u (Truth p b) typed none = none
anywhere s u (Null p) typed none = none
anywhere s u (Empty p) typed none = none
anywhere s u (This p) typed none = none
anywhere s u (Int p n) typed none = none
anywhere s u (Text p n) typed none = none
anywhere s u (Source p n) typed none = none
anywhere s u (Variable n) typed none = none
anywhere s u (New p n es) typed none = none
anywhere s u (Quantified q p n r e) typed none = none
anywhere s u (Group p e) typed none = none
anywhere s u (Cast p n e) typed none = none
anywhere s u (Not p e) typed none = none
anywhere s u (Negate p e) typed none = none
anywhere s u (Binary o a b) typed none = none
anywhere s u (InstanceOf e n) typed none = none
anywhere s u (If c a b) typed none = none

-- a call without receiver
module _ (s : Scope) (is_scope : IsScope s) (n : Name) (es : Arguments) where
  abbrev AreFitted : Type 0
  AreFitted = (wanted : List Kind) → arguments_broken s wanted es ≡ [] → length wanted ≡ count es → Fit (names_in s) (arguments_said s es) wanted

  abbrev IsFormed : Type 0
  IsFormed = (f : SetForm) → arguments_broken s [] es ≡ [] → form_broken s f n es ≡ [] → IsTyped (names_in s) (form_type s.grammar f (types_known s es)) (form_said f (form_type s.grammar f (types_known s es)) (arguments_said s es))

  this_typed : IsTyped (names_in s) (Some (of_class s.this)) said.This
  this_typed = of_type (names_in s) (of_class s.this) said.This (typing.this s.this refl)

  alone : AreFitted → IsFormed → (o : Option SetForm) → alone_broken s false n es (arguments_broken s (wanted_alone s n (count es) o) es) o ≡ []
      → IsTyped (names_in s) (type_alone s n (types_known s es) (count es) o) (said_alone s n (count es) (types_known s es) (arguments_said s es) o)
  alone fit formed None none =
      let wanted = wanted_for s (member_on s (Some (of_class s.this)) n.text (count es)) (count es) in
      let parts = append_none (call_broken s false n (count es) n.place (Some (of_class s.this))) (arguments_broken s wanted es) none in
      call_typed s is_scope (λ k. None) (Some s.this) said.This (arguments_said s es) n (count es) n.place (Some (of_class s.this)) this_typed parts.0 (record { passed = fit wanted parts.1 })
  alone fit formed (Some f) none =
      let parts = append_none (arguments_broken s [] es) (form_broken s f n es) none in
      formed f parts.0 parts.1

  alone_listed : IsFormed → (o : Option SetForm) → alone_broken s true n es (arguments_broken s (wanted_alone s n (count es) o) es) o ≡ [] → type_alone s n (types_known s es) (count es) o ≡ None
      → IsListed (names_in s) (said_alone s n (count es) (types_known s es) (arguments_said s es) o) (list_alone s n (count es) o)
  alone_listed formed None none typeless =
      let call = call_broken s true n (count es) n.place (Some (of_class s.this)) in
      let parts = append_none call (arguments_broken s (wanted_for s (member_on s (Some (of_class s.this)) n.text (count es)) (count es)) es) none in
      call_listed s is_scope (names_in s) refl said.This (arguments_said s es) n (count es) n.place (Some (of_class s.this)) this_typed parts.0 (ap is_some typeless)
  alone_listed formed (Some f) none typeless =
      let parts = append_none (arguments_broken s [] es) (form_broken s f n es) none in
      let found = formed f parts.0 parts.1 in
      let never : Some found.type ≡ None = sym found.is ∙ typeless in
      absurd (cc)

-- what stands as a range
ranged : (s : Scope) (e : Expr) → (expr_broken s Anywhere e ≡ [] → IsTyped (names_in s) (known s e) (body_of s e)) → (known s e ≡ None → IsListed (names_in s) (body_of s e) (list_of s e)) → expr_broken s Range e ≡ []
    → (o : Option ValueType) → known s e ≡ o → IsRanged (names_in s) o (list_of s e) (body_of s e)
ranged s e here list none None is = list is
ranged s e here list none (Some u) is =
    let found = here (anywhere s u e is none) in
    let same : Some found.type ≡ Some u = sym found.is ∙ is in
    let type : found.type ≡ u = cc in
    subst (HasType (names_in s) (body_of s e)) type found.typed

mutual
  pub typed : (s : Scope) → IsScope s → AreKnown s → (e : Expr) (w : Stands) → is_range w ≡ false → expr_broken s w e ≡ [] → IsTyped (names_in s) (known s e) (body_of s e)
  typed s is_scope all (Truth p b) w plain none = of_type (names_in s) (types.Of kinds.Truth) (said.Truth b) (typing.truth b)
  typed s is_scope all (Null p) w plain none = of_type (names_in s) types.Null said.Null typing.null
  typed s is_scope all (Empty p) w plain none = of_type (names_in s) types.Empty said.Empty typing.empty
  typed s is_scope all (This p) w plain none = of_type (names_in s) (of_class s.this) said.This (typing.this s.this refl)
  typed s is_scope all (Int p n) w plain none = literal_typed (names_in s) (pos n)
  typed s is_scope all (Text p n) w plain none = of_type (names_in s) (types.Of kinds.Text) (said.Text n) (typing.text n)
  typed s is_scope all (Source p n) w plain none = absurd (cc)
  typed s is_scope all (Variable n) w plain none =
      variable_typed s all (λ k. None) (Some s.this) n.text (variable_named s n.text) refl (not_broken (is_none (variable_named s n.text)) (at n.place J9) none)
  typed s is_scope all (Call n es) w plain none =
      let o = form_named n.text in
      alone s is_scope n es (λ wanted none many. fitted s is_scope all es wanted none many) (λ f inner none. formed s is_scope all f n es inner none) o
      (subst (λ b. alone_broken s b n es (arguments_broken s (wanted_alone s n (count es) o) es) o ≡ []) plain none)
  typed s is_scope all (Member e n es) w plain none =
      let wanted = wanted_for s (member_on s (known s e) n.text (count es)) (count es) in
      let call = call_broken s false n (count es) (place_of e) (known s e) in
      let parts = append_none (expr_broken s Anywhere e) (call ++ arguments_broken s wanted es)
      (subst (λ b. expr_broken s Anywhere e ++ (call_broken s b n (count es) (place_of e) (known s e) ++ arguments_broken s wanted es) ≡ []) plain none)
      in
      let rest = append_none call (arguments_broken s wanted es) parts.1 in
      call_typed s is_scope (λ k. None) (Some s.this) (body_of s e) (arguments_said s es) n (count es) (place_of e) (known s e) (typed s is_scope all e Anywhere refl parts.0) rest.0 (record { passed = fitted s is_scope all es wanted rest.1 })
  typed s is_scope all (New p n es) w plain none = absurd (cc)
  typed s is_scope all (Quantified q p n range e) w plain none =
      let inner = inside s q n range in
      let fit = body_misfit s.grammar q (known inner e) e in
      let parts = append_none (expr_broken s Range range ++ no_range q (known s range) range) (expr_broken inner Anywhere e ++ fit) none in
      let first = append_none (expr_broken s Range range) (no_range q (known s range) range) parts.0 in
      let last = append_none (expr_broken inner Anywhere e) fit parts.1 in
      let some = not_broken (has_no_elements q (known s range)) (at (place_of range) J10) first.1 in
      let here : expr_broken s Anywhere range ≡ [] → IsTyped (names_in s) (known s range) (body_of s range) = λ none. typed s is_scope all range Anywhere refl none in
      let over = ranged s range here (λ typeless. listed s is_scope all range here first.0 typeless) first.0 (known s range) refl in
      let there = elements_there (names_in s) (body_of s range) q (list_of s range) (known s range) over some in
      let body = typed inner (record { superclasses = is_scope.superclasses }) (inside_known s all n (range_of s q range) there.0 there.1) e Anywhere refl last.0 in
      form_typed (names_in s) (body_of s range) (body_of inner e) (known inner e) e q (list_of s range) (known s range) over some body last.1
  typed s is_scope all (Group p e) w plain none = typed s is_scope all e Anywhere refl none
  typed s is_scope all (Cast p n e) w plain none =
      let node = no_node (known s e) e in
      let parts = append_none (class_broken s.grammar n) (expr_broken s Anywhere e ++ node) none in
      let rest = append_none (expr_broken s Anywhere e) node parts.1 in
      cast_typed (names_in s) n (known s e) e (body_of s e) (typed s is_scope all e Anywhere refl rest.0) parts.0 rest.1
  typed s is_scope all (Not p e) w plain none =
      let parts = append_none (expr_broken s Anywhere e) (misfit s.grammar kinds.Truth (known s e) e) none in
      not_typed (names_in s) (known s e) e (body_of s e) (typed s is_scope all e Anywhere refl parts.0) parts.1
  typed s is_scope all (Negate p e) w plain none =
      let parts = append_none (expr_broken s Negated e) (misfit s.grammar kinds.Int (known s e) e) none in
      negate_typed (names_in s) (known s e) e (body_of s e) (typed s is_scope all e Negated refl parts.0) parts.1
  typed s is_scope all (Binary o a b) w plain none =
      let sides = sides_broken s.grammar o (known s a) a (known s b) b in
      let parts = append_none (expr_broken s Anywhere a) (expr_broken s Anywhere b ++ sides) none in
      let rest = append_none (expr_broken s Anywhere b) sides parts.1 in
      joined_typed (names_in s) (known s a) a (body_of s a) (known s b) b (body_of s b) (typed s is_scope all a Anywhere refl parts.0) (typed s is_scope all b Anywhere refl rest.0) o rest.1
  typed s is_scope all (InstanceOf e n) w plain none =
      let node = no_node (known s e) e in
      let parts = append_none (class_broken s.grammar n) (expr_broken s Anywhere e ++ node) none in
      let rest = append_none (expr_broken s Anywhere e) node parts.1 in
      test_typed (names_in s) n (known s e) e (body_of s e) (typed s is_scope all e Anywhere refl rest.0) parts.0 rest.1
  typed s is_scope all (If c a b) w plain none =
      let choice = choice_broken s.grammar (known s c) c (known s a) (known s b) b in
      let parts = append_none (expr_broken s Anywhere c) (expr_broken s Anywhere a ++ (expr_broken s Anywhere b ++ choice)) none in
      let rest = append_none (expr_broken s Anywhere a) (expr_broken s Anywhere b ++ choice) parts.1 in
      let last = append_none (expr_broken s Anywhere b) choice rest.1 in
      choice_typed (names_in s) (known s a) a (body_of s a) (known s b) b (body_of s b) (typed s is_scope all a Anywhere refl rest.0) (typed s is_scope all b Anywhere refl last.0) (known s c) c (body_of s c) (else_place b) (typed s is_scope all c Anywhere refl parts.0) last.1

  -- one of the forms of sets
  formed : (s : Scope) → IsScope s → AreKnown s → (f : SetForm) (n : Name) (es : Arguments) → arguments_broken s [] es ≡ [] → form_broken s f n es ≡ []
      → IsTyped (names_in s) (form_type s.grammar f (types_known s es)) (form_said f (form_type s.grammar f (types_known s es)) (arguments_said s es))
  formed s is_scope all f n no_more inner none = absurd (cc)
  formed s is_scope all f n (argument a no_more) inner none =
      let first = append_none (expr_broken s Anywhere a) [] inner in
      one_typed (names_in s) n (known s a) a (body_of s a) (typed s is_scope all a Anywhere refl first.0) f none
  formed s is_scope all f n (argument a (argument b no_more)) inner none =
      let first = append_none (expr_broken s Anywhere a) (expr_broken s Anywhere b ++ []) inner in
      let second = append_none (expr_broken s Anywhere b) [] first.1 in
      pair_typed (names_in s) n (known s a) a (body_of s a) (typed s is_scope all a Anywhere refl first.0) (known s b) b (body_of s b) (typed s is_scope all b Anywhere refl second.0) f none
  formed s is_scope all f n (argument a (argument b (argument c es))) inner none = absurd (cc)

  -- the list that a range of no type gives: only calls are none of a type
  listed : (s : Scope) → IsScope s → AreKnown s → (e : Expr) → (expr_broken s Anywhere e ≡ [] → IsTyped (names_in s) (known s e) (body_of s e)) → expr_broken s Range e ≡ [] → known s e ≡ None → IsListed (names_in s) (body_of s e) (list_of s e)
  listed s is_scope all (Call n es) here none typeless = alone_listed s is_scope n es (λ f inner none. formed s is_scope all f n es inner none) (form_named n.text) none typeless
  listed s is_scope all (Member e n es) here none typeless =
      let call = call_broken s true n (count es) (place_of e) (known s e) in
      let arguments = arguments_broken s (wanted_for s (member_on s (known s e) n.text (count es)) (count es)) es in
      let parts = append_none (expr_broken s Anywhere e) (call ++ arguments) none in
      let owner = typed s is_scope all e Anywhere refl parts.0 in
      call_listed s is_scope (names_in s) refl (body_of s e) (arguments_said s es) n (count es) (place_of e) (known s e) owner (append_none call arguments parts.1).0 (ap is_some typeless)
  listed s is_scope all (Truth p b) here none typeless = no_listed s (Truth p b) (here none) typeless
  listed s is_scope all (Null p) here none typeless = no_listed s (Null p) (here none) typeless
  listed s is_scope all (Empty p) here none typeless = no_listed s (Empty p) (here none) typeless
  listed s is_scope all (This p) here none typeless = no_listed s (This p) (here none) typeless
  listed s is_scope all (Int p n) here none typeless = no_listed s (Int p n) (here none) typeless
  listed s is_scope all (Text p n) here none typeless = no_listed s (Text p n) (here none) typeless
  listed s is_scope all (Source p n) here none typeless = no_listed s (Source p n) (here none) typeless
  listed s is_scope all (Variable n) here none typeless = no_listed s (Variable n) (here none) typeless
  listed s is_scope all (New p n es) here none typeless = no_listed s (New p n es) (here none) typeless
  listed s is_scope all (Quantified q p n r e) here none typeless = no_listed s (Quantified q p n r e) (here none) typeless
  listed s is_scope all (Group p e) here none typeless = no_listed s (Group p e) (here none) typeless
  listed s is_scope all (Cast p n e) here none typeless = no_listed s (Cast p n e) (here none) typeless
  listed s is_scope all (Not p e) here none typeless = no_listed s (Not p e) (here none) typeless
  listed s is_scope all (Negate p e) here none typeless = no_listed s (Negate p e) (here none) typeless
  listed s is_scope all (Binary o a b) here none typeless = no_listed s (Binary o a b) (here none) typeless
  listed s is_scope all (InstanceOf e n) here none typeless = no_listed s (InstanceOf e n) (here none) typeless
  listed s is_scope all (If c a b) here none typeless = no_listed s (If c a b) (here none) typeless

  -- the arguments of a call, which are as many as are wanted
  fitted : (s : Scope) → IsScope s → AreKnown s → (es : Arguments) (wanted : List Kind) → arguments_broken s wanted es ≡ [] → length wanted ≡ count es → Fit (names_in s) (arguments_said s es) wanted
  fitted s is_scope all no_more [] none many = typing.end
  fitted s is_scope all no_more (k ∷ wanted) none many = absurd (omega (arith, many))
  fitted s is_scope all (argument e es) [] none many = absurd (omega (arith, many))
  fitted s is_scope all (argument e es) (k ∷ wanted) none many =
      let parts = append_none (expr_broken s Anywhere e) (misfit s.grammar k (known s e) e ++ arguments_broken s wanted es) none in
      let rest = append_none (misfit s.grammar k (known s e) e) (arguments_broken s wanted es) parts.1 in
      let first = typed s is_scope all e Anywhere refl parts.0 in
      typing.more first.type first.typed (fitting (names_in s) k (known s e) first.type e first.is rest.0) (fitted s is_scope all es wanted rest.1 (omega (arith, many)))
