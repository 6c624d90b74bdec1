-- The right sides of equations of circular attributes are well made.
use Rattle.std.proofs.Common.{◌≡◌, ℕ, zero, suc, slice_get, Bool, true, false, not, ◌||◌, ◌&&◌, List, [], ◌∷◌, Option, Some, None, map, refl, ap, subst, ◌∙◌}
use Rattle.std.proofs.lemmas.Bool.{and_from, and_parts}
use Rattle.rag_io.specs.declared.Place.{Place}
use Rattle.ast_grammar.specs.Grammar.{Class, Component, class_named}
use Rattle.attr_bodies.specs.Created.{created_said, each_said, given_said, made_said}
use Rattle.expr_typing.specs.declared.created.Takes.{Takes}
use Rattle.expr_typing.specs.declared.created.Takes.TheVariants as takes
use Rattle.expr_typing.specs.Created.{argument_before, child_before, components_known, new_said, taken_for}
use Rattle.aspect_items.specs.declared.expression.Operator.{Operator}
use Rattle.aspect_items.specs.declared.expression.Operator.TheVariants as signs
use Rattle.aspect_items.specs.declared.expression.Quantifier.{Quantifier}
use Rattle.aspect_items.specs.declared.expression.Quantifier.TheVariants as quantifiers
use Rattle.aspect_items.specs.Expressions as read
use Rattle.aspect_items.specs.Expressions.{Expr, Name}
use Rattle.aspect_items.specs.Items.{Item}
use Rattle.attr_rules.specs.declared.accessors.Access.{Access}
use Rattle.attr_rules.specs.declared.accessors.Access.TheVariants as access
use Rattle.attr_rules.specs.declared.expression.Quantifier as kept_quantifier
use Rattle.attr_rules.specs.declared.expression.Quantifier.TheVariants as kept_quantifiers
use Rattle.attr_rules.specs.declared.types.ValueType.{ValueType}
use Rattle.attr_rules.specs.Expression.{Expression, Arguments, no_more, argument, NewArguments, new_end, new_token, new_child, Truth, Int, Text, Null, Empty, This, Variable, Source, Child, Element, Count, Has, Token, Call, Cast, InstanceOf, Quantified, QuantifiedSet, Each, EachOfSet, Sets, Single, Contains, Size, Not, Negate, Binary, And, Or, OrBoth, If, New}
use Rattle.attr_rules.specs.Rising.{has_call, have_call, tokens_call}
use Rattle.attr_rules.specs.Rules.{Contribution, ContributionMadeWell, ContributionsMadeWell, EquationsMadeWell, MadeWell, circular_at, expressions_in, no_calls as none_counts}
use Rattle.attr_rules.specs.Types.{of_class}
use Rattle.attr_rules.specs.WellMade.{IsWellMade, are_well_made, is_new_well_made, is_placed, is_well_made}
use Rattle.expr_typing.specs.declared.ranges.Elements.{Elements}
use Rattle.expr_typing.specs.declared.ranges.Elements.TheVariants as elements
use Rattle.attr_scope.specs.declared.scope.Member as member
use Rattle.attr_scope.specs.declared.scope.Member.TheVariants as members
use Rattle.expr_typing.specs.declared.set_forms.SetForm.{SetForm}
use Rattle.expr_typing.specs.declared.set_forms.SetForm.TheVariants as forms
use Rattle.attr_types.specs.BothSides.{all_with_both, either, new_with_both, said_where, with_both}
use Rattle.attr_heads.specs.Contributions.{aim_of}
use Rattle.attr_heads.specs.Heads.{attributes_of}
use Rattle.attr_types.specs.Phases.{condition_said, contribution_of, creates, equated_said, equation_of, rules_of, scope_at, scope_of}
use Rattle.expr_typing.specs.Places.{else_place}
use Rattle.attr_scope.specs.Scope.{Scope, member_on, variable_named}
use Rattle.expr_typing.specs.SetForms.{form_named, form_said, form_type, one_said, pair_said, set_known}
use Rattle.attr_heads.specs.Targets.{target_given}
use Rattle.expr_typing.specs.Typed as typed
use Rattle.expr_typing.specs.Typed.{arguments_said, body_of, call_said, count, first_in, inside, joined, known, name_said, over_said, range_of, said_alone, said_over, types_known}
use Rattle.attr_scope.specs.Written.{contributions, declarations, givens}
use Rattle.attr_scope.proofs.ItemsFound.{all_found, map_found}

module _ (circular : ℕ → Bool) where
  either_calls : (c : Bool) (a b : Expression) → has_call circular (either c a b) ≡ (has_call circular a || has_call circular b)
  either_calls true a b = refl
  either_calls false a b = refl

  -- what `||` says changes no call
  mutual
    calls_kept : (e : Expression) → has_call circular (with_both circular e) ≡ has_call circular e
    calls_kept (Truth b) = refl
    calls_kept (Int z) = refl
    calls_kept (Text n) = refl
    calls_kept Null = refl
    calls_kept Empty = refl
    calls_kept This = refl
    calls_kept (Variable k) = refl
    calls_kept (Source k) = refl
    calls_kept (Child k e) = calls_kept e
    calls_kept (Count k e) = calls_kept e
    calls_kept (Has k e) = calls_kept e
    calls_kept (Token t k e) = calls_kept e
    calls_kept (Cast c e) = calls_kept e
    calls_kept (InstanceOf c e) = calls_kept e
    calls_kept (Single e) = calls_kept e
    calls_kept (Size e) = calls_kept e
    calls_kept (Not e) = calls_kept e
    calls_kept (Negate e) = calls_kept e
    calls_kept (Element k a b) = (λ j. calls_kept a j || calls_kept b j)
    calls_kept (Quantified q k a b) = (λ j. calls_kept a j || calls_kept b j)
    calls_kept (QuantifiedSet q a b) = (λ j. calls_kept a j || calls_kept b j)
    calls_kept (Each t k a b) = (λ j. calls_kept a j || calls_kept b j)
    calls_kept (EachOfSet t a b) = (λ j. calls_kept a j || calls_kept b j)
    calls_kept (Sets o t a b) = (λ j. calls_kept a j || calls_kept b j)
    calls_kept (Contains a b) = (λ j. calls_kept a j || calls_kept b j)
    calls_kept (Binary o a b) = (λ j. calls_kept a j || calls_kept b j)
    calls_kept (And a b) = (λ j. calls_kept a j || calls_kept b j)
    calls_kept (OrBoth a b) = (λ j. calls_kept a j || calls_kept b j)
    calls_kept (Call n at e es) = (λ j. circular n || (calls_kept e j || all_calls_kept es j))
    calls_kept (Or a b) = either_calls (has_call circular a) (with_both circular a) (with_both circular b) ∙ (λ j. calls_kept a j || calls_kept b j)
    calls_kept (If c a at b) = (λ j. calls_kept c j || (calls_kept a j || calls_kept b j))
    calls_kept (New c parts) = new_calls_kept parts

    all_calls_kept : (es : Arguments) → have_call circular (all_with_both circular es) ≡ have_call circular es
    all_calls_kept no_more = refl
    all_calls_kept (argument e es) = (λ j. calls_kept e j || all_calls_kept es j)

    new_calls_kept : (parts : NewArguments) → tokens_call circular (new_with_both circular parts) ≡ tokens_call circular parts
    new_calls_kept new_end = refl
    new_calls_kept (new_token k e rest) = (λ j. calls_kept e j || new_calls_kept rest j)
    new_calls_kept (new_child c parts rest) = (λ j. new_calls_kept parts j || new_calls_kept rest j)

  abbrev IsMade : Expression → Type 0
  IsMade e = is_well_made circular (with_both circular e) ≡ true

  abbrev AreMade : Arguments → Type 0
  AreMade es = are_well_made circular (all_with_both circular es) ≡ true

  two : (a b : Expression) → IsMade a → IsMade b → (is_well_made circular (with_both circular a) && is_well_made circular (with_both circular b)) ≡ true
  two a b p q = and_from (is_well_made circular (with_both circular a)) (is_well_made circular (with_both circular b)) p q

  either_made : (a b : Expression) (c : Bool) → has_call circular a ≡ c → IsMade a → IsMade b → is_well_made circular (either c (with_both circular a) (with_both circular b)) ≡ true
  either_made a b true is p q =
      and_from (has_call circular (with_both circular a)) (is_well_made circular (with_both circular a) && is_well_made circular (with_both circular b)) (calls_kept a ∙ is) (two a b p q)
  either_made a b false is p q =
      and_from (not (has_call circular (with_both circular a))) (is_well_made circular (with_both circular a) && is_well_made circular (with_both circular b)) (ap not (calls_kept a ∙ is)) (two a b p q)

  joined_made : (o : Operator) (a b : Expression) → IsMade a → IsMade b → IsMade (joined o a b)
  joined_made signs.Multiply a b p q = two a b p q
  joined_made signs.Add a b p q = two a b p q
  joined_made signs.Subtract a b p q = two a b p q
  joined_made signs.Less a b p q = two a b p q
  joined_made signs.AtMost a b p q = two a b p q
  joined_made signs.Greater a b p q = two a b p q
  joined_made signs.AtLeast a b p q = two a b p q
  joined_made signs.Equal a b p q = two a b p q
  joined_made signs.Differ a b p q = two a b p q
  joined_made signs.And a b p q = two a b p q
  joined_made signs.Or a b p q = either_made a b (has_call circular a) refl p q

  first_made : (es : Arguments) → AreMade es → IsMade (first_in es)
  first_made no_more p = refl
  first_made (argument e es) p = (and_parts (is_well_made circular (with_both circular e)) (are_well_made circular (all_with_both circular es)) p).0

  read_made : (x : Access) (k : ℕ) (e i : Expression) → IsMade e → IsMade i → IsMade (typed.read x k e i)
  read_made access.Child k e i p q = p
  read_made (access.Token t) k e i p q = p
  read_made access.Has k e i p q = p
  read_made access.Count k e i p q = p
  read_made access.Elements k e i p q = p
  read_made access.Element k e i p q = two e i p q

  call_made : (o : Option member.Member) (at : Place) (e : Expression) (es : Arguments) → IsMade e → AreMade es → IsMade (call_said o at e es)
  call_made None at e es p q = refl
  call_made (Some (members.Reads x)) at e es p q = read_made x.access x.component.0 e (first_in es) p (first_made es q)
  call_made (Some (members.Calls a)) at e es p q = and_from (is_well_made circular (with_both circular e)) (are_well_made circular (all_with_both circular es)) p q

  one_made : (f : SetForm) (a : Expression) → IsMade a → IsMade (one_said f a)
  one_made (forms.Makes o) a p = refl
  one_made forms.Single a p = p
  one_made forms.Contains a p = refl
  one_made forms.Size a p = p

  pair_made : (f : SetForm) (t : Option ValueType) (a b : Expression) → IsMade a → IsMade b → IsMade (pair_said f t a b)
  pair_made (forms.Makes o) None a b p q = refl
  pair_made (forms.Makes o) (Some t) a b p q = two a b p q
  pair_made forms.Single t a b p q = refl
  pair_made forms.Contains t a b p q = two a b p q
  pair_made forms.Size t a b p q = refl

  form_made : (f : SetForm) (t : Option ValueType) (es : Arguments) → AreMade es → IsMade (form_said f t es)
  form_made f t no_more p = refl
  form_made f t (argument a no_more) p = one_made f a (and_parts (is_well_made circular (with_both circular a)) true p).0
  form_made f t (argument a (argument b no_more)) p =
      let rest = and_parts (is_well_made circular (with_both circular a)) (is_well_made circular (with_both circular b) && true) p in
      pair_made f t a b rest.0 (and_parts (is_well_made circular (with_both circular b)) true rest.1).0
  form_made f t (argument a (argument b (argument c es))) p = refl

  alone_made : (s : Scope) (n : Name) (k : ℕ) (ts : List (Option ValueType)) (es : Arguments) (o : Option SetForm) → AreMade es → IsMade (said_alone s n k ts es o)
  alone_made s n k ts es None p = call_made (member_on s (Some (of_class s.this)) n.text k) n.place This es refl p
  alone_made s n k ts es (Some f) p = form_made f (form_type s.grammar f ts) es p

  condition_made : (q : kept_quantifier.Quantifier) (o : Elements) (e b : Expression) → IsMade e → IsMade b → IsMade (typed.condition_over q o e b)
  condition_made q (elements.OfList x) e b p r = two e b p r
  condition_made q (elements.OfSet k) e b p r = two e b p r

  union_made : (t : Option ValueType) (o : Elements) (e b : Expression) → IsMade e → IsMade b → IsMade (typed.union_over t o e b)
  union_made None o e b p r = refl
  union_made (Some t) (elements.OfList x) e b p r = two e b p r
  union_made (Some t) (elements.OfSet k) e b p r = two e b p r

  elements_made : (q : Quantifier) (t : Option ValueType) (o : Elements) (e b : Expression) → IsMade e → IsMade b → IsMade (said_over q t o e b)
  elements_made quantifiers.Each t o e b p r = union_made (set_known t) o e b p r
  elements_made quantifiers.Any t o e b p r = condition_made kept_quantifiers.Any o e b p r
  elements_made quantifiers.All t o e b p r = condition_made kept_quantifiers.All o e b p r
  elements_made quantifiers.First t o e b p r = condition_made kept_quantifiers.First o e b p r

  over_made : (q : Quantifier) (t : Option ValueType) (o : Option Elements) (e b : Expression) → IsMade e → IsMade b → IsMade (over_said q t o e b)
  over_made q t None e b p r = refl
  over_made q t (Some o) e b p r = elements_made q t o e b p r

  name_made : (o : Option ℕ) → IsMade (name_said o)
  name_made None = refl
  name_made (Some k) = refl

  -- only the literals `false` and `empty` are else parts without a place
  placed : (s : Scope) (e : Expr) → is_placed (else_place e) (with_both circular (body_of s e)) ≡ true
  placed s (read.Truth p true) = refl
  placed s (read.Truth p false) = refl
  placed s (read.Empty p) = refl
  placed s (read.Null p) = refl
  placed s (read.This p) = refl
  placed s (read.Int p n) = refl
  placed s (read.Text p n) = refl
  placed s (read.Source p n) = refl
  placed s (read.Variable n) = refl
  placed s (read.Call n es) = refl
  placed s (read.Member e n es) = refl
  placed s (read.New p n es) = refl
  placed s (read.Quantified q p n r e) = refl
  placed s (read.Group p e) = refl
  placed s (read.Cast p n e) = refl
  placed s (read.Not p e) = refl
  placed s (read.Negate p e) = refl
  placed s (read.Binary o a b) = refl
  placed s (read.InstanceOf e n) = refl
  placed s (read.If c a b) = refl

  mutual
    made : (s : Scope) (e : Expr) → IsMade (body_of s e)
    made s (read.Truth p b) = refl
    made s (read.Null p) = refl
    made s (read.Empty p) = refl
    made s (read.This p) = refl
    made s (read.Int p n) = refl
    made s (read.Text p n) = refl
    made s (read.Source p n) = refl
    made s (read.Variable n) = name_made (variable_named s n.text)
    made s (read.Call n es) = alone_made s n (count es) (types_known s es) (arguments_said s es) (form_named n.text) (all_made s es)
    made s (read.Member e n es) = call_made (member_on s (known s e) n.text (count es)) n.place (body_of s e) (arguments_said s es) (made s e) (all_made s es)
    made s (read.New p n es) = refl
    made s (read.Quantified q p n r e) = over_made q (known (inside s q n r) e) (range_of s q r) (body_of s r) (body_of (inside s q n r) e) (made s r) (made (inside s q n r) e)
    made s (read.Group p e) = made s e
    made s (read.Cast p n e) = made s e
    made s (read.Not p e) = made s e
    made s (read.Negate p e) = made s e
    made s (read.Binary o a b) = joined_made o (body_of s a) (body_of s b) (made s a) (made s b)
    made s (read.InstanceOf e n) = made s e
    made s (read.If c a b) =
        let of = λ (x : Expression). is_well_made circular (with_both circular x) in
        and_from (is_placed (else_place b) (with_both circular (body_of s b))) (of (body_of s c) && (of (body_of s a) && of (body_of s b))) (placed s b)
        (and_from (of (body_of s c)) (of (body_of s a) && of (body_of s b)) (made s c) (two (body_of s a) (body_of s b) (made s a) (made s b)))

    all_made : (s : Scope) (es : read.Arguments) → AreMade (arguments_said s es)
    all_made s read.no_more = refl
    all_made s (read.argument e es) = and_from (is_well_made circular (with_both circular (body_of s e))) (are_well_made circular (all_with_both circular (arguments_said s es))) (made s e) (all_made s es)

  -- what a `new` makes
  abbrev IsNewMade : NewArguments → Type 0
  IsNewMade parts = is_new_well_made circular (new_with_both circular parts) ≡ true

  child_made : (e : Expression) (rest : NewArguments) → IsMade e → IsNewMade rest → IsNewMade (child_before e rest)
  child_made (New c parts) rest p q = and_from (is_new_well_made circular (new_with_both circular parts)) (is_new_well_made circular (new_with_both circular rest)) p q
  child_made (Truth b) rest p q = q
  child_made (Int z) rest p q = q
  child_made (Text n) rest p q = q
  child_made Null rest p q = q
  child_made Empty rest p q = q
  child_made This rest p q = q
  child_made (Variable k) rest p q = q
  child_made (Source k) rest p q = q
  child_made (Child k e) rest p q = q
  child_made (Element k e i) rest p q = q
  child_made (Count k e) rest p q = q
  child_made (Has k e) rest p q = q
  child_made (Token t k e) rest p q = q
  child_made (Call a at e es) rest p q = q
  child_made (Cast c e) rest p q = q
  child_made (InstanceOf c e) rest p q = q
  child_made (Quantified o k e b) rest p q = q
  child_made (QuantifiedSet o e b) rest p q = q
  child_made (Each t k e b) rest p q = q
  child_made (EachOfSet t e b) rest p q = q
  child_made (Sets o t a b) rest p q = q
  child_made (Single e) rest p q = q
  child_made (Contains a b) rest p q = q
  child_made (Size e) rest p q = q
  child_made (Not e) rest p q = q
  child_made (Negate e) rest p q = q
  child_made (Binary o a b) rest p q = q
  child_made (And a b) rest p q = q
  child_made (Or a b) rest p q = q
  child_made (OrBoth a b) rest p q = q
  child_made (If c a at b) rest p q = q

  before_made : (t : Takes) (e : Expression) (rest : NewArguments) → IsMade e → IsNewMade rest → IsNewMade (argument_before t e rest)
  before_made (takes.Token k) e rest p q = and_from (is_well_made circular (with_both circular e)) (is_new_well_made circular (new_with_both circular rest)) p q
  before_made (takes.Child c) e rest p q = child_made e rest p q
  before_made takes.Nothing e rest p q = q

  mutual
    given_made : (s : Scope) (t : Takes) (e : Expr) → IsMade (given_said s t e)
    given_made s (takes.Token k) e = made s e
    given_made s (takes.Child c) (read.New p n es) = each_new_made s (components_known s.grammar (class_named s.grammar n.text)) es
    given_made s (takes.Child c) (read.Truth p b) = refl
    given_made s (takes.Child c) (read.Null p) = refl
    given_made s (takes.Child c) (read.Empty p) = refl
    given_made s (takes.Child c) (read.This p) = refl
    given_made s (takes.Child c) (read.Int p n) = refl
    given_made s (takes.Child c) (read.Text p n) = refl
    given_made s (takes.Child c) (read.Source p n) = refl
    given_made s (takes.Child c) (read.Variable n) = refl
    given_made s (takes.Child c) (read.Call n es) = refl
    given_made s (takes.Child c) (read.Member e n es) = refl
    given_made s (takes.Child c) (read.Quantified q p n r e) = refl
    given_made s (takes.Child c) (read.Group p e) = refl
    given_made s (takes.Child c) (read.Cast p n e) = refl
    given_made s (takes.Child c) (read.Not p e) = refl
    given_made s (takes.Child c) (read.Negate p e) = refl
    given_made s (takes.Child c) (read.Binary o a b) = refl
    given_made s (takes.Child c) (read.InstanceOf e n) = refl
    given_made s (takes.Child c) (read.If d a b) = refl
    given_made s takes.Nothing e = refl

    each_new_made : (s : Scope) (xs : List Component) (es : read.Arguments) → IsNewMade (each_said s xs es)
    each_new_made s xs read.no_more = refl
    each_new_made s [] (read.argument e es) = refl
    each_new_made s (x ∷ xs) (read.argument e es) = before_made (taken_for x) (given_said s (taken_for x) e) (each_said s xs es) (given_made s (taken_for x) e) (each_new_made s xs es)

  new_made : (o : Option ℕ) (parts : NewArguments) → IsNewMade parts → IsMade (new_said o parts)
  new_made None parts p = refl
  new_made (Some c) parts p = p

  created_made : (s : Scope) (e : Expr) → IsMade (created_said s e)
  created_made s (read.New p n es) = new_made (class_named s.grammar n.text) (made_said s (class_named s.grammar n.text) es) (each_new_made s (components_known s.grammar (class_named s.grammar n.text)) es)
  created_made s (read.Truth p b) = refl
  created_made s (read.Null p) = refl
  created_made s (read.Empty p) = refl
  created_made s (read.This p) = refl
  created_made s (read.Int p n) = refl
  created_made s (read.Text p n) = refl
  created_made s (read.Source p n) = refl
  created_made s (read.Variable n) = made s (read.Variable n)
  created_made s (read.Call n es) = made s (read.Call n es)
  created_made s (read.Member e n es) = made s (read.Member e n es)
  created_made s (read.Quantified q p n r e) = made s (read.Quantified q p n r e)
  created_made s (read.Group p e) = made s (read.Group p e)
  created_made s (read.Cast p n e) = made s (read.Cast p n e)
  created_made s (read.Not p e) = made s (read.Not p e)
  created_made s (read.Negate p e) = made s (read.Negate p e)
  created_made s (read.Binary o a b) = made s (read.Binary o a b)
  created_made s (read.InstanceOf e n) = made s (read.InstanceOf e n)
  created_made s (read.If c a b) = made s (read.If c a b)

  equated_made : (h : Bool) (s : Scope) (e : Expr) → IsMade (equated_said h s e)
  equated_made true s e = created_made s e
  equated_made false s e = made s e

-- no call counts
abbrev none : ℕ → Bool
none a = false

mutual
  no_call : (e : Expression) → has_call none e ≡ false
  no_call (Truth b) = refl
  no_call (Int z) = refl
  no_call (Text n) = refl
  no_call Null = refl
  no_call Empty = refl
  no_call This = refl
  no_call (Variable k) = refl
  no_call (Source k) = refl
  no_call (Child k e) = no_call e
  no_call (Count k e) = no_call e
  no_call (Has k e) = no_call e
  no_call (Token t k e) = no_call e
  no_call (Cast c e) = no_call e
  no_call (InstanceOf c e) = no_call e
  no_call (Single e) = no_call e
  no_call (Size e) = no_call e
  no_call (Not e) = no_call e
  no_call (Negate e) = no_call e
  no_call (Element k a b) = (λ j. no_call a j || no_call b j)
  no_call (Quantified q k a b) = (λ j. no_call a j || no_call b j)
  no_call (QuantifiedSet q a b) = (λ j. no_call a j || no_call b j)
  no_call (Each t k a b) = (λ j. no_call a j || no_call b j)
  no_call (EachOfSet t a b) = (λ j. no_call a j || no_call b j)
  no_call (Sets o t a b) = (λ j. no_call a j || no_call b j)
  no_call (Contains a b) = (λ j. no_call a j || no_call b j)
  no_call (Binary o a b) = (λ j. no_call a j || no_call b j)
  no_call (And a b) = (λ j. no_call a j || no_call b j)
  no_call (Or a b) = (λ j. no_call a j || no_call b j)
  no_call (OrBoth a b) = (λ j. no_call a j || no_call b j)
  no_call (Call n at e es) = (λ j. no_call e j || no_calls es j)
  no_call (If c a at b) = (λ j. no_call c j || (no_call a j || no_call b j))
  no_call (New c parts) = no_new_calls parts

  no_calls : (es : Arguments) → have_call none es ≡ false
  no_calls no_more = refl
  no_calls (argument e es) = (λ j. no_call e j || no_calls es j)

  no_new_calls : (parts : NewArguments) → tokens_call none parts ≡ false
  no_new_calls new_end = refl
  no_new_calls (new_token k e rest) = (λ j. no_call e j || no_new_calls rest j)
  no_new_calls (new_child c parts rest) = (λ j. no_new_calls parts j || no_new_calls rest j)

mutual
  -- where no call counts, an expression stays what it is
  unchanged : (e : Expression) → with_both none e ≡ e
  unchanged (Truth b) = refl
  unchanged (Int z) = refl
  unchanged (Text n) = refl
  unchanged Null = refl
  unchanged Empty = refl
  unchanged This = refl
  unchanged (Variable k) = refl
  unchanged (Source k) = refl
  unchanged (Child k e) = (λ j. Child k (unchanged e j))
  unchanged (Count k e) = (λ j. Count k (unchanged e j))
  unchanged (Has k e) = (λ j. Has k (unchanged e j))
  unchanged (Token t k e) = (λ j. Token t k (unchanged e j))
  unchanged (Cast c e) = (λ j. Cast c (unchanged e j))
  unchanged (InstanceOf c e) = (λ j. InstanceOf c (unchanged e j))
  unchanged (Single e) = (λ j. Single (unchanged e j))
  unchanged (Size e) = (λ j. Size (unchanged e j))
  unchanged (Not e) = (λ j. Not (unchanged e j))
  unchanged (Negate e) = (λ j. Negate (unchanged e j))
  unchanged (Element k a b) = (λ j. Element k (unchanged a j) (unchanged b j))
  unchanged (Quantified q k a b) = (λ j. Quantified q k (unchanged a j) (unchanged b j))
  unchanged (QuantifiedSet q a b) = (λ j. QuantifiedSet q (unchanged a j) (unchanged b j))
  unchanged (Each t k a b) = (λ j. Each t k (unchanged a j) (unchanged b j))
  unchanged (EachOfSet t a b) = (λ j. EachOfSet t (unchanged a j) (unchanged b j))
  unchanged (Sets o t a b) = (λ j. Sets o t (unchanged a j) (unchanged b j))
  unchanged (Contains a b) = (λ j. Contains (unchanged a j) (unchanged b j))
  unchanged (Binary o a b) = (λ j. Binary o (unchanged a j) (unchanged b j))
  unchanged (And a b) = (λ j. And (unchanged a j) (unchanged b j))
  unchanged (Or a b) = (λ j. either (no_call a j) (unchanged a j) (unchanged b j))
  unchanged (OrBoth a b) = (λ j. OrBoth (unchanged a j) (unchanged b j))
  unchanged (Call n at e es) = (λ j. Call n at (unchanged e j) (all_unchanged es j))
  unchanged (If c a at b) = (λ j. If (unchanged c j) (unchanged a j) at (unchanged b j))
  unchanged (New c parts) = (λ j. New c (new_unchanged parts j))

  all_unchanged : (es : Arguments) → all_with_both none es ≡ es
  all_unchanged no_more = refl
  all_unchanged (argument e es) = (λ j. argument (unchanged e j) (all_unchanged es j))

  new_unchanged : (parts : NewArguments) → new_with_both none parts ≡ parts
  new_unchanged new_end = refl
  new_unchanged (new_token k e rest) = (λ j. new_token k (unchanged e j) (new_unchanged rest j))
  new_unchanged (new_child c parts rest) = (λ j. new_child c (new_unchanged parts j) (new_unchanged rest j))

said_made : (circular : ℕ → Bool) (h : Bool) (s : Scope) (e : Expr) (b : Bool) → IsWellMade (λ n. b && circular n) (said_where b circular (equated_said h s e))
said_made circular h s e true = equated_made circular h s e
said_made circular h s e false = subst (IsWellMade none) (unchanged (equated_said h s e)) (equated_made none h s e)

pub equations_made : (g : List Class) (items : List Item) → EquationsMadeWell (rules_of g items)
unfolding rules_of
equations_made g items =
    let attributes = attributes_of g (declarations items) in
    all_found (MadeWell attributes) (map (equation_of g attributes) (givens items)) (λ i x is.
    let found = map_found (equation_of g attributes) (givens items) i x is in
    let e = found.0 in
    let t = target_given g attributes e in
    subst (MadeWell attributes) found.2 (said_made (circular_at attributes) (creates attributes t) (scope_of g attributes e t) e.body (circular_at attributes t.attribute.0)))

-- what a condition says
guard_made : (s : Scope) (o : Option Expr) → IsWellMade none_counts (condition_said s o)
guard_made s None = refl
guard_made s (Some e) = said_made none_counts false s e false

-- so do the expressions of a contribution
one_of_three : (c : Contribution) → IsWellMade none_counts c.condition → IsWellMade none_counts c.receiver → IsWellMade none_counts c.value → (i : ℕ) (e : Expression) → slice_get (expressions_in c) i ≡ Some e → IsWellMade none_counts e
one_of_three c condition receiver value zero e is = let same : c.condition ≡ e = cc in subst (IsWellMade none_counts) same condition
one_of_three c condition receiver value (suc zero) e is = let same : c.receiver ≡ e = cc in subst (IsWellMade none_counts) same receiver
one_of_three c condition receiver value (suc (suc zero)) e is = let same : c.value ≡ e = cc in subst (IsWellMade none_counts) same value
one_of_three c condition receiver value (suc (suc (suc i))) e is = absurd (cc)

three_made : (c : Contribution) → IsWellMade none_counts c.condition → IsWellMade none_counts c.receiver → IsWellMade none_counts c.value → ContributionMadeWell c
three_made c condition receiver value = all_found (IsWellMade none_counts) (expressions_in c) (one_of_three c condition receiver value)

pub contributions_made : (g : List Class) (items : List Item) → ContributionsMadeWell (rules_of g items)
unfolding rules_of
contributions_made g items =
    let attributes = attributes_of g (declarations items) in
    all_found ContributionMadeWell (map (contribution_of g attributes) (contributions items)) (λ i x is.
    let found = map_found (contribution_of g attributes) (contributions items) i x is in
    let c = found.0 in
    let scope = scope_at g attributes (aim_of g attributes c).contributor in
    subst ContributionMadeWell found.2
    (three_made (contribution_of g attributes c) (guard_made scope c.condition) (said_made none_counts false scope c.receiver false) (said_made none_counts false scope c.value false)))
