-- The classes of the roots that higher-order attributes make: those of the equations as they are written are those of the rules that they make.
use Rattle.std.proofs.Common.{◌≡◌, ℕ, Bool, true, false, List, [], ◌∷◌, Option, Some, None, map, refl, ap, sym, ◌∙◌}
use Rattle.std.specs.Option.{option_map}
use Rattle.rag_io.specs.declared.Place.{Place}
use Rattle.aspect_items.specs.declared.expression.Operator.{Operator}
use Rattle.aspect_items.specs.declared.expression.Operator.TheVariants as signs
use Rattle.aspect_items.specs.declared.expression.Quantifier.{Quantifier}
use Rattle.aspect_items.specs.declared.expression.Quantifier.TheVariants as quantifiers
use Rattle.aspect_items.specs.Expressions as read
use Rattle.aspect_items.specs.Expressions.{Expr, Name}
use Rattle.aspect_items.specs.Items.{Item}
use Rattle.ast_grammar.specs.Grammar.{Class, class_named, number_of}
use Rattle.attr_rules.specs.declared.accessors.Access.{Access}
use Rattle.attr_rules.specs.declared.accessors.Access.TheVariants as access
use Rattle.attr_rules.specs.declared.expression.Quantifier as kept_quantifier
use Rattle.attr_rules.specs.declared.expression.Quantifier.TheVariants as kept_quantifiers
use Rattle.attr_rules.specs.declared.kinds.Attr.{Attr}
use Rattle.attr_rules.specs.declared.types.ValueType.{ValueType}
use Rattle.attr_rules.specs.Expression.{Expression, Arguments, NewArguments, no_more, argument, Truth, Int, Text, Null, Empty, This, Variable, Source, Child, Element, Count, Has, Token, Call, Cast, InstanceOf, Quantified, QuantifiedSet, Each, EachOfSet, Sets, Single, Contains, Size, Not, Negate, Binary, And, Or, OrBoth, If, New}
use Rattle.attr_rules.specs.Rising.{has_call}
use Rattle.attr_rules.specs.Rules.{circular_at, class_made, created_class, declared_at, is_higher_order, target_in}
use Rattle.attr_rules.specs.Types.{of_class}
use Rattle.attr_scope.specs.declared.scope.Member as member
use Rattle.attr_scope.specs.declared.scope.Member.TheVariants as members
use Rattle.attr_scope.specs.Scope.{Scope, member_on, variable_named}
use Rattle.attr_scope.specs.Written.{Given, declarations, givens}
use Rattle.attr_heads.specs.Created.{declares_higher_order}
use Rattle.attr_heads.specs.Heads.{attributes_of}
use Rattle.attr_heads.specs.Targets.{target_given, targets_of}
use Rattle.attr_coverage.specs.Created.{made_in, made_of, written_root}
use Rattle.attr_coverage.specs.Completeness.{root_of, roots_of}
use Rattle.attr_coverage.proofs.MadeAsWritten.{made_as_written}
use Rattle.attr_bodies.specs.Created.{created_said, made_said}
use Rattle.expr_typing.specs.declared.ranges.Elements.{Elements}
use Rattle.expr_typing.specs.declared.ranges.Elements.TheVariants as elements
use Rattle.expr_typing.specs.declared.set_forms.SetForm.{SetForm}
use Rattle.expr_typing.specs.declared.set_forms.SetForm.TheVariants as forms
use Rattle.expr_typing.specs.Created.{new_said}
use Rattle.expr_typing.specs.SetForms.{form_named, form_said, form_type, one_said, pair_said, set_known}
use Rattle.expr_typing.specs.Typed as typed
use Rattle.expr_typing.specs.Typed.{arguments_said, body_of, call_said, count, first_in, inside, joined, known, name_said, over_said, range_of, said_alone, said_over, types_known}
use Rattle.attr_types.specs.BothSides.{either, said_where, with_both}
use Rattle.attr_types.specs.Phases.{creates, equated_said, equation_of, rules_of, scope_of}

-- an expression makes no tree
abbrev MakesNone : Expression → Type 0
MakesNone e = created_class e ≡ None

-- What is written makes none, but for a `new` that is a whole right side.
read_none : (x : Access) (k : ℕ) (e i : Expression) → MakesNone e → MakesNone (typed.read x k e i)
read_none access.Child k e i p = refl
read_none (access.Token t) k e i p = refl
read_none access.Has k e i p = refl
read_none access.Count k e i p = refl
read_none access.Elements k e i p = p
read_none access.Element k e i p = refl

call_none : (o : Option member.Member) (at : Place) (e : Expression) (es : Arguments) → MakesNone e → MakesNone (call_said o at e es)
call_none None at e es p = refl
call_none (Some (members.Reads x)) at e es p = read_none x.access x.component.0 e (first_in es) p
call_none (Some (members.Calls a)) at e es p = refl

one_none : (f : SetForm) (a : Expression) → MakesNone (one_said f a)
one_none (forms.Makes o) a = refl
one_none forms.Single a = refl
one_none forms.Contains a = refl
one_none forms.Size a = refl

pair_none : (f : SetForm) (t : Option ValueType) (a b : Expression) → MakesNone (pair_said f t a b)
pair_none (forms.Makes o) None a b = refl
pair_none (forms.Makes o) (Some t) a b = refl
pair_none forms.Single t a b = refl
pair_none forms.Contains t a b = refl
pair_none forms.Size t a b = refl

form_none : (f : SetForm) (t : Option ValueType) (es : Arguments) → MakesNone (form_said f t es)
form_none f t no_more = refl
form_none f t (argument a no_more) = one_none f a
form_none f t (argument a (argument b no_more)) = pair_none f t a b
form_none f t (argument a (argument b (argument c es))) = refl

alone_none : (s : Scope) (n : Name) (k : ℕ) (ts : List (Option ValueType)) (es : Arguments) (o : Option SetForm) → MakesNone (said_alone s n k ts es o)
alone_none s n k ts es None = call_none (member_on s (Some (of_class s.this)) n.text k) n.place This es refl
alone_none s n k ts es (Some f) = form_none f (form_type s.grammar f ts) es

condition_none : (q : kept_quantifier.Quantifier) (o : Elements) (e b : Expression) → MakesNone (typed.condition_over q o e b)
condition_none q (elements.OfList x) e b = refl
condition_none q (elements.OfSet k) e b = refl

union_none : (t : Option ValueType) (o : Elements) (e b : Expression) → MakesNone (typed.union_over t o e b)
union_none None o e b = refl
union_none (Some t) (elements.OfList x) e b = refl
union_none (Some t) (elements.OfSet k) e b = refl

elements_none : (q : Quantifier) (t : Option ValueType) (o : Elements) (e b : Expression) → MakesNone (said_over q t o e b)
elements_none quantifiers.Each t o e b = union_none (set_known t) o e b
elements_none quantifiers.Any t o e b = condition_none kept_quantifiers.Any o e b
elements_none quantifiers.All t o e b = condition_none kept_quantifiers.All o e b
elements_none quantifiers.First t o e b = condition_none kept_quantifiers.First o e b

over_none : (q : Quantifier) (t : Option ValueType) (o : Option Elements) (e b : Expression) → MakesNone (over_said q t o e b)
over_none q t None e b = refl
over_none q t (Some o) e b = elements_none q t o e b

name_none : (o : Option ℕ) → MakesNone (name_said o)
name_none None = refl
name_none (Some k) = refl

joined_none : (o : Operator) (a b : Expression) → MakesNone (joined o a b)
joined_none signs.Multiply a b = refl
joined_none signs.Add a b = refl
joined_none signs.Subtract a b = refl
joined_none signs.Less a b = refl
joined_none signs.AtMost a b = refl
joined_none signs.Greater a b = refl
joined_none signs.AtLeast a b = refl
joined_none signs.Equal a b = refl
joined_none signs.Differ a b = refl
joined_none signs.And a b = refl
joined_none signs.Or a b = refl

said_none : (s : Scope) (e : Expr) → MakesNone (body_of s e)
said_none s (read.Truth p b) = refl
said_none s (read.Null p) = refl
said_none s (read.Empty p) = refl
said_none s (read.This p) = refl
said_none s (read.Int p n) = refl
said_none s (read.Text p n) = refl
said_none s (read.Source p n) = refl
said_none s (read.Variable n) = name_none (variable_named s n.text)
said_none s (read.Call n es) = alone_none s n (count es) (types_known s es) (arguments_said s es) (form_named n.text)
said_none s (read.Member e n es) = call_none (member_on s (known s e) n.text (count es)) n.place (body_of s e) (arguments_said s es) (said_none s e)
said_none s (read.New p n es) = refl
said_none s (read.Quantified q p n r e) = over_none q (known (inside s q n r) e) (range_of s q r) (body_of s r) (body_of (inside s q n r) e)
said_none s (read.Group p e) = said_none s e
said_none s (read.Cast p n e) = refl
said_none s (read.Not p e) = refl
said_none s (read.Negate p e) = refl
said_none s (read.Binary o a b) = joined_none o (body_of s a) (body_of s b)
said_none s (read.InstanceOf e n) = refl
said_none s (read.If c a b) = refl

-- and so does what `||` says
either_none : (c : Bool) (a b : Expression) → MakesNone (either c a b)
either_none true a b = refl
either_none false a b = refl

both_made : (circular : ℕ → Bool) (e : Expression) → created_class (with_both circular e) ≡ created_class e
both_made circular (Truth b) = refl
both_made circular (Int z) = refl
both_made circular (Text n) = refl
both_made circular Null = refl
both_made circular Empty = refl
both_made circular This = refl
both_made circular (Variable k) = refl
both_made circular (Source k) = refl
both_made circular (Child k e) = refl
both_made circular (Element k e i) = refl
both_made circular (Count k e) = refl
both_made circular (Has k e) = refl
both_made circular (Token t k e) = refl
both_made circular (Call a at e es) = refl
both_made circular (Cast c e) = refl
both_made circular (InstanceOf c e) = refl
both_made circular (Quantified q k e b) = refl
both_made circular (QuantifiedSet q e b) = refl
both_made circular (Each t k e b) = refl
both_made circular (EachOfSet t e b) = refl
both_made circular (Sets o t a b) = refl
both_made circular (Single e) = refl
both_made circular (Contains a b) = refl
both_made circular (Size e) = refl
both_made circular (Not e) = refl
both_made circular (Negate e) = refl
both_made circular (Binary o a b) = refl
both_made circular (And a b) = refl
both_made circular (Or a b) = either_none (has_call circular a) (with_both circular a) (with_both circular b)
both_made circular (OrBoth a b) = refl
both_made circular (If c a at b) = refl
both_made circular (New c parts) = refl

where_made : (b : Bool) (circular : ℕ → Bool) (e : Expression) → created_class (said_where b circular e) ≡ created_class e
where_made true circular e = both_made circular e
where_made false circular e = refl

-- the root of what a right side of a higher-order attribute says is the one that is written
new_root : (o : Option ℕ) (parts : NewArguments) → option_map number_of (created_class (new_said o parts)) ≡ o
new_root None parts = refl
new_root (Some c) parts = refl

no_root : (e : Expression) → MakesNone e → option_map number_of (created_class e) ≡ None
no_root e none = ap (option_map number_of) none

same_root : (s : Scope) (e : Expr) → option_map number_of (created_class (created_said s e)) ≡ written_root s.grammar e
same_root s (read.New p n es) = new_root (class_named s.grammar n.text) (made_said s (class_named s.grammar n.text) es)
same_root s (read.Truth p b) = refl
same_root s (read.Null p) = refl
same_root s (read.Empty p) = refl
same_root s (read.This p) = refl
same_root s (read.Int p n) = refl
same_root s (read.Text p n) = refl
same_root s (read.Source p n) = refl
same_root s (read.Variable n) = no_root (body_of s (read.Variable n)) (said_none s (read.Variable n))
same_root s (read.Call n es) = no_root (body_of s (read.Call n es)) (said_none s (read.Call n es))
same_root s (read.Member e n es) = no_root (body_of s (read.Member e n es)) (said_none s (read.Member e n es))
same_root s (read.Quantified q p n r e) = no_root (body_of s (read.Quantified q p n r e)) (said_none s (read.Quantified q p n r e))
same_root s (read.Group p e) = no_root (body_of s (read.Group p e)) (said_none s (read.Group p e))
same_root s (read.Cast p n e) = refl
same_root s (read.Not p e) = refl
same_root s (read.Negate p e) = refl
same_root s (read.Binary o a b) = no_root (body_of s (read.Binary o a b)) (said_none s (read.Binary o a b))
same_root s (read.InstanceOf e n) = refl
same_root s (read.If c a b) = refl

-- the targets of equations are those that the list gives
same_targets : {X Y Z : Type 0} (f : X → Y) (t : Y → Z) (h : X → Z) (xs : List X) → ((x : X) → t (f x) ≡ h x) → map t (map f xs) ≡ map h xs
same_targets f t h [] same = refl
same_targets f t h (x ∷ xs) same = (λ i. same x i ∷ same_targets f t h xs same i)

module _ (g : List Class) (items : List Item) where
  pub targets_again : map target_in (map (equation_of g (attributes_of g (declarations items))) (givens items)) ≡ targets_of g (attributes_of g (declarations items)) (givens items)
  targets_again = same_targets (equation_of g (attributes_of g (declarations items))) target_in (target_given g (attributes_of g (declarations items))) (givens items) (λ e. refl)

  -- the root that an equation of a higher-order attribute makes is the one that is written
  root_said : (w : Given) (d : Attr) → declared_at (attributes_of g (declarations items)) (target_given g (attributes_of g (declarations items)) w).attribute.0 ≡ Some d → is_higher_order d.sort ≡ true
      → root_of g w ≡ option_map number_of (class_made (equation_of g (attributes_of g (declarations items)) w))
  root_said w d declared higher =
      let attributes = attributes_of g (declarations items) in
      let t = target_given g attributes w in
      let makes : creates attributes t ≡ true = ap declares_higher_order declared ∙ higher in
      let scope = scope_of g attributes w t in
      sym (ap (option_map number_of) (where_made (circular_at attributes t.attribute.0) (circular_at attributes) (equated_said (creates attributes t) scope w.body))
      ∙ ap (λ h. option_map number_of (created_class (equated_said h scope w.body))) makes ∙ same_root scope w.body)

  -- what the rules make is what is made by the equations as they are written
  pub roots_again : (p : ℕ) → made_of g (attributes_of g (declarations items)) (map target_in (map (equation_of g (attributes_of g (declarations items))) (givens items))) (roots_of g (givens items)) p
      ≡ made_in g (rules_of g items) p
  unfolding rules_of
  roots_again p = made_as_written g (rules_of g items) (givens items) (equation_of g (attributes_of g (declarations items))) refl refl root_said p
