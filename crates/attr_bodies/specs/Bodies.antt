-- The rules on expressions: J9, J10, J11, J12 and J17. A rule that speaks of a type speaks of expressions whose type is known.
use Rattle.std.specs.Prelude.{ℕ, nat_lt, List, [], ◌∷◌, ◌++◌, Bool, Option, Some, None, is_none}
use Rattle.rag_io.specs.declared.token.Place.{Place}
use Rattle.broken_rules.specs.declared.broken.Broken.{Broken}
use Rattle.broken_rules.specs.declared.rule.Rule.TheVariants.{J9, J12, J17}
use Rattle.broken_rules.specs.Notes.{at, broken_if}
use Rattle.attr_rules.specs.declared.kinds.Kind.{Kind}
use Rattle.attr_rules.specs.declared.kinds.Kind.TheVariants as kinds
use Rattle.attr_rules.specs.declared.types.ValueType.{ValueType}
use Rattle.attr_rules.specs.Types.{of_class}
use Rattle.aspect_items.specs.declared.expression.Quantifier.{Quantifier}
use Rattle.aspect_items.specs.Expressions.{Expr, Arguments, Name, no_more, argument, Truth, Null, Empty, This, Int, Text, Source, Variable, Call, Member, New, Quantified, Group, Cast, Not, Negate, Binary, InstanceOf, If}
use Rattle.expr_typing.specs.declared.set_forms.SetForm.{SetForm}
use Rattle.expr_typing.specs.declared.standing.Prefix.{Prefix}
use Rattle.expr_typing.specs.declared.standing.Stands.{Stands}
use Rattle.expr_typing.specs.declared.standing.Stands.TheVariants as stands
use Rattle.attr_scope.specs.Classes.{class_broken}
use Rattle.expr_typing.specs.Places.{place_of}
use Rattle.expr_typing.specs.Calls.{call_broken}
use Rattle.expr_typing.specs.Fitting.{body_misfit, choice_broken, misfit, no_node, no_range, sides_broken}
use Rattle.expr_typing.specs.Standing.{behind, greatest, is_range, kind_behind}
use Rattle.attr_scope.specs.Scope.{Scope, member_on, variable_named, wanted_for}
use Rattle.expr_typing.specs.SetForms.{count_broken, form_named, one_broken, pair_broken}
use Rattle.expr_typing.specs.Typed.{count, inside, known}

-- J9: a name that stands for no value
abbrev pub variable_broken : Scope → Name → List Broken
variable_broken s n = broken_if (is_none (variable_named s n.text)) (at n.place J9)

-- what one of the forms of sets breaks with some arguments, beside what these break
abbrev pub form_broken : Scope → SetForm → Name → Arguments → List Broken
form_broken s f n no_more = count_broken n
form_broken s f n (argument a no_more) = one_broken f n (known s a) a
form_broken s f n (argument a (argument b no_more)) = pair_broken s.grammar f n (known s a) a (known s b) b
form_broken s f n (argument a (argument b (argument c es))) = count_broken n

-- the types that the arguments of a call without receiver are wanted of: the forms of sets have rules of their own
abbrev pub wanted_alone : Scope → Name → ℕ → Option SetForm → List Kind
wanted_alone s n k None = wanted_for s (member_on s (Some (of_class s.this)) n.text k) k
wanted_alone s n k (Some f) = []

-- what a call without receiver breaks, with what its arguments break
abbrev pub alone_broken : Scope → Bool → Name → Arguments → List Broken → Option SetForm → List Broken
alone_broken s range n es inner None = call_broken s range n (count es) n.place (Some (of_class s.this)) ++ inner
alone_broken s range n es inner (Some f) = inner ++ form_broken s f n es

abbrev mutual
  -- What an expression breaks, by where it stands. A `new` stands nowhere here, and is looked at no further: what it has stands behind it.
  pub expr_broken : Scope → Stands → Expr → List Broken
  expr_broken s w (Truth p b) = []
  expr_broken s w (Null p) = []
  expr_broken s w (Empty p) = []
  expr_broken s w (This p) = []
  expr_broken s w (Int p n) = broken_if (nat_lt (greatest w) n) (at p J17)
  expr_broken s w (Text p n) = []
  expr_broken s w (Source p n) = at p J9 ∷ []
  expr_broken s w (Variable n) = variable_broken s n
  expr_broken s w (Call n es) = alone_broken s (is_range w) n es (arguments_broken s (wanted_alone s n (count es) (form_named n.text)) es) (form_named n.text)
  expr_broken s w (Member e n es) = expr_broken s stands.Anywhere e ++ (call_broken s (is_range w) n (count es) (place_of e) (known s e)
      ++ arguments_broken s (wanted_for s (member_on s (known s e) n.text (count es)) (count es)) es)
  expr_broken s w (New p n es) = at p J12 ∷ []
  expr_broken s w (Quantified q p n range e) = (expr_broken s stands.Range range ++ no_range q (known s range) range)
      ++ (expr_broken (inside s q n range) stands.Anywhere e ++ body_misfit s.grammar q (known (inside s q n range) e) e)
  expr_broken s w (Group p e) = expr_broken s stands.Anywhere e
  expr_broken s w (Cast p n e) = class_broken s.grammar n ++ (expr_broken s stands.Anywhere e ++ no_node (known s e) e)
  expr_broken s w (Not p e) = expr_broken s stands.Anywhere e ++ misfit s.grammar kinds.Truth (known s e) e
  expr_broken s w (Negate p e) = expr_broken s stands.Negated e ++ misfit s.grammar kinds.Int (known s e) e
  expr_broken s w (Binary o a b) = expr_broken s stands.Anywhere a ++ (expr_broken s stands.Anywhere b ++ sides_broken s.grammar o (known s a) a (known s b) b)
  expr_broken s w (InstanceOf e n) = class_broken s.grammar n ++ (expr_broken s stands.Anywhere e ++ no_node (known s e) e)
  expr_broken s w (If c a b) = expr_broken s stands.Anywhere c ++ (expr_broken s stands.Anywhere a ++ (expr_broken s stands.Anywhere b ++ choice_broken s.grammar (known s c) c (known s a) (known s b) b))

  -- what the arguments of a call break, of which the first are wanted of these types
  pub arguments_broken : Scope → List Kind → Arguments → List Broken
  arguments_broken s wanted no_more = []
  arguments_broken s [] (argument e es) = expr_broken s stands.Anywhere e ++ arguments_broken s [] es
  arguments_broken s (k ∷ wanted) (argument e es) = expr_broken s stands.Anywhere e ++ (misfit s.grammar k (known s e) e ++ arguments_broken s wanted es)

-- one of the forms of sets with its arguments, of which no types are wanted beside those of the form
abbrev pub inner_broken : Scope → SetForm → Name → Arguments → List Broken
inner_broken s f n es = arguments_broken s [] es ++ form_broken s f n es

-- an expression of which this type is wanted, by where it stands
abbrev pub operand_broken : Scope → Stands → Kind → Expr → List Broken
operand_broken s w wanted e = expr_broken s w e ++ misfit s.grammar wanted (known s e) e

-- an operand behind `!` or `-`
abbrev pub prefixed_broken : Scope → Prefix → Expr → List Broken
prefixed_broken s prefix e = operand_broken s (behind prefix) (kind_behind prefix) e

-- an argument of a call, of which a type may be wanted
abbrev pub argument_broken : Scope → Option Kind → Expr → List Broken
argument_broken s None e = expr_broken s stands.Anywhere e
argument_broken s (Some k) e = operand_broken s stands.Anywhere k e

-- a call behind a receiver of a type, where that is known
abbrev pub calls_break : Scope → Bool → Option ValueType → Name → Place → Arguments → List Broken
calls_break s range t n first es = call_broken s range n (count es) first t ++ arguments_broken s (wanted_for s (member_on s t n.text (count es)) (count es)) es

-- the range of a form over some elements
abbrev pub range_broken : Scope → Quantifier → Expr → List Broken
range_broken s q e = expr_broken s stands.Range e ++ no_range q (known s e) e

-- its body
abbrev pub body_broken : Scope → Quantifier → Expr → List Broken
body_broken s q e = expr_broken s stands.Anywhere e ++ body_misfit s.grammar q (known s e) e

-- a form over some elements
abbrev pub quantified_broken : Scope → Quantifier → Name → Expr → Expr → List Broken
quantified_broken s q n range e = range_broken s q range ++ body_broken (inside s q n range) q e

-- the operand of a cast or of `instanceof`
abbrev pub node_broken : Scope → Expr → List Broken
node_broken s e = expr_broken s stands.Anywhere e ++ no_node (known s e) e

-- a cast, and a test of a class: the name of the class, and the operand
abbrev pub cast_broken : Scope → Name → Expr → List Broken
cast_broken s n e = class_broken s.grammar n ++ node_broken s e
