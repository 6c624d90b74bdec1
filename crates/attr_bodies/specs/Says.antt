-- What written expressions say, without where it lies in memory.
use Rattle.std.specs.Prelude.{List, Option, None, Some}
use Rattle.std.specs.Option.{option_and_then}
use Rattle.attr_rules.specs.declared.accessors.Accessor.{Accessor}
use Rattle.attr_rules.specs.declared.types.ValueType.{ValueType}
use Rattle.attr_rules.specs.declared.types.ValueType.TheVariants as types
use Rattle.attr_rules.specs.Expression as said
use Rattle.attr_rules.specs.Expression.{Expression, expression_of}
use Rattle.ast_grammar.specs.Grammar.{Class, class_named}
use Rattle.aspect_items.specs.declared.expression.Expr as kept_expr
use Rattle.aspect_items.specs.declared.expression.Name as kept_name
use Rattle.aspect_items.specs.declared.expression.Operator.{Operator}
use Rattle.aspect_items.specs.declared.expression.Quantifier.{Quantifier}
use Rattle.aspect_items.specs.Expressions.{Arguments, Expr, Name, seen_expr, seen_name}
use Rattle.attr_scope.specs.Classes.{class_or_first}
use Rattle.attr_scope.specs.Scope.{Scope, list_called, member_on, type_called}
use Rattle.expr_typing.specs.declared.set_forms.SetForm.{SetForm}
use Rattle.expr_typing.specs.declared.standing.Prefix.{Prefix}
use Rattle.expr_typing.specs.declared.typed.Typed as kept_typed
use Rattle.expr_typing.specs.Places.{else_place}
use Rattle.expr_typing.specs.SetForms.{common_of, form_said, form_type, truth}
use Rattle.expr_typing.specs.Standing.{kind_behind}
use Rattle.expr_typing.specs.Typed.{arguments_said, body_of, call_said, class_type, count, inside, joined, known, list_of, over_said, prefixed, quantified_type, range_of, result_of, types_known}
use Rattle.attr_bodies.specs.declared.bodies.TypedPart.{TypedPart}
use Rattle.attr_bodies.specs.Seen.{seen_arguments}

-- what an expression says: its type, where that is known, the list that it gives, if it gives one, and its typed form
pub record Said : Type 0 where
  pub type : Option ValueType
  pub list : Option Accessor
  pub body : Expression

abbrev pub seen_typed : kept_typed.Typed → Said
seen_typed t = record { type = t.value_type; list = t.list; body = expression_of t.body }

-- what gives no list
abbrev pub said_as : Option ValueType → Expression → Said
said_as t e = record { type = t; list = None; body = e }

-- what a written expression says
abbrev pub said_by : Scope → Expr → Said
said_by s e = record { type = known s e; list = list_of s e; body = body_of s e }

-- what a call says behind what a receiver says
abbrev pub call_says : Scope → Said → Name → Arguments → Said
call_says s r n es = record {
  type = option_and_then (type_called s) (member_on s r.type n.text (count es));
  list = option_and_then (list_called (count es)) (member_on s r.type n.text (count es));
  body = call_said (member_on s r.type n.text (count es)) n.place r.body (arguments_said s es);
}

abbrev pub called_says : Scope → kept_typed.Typed → kept_name.Name → List kept_expr.Expr → Said
called_says s r n es = call_says s (seen_typed r) (seen_name n) (seen_arguments es)

-- what an operator says between two parts
abbrev pub joined_says : Operator → TypedPart → TypedPart → Said
joined_says o p q = said_as (result_of o) (joined o (expression_of p.typed.body) (expression_of q.typed.body))

-- what a choice says between two parts: it is of their common type
abbrev pub chosen_says : List Class → TypedPart → TypedPart → TypedPart → Said
chosen_says g c p q = said_as (common_of g p.typed.value_type q.typed.value_type)
    (said.If (expression_of c.typed.body) (expression_of p.typed.body) (else_place (seen_expr q.written.now)) (expression_of q.typed.body))

-- what an expression in parentheses says, which gives no list
abbrev pub group_says : Scope → Expr → Said
group_says s e = said_as (known s e) (body_of s e)

-- what an operand says behind `!` or `-`
abbrev pub prefixed_says : Scope → Prefix → Expr → Said
prefixed_says s prefix e = said_as (Some (types.Of (kind_behind prefix))) (prefixed prefix (body_of s e))

-- what a cast says, and a test of a class
abbrev pub cast_says : Scope → Name → Expr → Said
cast_says s n e = said_as (class_type s.grammar n.text) (said.Cast (class_or_first (class_named s.grammar n.text)) (body_of s e))

abbrev pub test_says : Scope → Name → Expr → Said
test_says s n e = said_as truth (said.InstanceOf (class_or_first (class_named s.grammar n.text)) (body_of s e))

-- what one of the forms of sets says with some arguments
abbrev pub form_says : Scope → SetForm → Arguments → Said
form_says s f es = said_as (form_type s.grammar f (types_known s es)) (form_said f (form_type s.grammar f (types_known s es)) (arguments_said s es))

-- what a form over some elements says
abbrev pub quantified_says : Scope → Quantifier → Name → Expr → Expr → Said
quantified_says s q n range e = said_as (quantified_type q (range_of s q range) (known (inside s q n range) e)) (over_said q (known (inside s q n range) e) (range_of s q range) (body_of s range) (body_of (inside s q n range) e))

abbrev pub over_says : Scope → Quantifier → kept_name.Name → kept_expr.Expr → kept_expr.Expr → Said
over_says s q n range e = quantified_says s q (seen_name n) (seen_expr range) (seen_expr e)
