-- Parts and calls of expressions without where they lie in memory, and what they break.
use Rattle.std.specs.Prelude.{List, Option, map}
use Rattle.broken_rules.specs.declared.broken.Broken.{Broken}
use Rattle.ast_grammar.specs.Grammar.{Class}
use Rattle.attr_rules.specs.declared.kinds.Params.{Params}
use Rattle.attr_rules.specs.declared.types.ValueType.{ValueType}
use Rattle.attr_rules.specs.Types.{parameter_kinds}
use Rattle.aspect_items.specs.declared.expression.Expr as kept_expr
use Rattle.aspect_items.specs.declared.expression.Name as kept_name
use Rattle.aspect_items.specs.declared.expression.Operator.{Operator}
use Rattle.aspect_items.specs.declared.expression.Quantifier.{Quantifier}
use Rattle.aspect_items.specs.Expressions.{Arguments, Call, Expr, arguments_of, seen_expr, seen_name}
use Rattle.attr_scope.specs.Scope.{Scope}
use Rattle.expr_typing.specs.declared.calls.Called.{Called}
use Rattle.expr_typing.specs.declared.set_forms.SetForm.{SetForm}
use Rattle.expr_typing.specs.declared.sides.Part.{Part}
use Rattle.expr_typing.specs.declared.standing.Stands.{Stands}
use Rattle.expr_typing.specs.Calls.{first_place}
use Rattle.expr_typing.specs.Parts as parts
use Rattle.expr_typing.specs.Places.{place_of}
use Rattle.expr_typing.specs.Standing.{is_range}
use Rattle.attr_bodies.specs.declared.bodies.TypedPart.{TypedPart}
use Rattle.attr_bodies.specs.Bodies.{arguments_broken, calls_break, inner_broken, quantified_broken}

-- a part with its type alone
abbrev pub part_of : TypedPart → Part
part_of p = record { written = p.written; value_type = p.typed.value_type }

-- the sides of an operator, and the parts of a choice
abbrev pub joined_broken : List Class → Operator → TypedPart → TypedPart → List Broken
joined_broken g o p q = parts.sides_broken g o (part_of p) (part_of q)

abbrev pub chosen_broken : List Class → TypedPart → TypedPart → TypedPart → List Broken
chosen_broken g c p q = parts.choice_broken g (part_of c) (part_of p) (part_of q)

-- the arguments of a call
abbrev pub seen_arguments : List kept_expr.Expr → Arguments
seen_arguments es = arguments_of (map seen_expr es)

-- a call without receiver
abbrev pub seen_call : kept_name.Name → List kept_expr.Expr → Expr
seen_call n es = Call (seen_name n) (seen_arguments es)

-- the arguments of a call that takes these
abbrev pub given_broken : Scope → Params → List kept_expr.Expr → List Broken
given_broken s ps es = arguments_broken s (parameter_kinds ps) (seen_arguments es)

-- a call with its arguments, behind a receiver of a type, where that is known; and one behind a part, by where it stands
abbrev pub broken_with : Scope → Option ValueType → Called → List kept_expr.Expr → List Broken
broken_with s t c es = calls_break s c.range t (seen_name c.name.now) (first_place c) (seen_arguments es)

abbrev pub broken_behind : Scope → Stands → TypedPart → kept_name.Name → List kept_expr.Expr → List Broken
broken_behind s w p n es = calls_break s (is_range w) p.typed.value_type (seen_name n) (place_of (seen_expr p.written.now)) (seen_arguments es)

-- one of the forms of sets with its arguments
abbrev pub set_form_broken : Scope → SetForm → kept_name.Name → List kept_expr.Expr → List Broken
set_form_broken s f n es = inner_broken s f (seen_name n) (seen_arguments es)

-- a form over some elements
abbrev pub over_broken : Scope → Quantifier → kept_name.Name → kept_expr.Expr → kept_expr.Expr → List Broken
over_broken s q n range e = quantified_broken s q (seen_name n) (seen_expr range) (seen_expr e)
