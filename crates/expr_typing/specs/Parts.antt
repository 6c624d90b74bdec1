-- The rules on parts of expressions, each with its type, where that is known.
use Rattle.std.specs.Prelude.{List}
use Rattle.broken_rules.specs.declared.broken.Broken.{Broken}
use Rattle.broken_rules.specs.declared.rule.Rule.TheVariants.{J10}
use Rattle.broken_rules.specs.Notes.{at, broken_if}
use Rattle.ast_grammar.specs.Grammar.{Class}
use Rattle.attr_rules.specs.declared.kinds.Kind.{Kind}
use Rattle.aspect_items.specs.declared.expression.Operator.{Operator}
use Rattle.aspect_items.specs.Expressions.{Expr, Name, seen_expr}
use Rattle.expr_typing.specs.declared.set_forms.SetForm.{SetForm}
use Rattle.expr_typing.specs.declared.sides.Part.{Part}
use Rattle.expr_typing.specs.Fitting as fitting
use Rattle.expr_typing.specs.Places.{place_of}
use Rattle.expr_typing.specs.SetForms as sets
use Rattle.expr_typing.specs.SetForms.{have_no_common, is_foreign, set_known}

-- a part as it is written
abbrev pub seen_part : Part → Expr
seen_part p = seen_expr p.written.now

-- J10: another type is wanted
abbrev pub misfit : List Class → Kind → Part → List Broken
misfit g wanted p = fitting.misfit g wanted p.value_type (seen_part p)

-- J10: known to be no node
abbrev pub no_node : Part → List Broken
no_node p = fitting.no_node p.value_type (seen_part p)

-- J10: known to be no set
abbrev pub no_set : Part → List Broken
no_set p = sets.no_set p.value_type (seen_part p)

-- J10: there are no sets of such elements
abbrev pub no_element : Part → List Broken
no_element p = sets.no_element p.value_type (seen_part p)

-- the sides of an operator: of which one type is wanted, which are compared, or by the operator
abbrev pub both_misfit : List Class → Kind → Part → Part → List Broken
both_misfit g wanted p q = fitting.both_misfit g wanted p.value_type (seen_part p) q.value_type (seen_part q)

abbrev pub equal_broken : Part → Part → List Broken
equal_broken p q = fitting.equal_broken p.value_type q.value_type (seen_part q)

abbrev pub sides_broken : List Class → Operator → Part → Part → List Broken
sides_broken g o p q = fitting.sides_broken g o p.value_type (seen_part p) q.value_type (seen_part q)

-- J10 at the second of two parts that have no common type
abbrev pub no_common : List Class → Part → Part → List Broken
no_common g p q = broken_if (have_no_common g p.value_type q.value_type) (at (place_of (seen_part q)) J10)

-- the condition and the two parts of a choice
abbrev pub choice_broken : List Class → Part → Part → Part → List Broken
choice_broken g c p q = fitting.choice_broken g c.value_type (seen_part c) p.value_type q.value_type (seen_part q)

-- J10 at the second of two sets that have no common type, and with it at what is no set
abbrev pub no_common_set : List Class → Part → Part → List Broken
no_common_set g p q = broken_if (have_no_common g (set_known p.value_type) (set_known q.value_type)) (at (place_of (seen_part q)) J10)

abbrev pub sets_broken : List Class → Part → Part → List Broken
sets_broken g p q = sets.sets_broken g p.value_type (seen_part p) q.value_type (seen_part q)

-- J10 at what is no element of a set, and with it at what is no set
abbrev pub foreign : List Class → Part → Part → List Broken
foreign g p q = broken_if (is_foreign g (set_known p.value_type) q.value_type) (at (place_of (seen_part q)) J10)

abbrev pub contains_broken : List Class → Part → Part → List Broken
contains_broken g p q = sets.contains_broken g p.value_type (seen_part p) q.value_type (seen_part q)

-- one of the forms of sets, with one argument and with two
abbrev pub one_broken : SetForm → Name → Part → List Broken
one_broken f n p = sets.one_broken f n p.value_type (seen_part p)

abbrev pub pair_broken : List Class → SetForm → Name → Part → Part → List Broken
pair_broken g f n p q = sets.pair_broken g f n p.value_type (seen_part p) q.value_type (seen_part q)
