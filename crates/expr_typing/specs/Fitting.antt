-- The rule that types fit, J10, at the parts of an expression. It speaks of parts whose type is known.
use Rattle.std.specs.Prelude.{List, ◌++◌, Bool, false, not, Option, Some, None, is_none}
use Rattle.broken_rules.specs.declared.broken.Broken.{Broken}
use Rattle.broken_rules.specs.declared.rule.Rule.TheVariants.{J10}
use Rattle.broken_rules.specs.Notes.{at, broken_if}
use Rattle.ast_grammar.specs.Grammar.{Class}
use Rattle.attr_rules.specs.declared.kinds.Kind.{Kind}
use Rattle.attr_rules.specs.declared.kinds.Kind.TheVariants as kinds
use Rattle.attr_rules.specs.declared.types.ValueType.{ValueType}
use Rattle.attr_rules.specs.Types.{comparable, fits, is_node}
use Rattle.aspect_items.specs.declared.expression.Operator.{Operator}
use Rattle.aspect_items.specs.declared.expression.Operator.TheVariants as signs
use Rattle.aspect_items.specs.declared.expression.Quantifier.{Quantifier}
use Rattle.aspect_items.specs.declared.expression.Quantifier.TheVariants as quantifiers
use Rattle.aspect_items.specs.Expressions.{Expr}
use Rattle.expr_typing.specs.Places.{place_of}
use Rattle.expr_typing.specs.SetForms.{have_no_common, no_set}
use Rattle.expr_typing.specs.Typed.{set_over}

-- J10: the type is known, and isn't the wanted one
abbrev pub is_unfit : List Class → Option ValueType → Kind → Bool
is_unfit g None wanted = false
is_unfit g (Some t) wanted = not (fits g t wanted)

-- an expression of a type, where that is known, and another is wanted
abbrev pub misfit : List Class → Kind → Option ValueType → Expr → List Broken
misfit g wanted t e = broken_if (is_unfit g t wanted) (at (place_of e) J10)

-- J10 of `==`: both types are known, and can't be compared
abbrev pub are_apart : Option ValueType → Option ValueType → Bool
are_apart None u = false
are_apart (Some t) None = false
are_apart (Some t) (Some u) = not (comparable t u)

-- what the two sides of an operator break, which are of these types, where they are known
abbrev pub both_misfit : List Class → Kind → Option ValueType → Expr → Option ValueType → Expr → List Broken
both_misfit g k t a u b = misfit g k t a ++ misfit g k u b

abbrev pub equal_broken : Option ValueType → Option ValueType → Expr → List Broken
equal_broken t u b = broken_if (are_apart t u) (at (place_of b) J10)

abbrev pub sides_broken : List Class → Operator → Option ValueType → Expr → Option ValueType → Expr → List Broken
sides_broken g signs.Multiply t a u b = both_misfit g kinds.Int t a u b
sides_broken g signs.Add t a u b = both_misfit g kinds.Int t a u b
sides_broken g signs.Subtract t a u b = both_misfit g kinds.Int t a u b
sides_broken g signs.Less t a u b = both_misfit g kinds.Int t a u b
sides_broken g signs.AtMost t a u b = both_misfit g kinds.Int t a u b
sides_broken g signs.Greater t a u b = both_misfit g kinds.Int t a u b
sides_broken g signs.AtLeast t a u b = both_misfit g kinds.Int t a u b
sides_broken g signs.Equal t a u b = equal_broken t u b
sides_broken g signs.Differ t a u b = equal_broken t u b
sides_broken g signs.And t a u b = both_misfit g kinds.Truth t a u b
sides_broken g signs.Or t a u b = both_misfit g kinds.Truth t a u b

-- a condition that is no truth value, and a last part that has no common type with the one before
abbrev pub choice_broken : List Class → Option ValueType → Expr → Option ValueType → Option ValueType → Expr → List Broken
choice_broken g r c t u b = misfit g kinds.Truth r c ++ broken_if (have_no_common g t u) (at (place_of b) J10)

-- J10: a range whose type is known has no elements for a form: a list has no type
abbrev pub has_no_elements : Quantifier → Option ValueType → Bool
has_no_elements q None = false
has_no_elements q (Some t) = is_none (set_over q t)

abbrev pub no_range : Quantifier → Option ValueType → Expr → List Broken
no_range q t e = broken_if (has_no_elements q t) (at (place_of e) J10)

-- J10: the body of `each` is no set, or a condition no truth value
abbrev pub body_misfit : List Class → Quantifier → Option ValueType → Expr → List Broken
body_misfit g quantifiers.Each t e = no_set t e
body_misfit g quantifiers.Any t e = misfit g kinds.Truth t e
body_misfit g quantifiers.All t e = misfit g kinds.Truth t e
body_misfit g quantifiers.First t e = misfit g kinds.Truth t e

-- J10: the type is known, and is neither a class nor that of `null`
abbrev pub is_no_node : Option ValueType → Bool
is_no_node None = false
is_no_node (Some t) = not (is_node t)

abbrev pub no_node : Option ValueType → Expr → List Broken
no_node t e = broken_if (is_no_node t) (at (place_of e) J10)
