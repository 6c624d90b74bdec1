-- The parts of a `new`, which makes the root of a tree: what it takes for each component of its class, the rules on it, J12 and J17, and what it
-- says. A rule that speaks of a class speaks of a `new` whose class is known.
use Rattle.std.specs.Prelude.{ℕ, ◌==◌, nat_lt, List, [], Bool, true, false, not, ◌||◌, Option, Some, None, length, slice_get}
use Rattle.rag_io.specs.declared.token.Place.{Place}
use Rattle.broken_rules.specs.declared.broken.Broken.{Broken}
use Rattle.broken_rules.specs.declared.rule.Rule.TheVariants.{J12, J17}
use Rattle.broken_rules.specs.Notes.{at, broken_if}
use Rattle.ast_grammar.specs.declared.grammar.ClassId.{ClassId}
use Rattle.ast_grammar.specs.declared.grammar.Component as kept_component
use Rattle.ast_grammar.specs.declared.grammar.Shape.{Shape}
use Rattle.ast_grammar.specs.declared.grammar.Shape.TheVariants as shapes
use Rattle.ast_grammar.specs.Grammar.{Class, Component, components_of, is_sub}
use Rattle.attr_rules.specs.declared.kinds.Kind.TheVariants as kinds
use Rattle.attr_rules.specs.Expression as said
use Rattle.attr_rules.specs.Expression.{Expression, NewArguments, new_child, new_token}
use Rattle.attr_rules.specs.Rules.{most_created}
use Rattle.attr_rules.specs.Typing.{nodes_made, tokens_made}
use Rattle.attr_scope.specs.WrittenTypes.{class_numbered}
use Rattle.expr_typing.specs.declared.created.Takes.{Takes}
use Rattle.expr_typing.specs.declared.created.Takes.TheVariants as takes

-- what a `new` takes as its argument for a component of a shape: a value for a token, a `new` for a child, and nothing for a list or an optional
abbrev pub taken_by : ClassId → Shape → Takes
taken_by c shapes.Child = takes.Child c
taken_by c shapes.List = takes.Nothing
taken_by c shapes.Optional = takes.Nothing
taken_by c shapes.Text = takes.Token kinds.Text
taken_by c shapes.Int = takes.Token kinds.Int
taken_by c shapes.Truth = takes.Token kinds.Truth

abbrev pub taken_for : Component → Takes
taken_for x = taken_by x.class x.shape

abbrev pub taken_at : kept_component.Component → Takes
taken_at x = taken_by x.class x.shape

-- the components of a class, where it is known
abbrev pub components_known : List Class → Option ℕ → List Component
components_known g None = []
components_known g (Some c) = components_of g c

-- there are no nodes of the class
abbrev pub is_abstract : Option Class → Bool
is_abstract None = true
is_abstract (Some c) = c.abstract

-- J12: nothing is made of an abstract class, nor with another number of arguments than the class has components
abbrev pub is_unmade : List Class → ℕ → ℕ → Bool
is_unmade g c n = is_abstract (slice_get g c) || not (length (components_of g c) == n)

abbrev pub unmade_broken : List Class → Place → ℕ → Option ℕ → List Broken
unmade_broken g p n None = []
unmade_broken g p n (Some c) = broken_if (is_unmade g c n) (at p J12)

-- J12: a child of a class is made, and one of another class is wanted; it is broken at the `new` that has the child
abbrev pub child_broken : List Class → Place → ClassId → Option ℕ → List Broken
child_broken g p wanted None = []
child_broken g p wanted (Some c) = broken_if (not (is_sub g c wanted.0)) (at p J12)

-- J17: what is made has too many nodes, or too many token values
abbrev pub is_too_large : Expression → Bool
is_too_large (said.New c parts) = nat_lt most_created (nodes_made parts) || nat_lt most_created (tokens_made parts)
is_too_large _ = false

abbrev pub size_broken : Place → Expression → List Broken
size_broken p e = broken_if (is_too_large e) (at p J17)

-- what a `new` says; one of no known class says `null`
abbrev pub new_said : Option ℕ → NewArguments → Expression
new_said None parts = said.Null
new_said (Some c) parts = said.New (class_numbered c) parts

-- a child that is made, before other arguments; what makes nothing is left out
abbrev pub child_before : Expression → NewArguments → NewArguments
child_before (said.New c parts) rest = new_child c parts rest
child_before _ rest = rest

-- one argument more, before others
abbrev pub argument_before : Takes → Expression → NewArguments → NewArguments
argument_before (takes.Token k) e rest = new_token k e rest
argument_before (takes.Child c) e rest = child_before e rest
argument_before takes.Nothing e rest = rest
