-- Where the rounds of circular attributes start, and the rules on their declarations: J13 and J15.
use Rattle.std.specs.Prelude.{List, [], Bool, true, false, not, ◌||◌, Option, Some, None, is_none, if◌then◌else◌}
use Rattle.std.specs.Option.{unwrap_or}
use Rattle.broken_rules.specs.declared.broken.Broken.{Broken}
use Rattle.broken_rules.specs.declared.rule.Rule.TheVariants.{J13}
use Rattle.broken_rules.specs.Notes.{at, broken_if}
use Rattle.ast_grammar.specs.Grammar.{Class}
use Rattle.attr_rules.specs.declared.kinds.Kind.{Kind}
use Rattle.attr_rules.specs.declared.kinds.Kind.TheVariants as kinds
use Rattle.attr_rules.specs.declared.kinds.Sort.{Sort}
use Rattle.attr_rules.specs.declared.kinds.Start.{Start}
use Rattle.attr_rules.specs.declared.kinds.Start.TheVariants as starts
use Rattle.attr_rules.specs.Rules.{may_be_circular}
use Rattle.aspect_items.specs.Expressions.{Expr, Truth, Empty}
use Rattle.aspect_items.specs.Items.{Circular, WrittenType}
use Rattle.attr_scope.specs.WrittenTypes.{type_written}

-- the literal `false`, and the literal `empty`: neither in parentheses
abbrev pub is_false : Expr → Bool
is_false (Truth p b) = not b
is_false e = false

abbrev pub is_empty : Expr → Bool
is_empty (Empty p) = true
is_empty e = false

abbrev pub start_where : Bool → Start → Option Start
start_where b s = if b then Some s else None

-- where the rounds of a circular attribute of a type start that has this bottom: `false` is one of `boolean`, and `empty` of a set
abbrev pub start_of : Kind → Expr → Option Start
start_of kinds.Truth e = start_where (is_false e) starts.False
start_of kinds.Int e = None
start_of kinds.Text e = None
start_of (kinds.Node c) e = None
start_of kinds.Texts e = start_where (is_empty e) starts.Empty
start_of (kinds.Nodes c) e = start_where (is_empty e) starts.Empty

-- a type has no such bottom, where the type is known
abbrev pub has_no_start : Option Kind → Expr → Bool
has_no_start None e = false
has_no_start (Some k) e = is_none (start_of k e)

-- J13 of a declaration of this sort and type: a circular attribute is higher-order, or has a bottom that its type hasn't
abbrev pub start_broken : List Class → Sort → WrittenType → Option Circular → List Broken
start_broken g s t None = []
start_broken g s t (Some c) = broken_if (not (may_be_circular s) || has_no_start (type_written g t) c.bottom) (at c.place J13)

abbrev pub is_circular : Option Circular → Bool
is_circular None = false
is_circular (Some c) = true

-- where the rounds start that are declared for an attribute of a type, if any are
abbrev pub start_declared : Kind → Option Circular → Start
start_declared k None = starts.Plain
start_declared k (Some c) = unwrap_or (start_of k c.bottom) starts.Plain

-- one of two holds, and the other doesn't
abbrev pub are_unlike : Bool → Bool → Bool
are_unlike true b = not b
are_unlike false b = b
