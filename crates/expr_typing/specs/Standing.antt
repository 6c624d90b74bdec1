-- Where an expression stands, and what that decides.
use Rattle.std.specs.Prelude.{ℕ, Bool, true, false}
use Rattle.attr_rules.specs.declared.kinds.Kind.{Kind}
use Rattle.attr_rules.specs.declared.kinds.Kind.TheVariants as kinds
use Rattle.expr_typing.specs.declared.standing.Prefix.{Prefix}
use Rattle.expr_typing.specs.declared.standing.Prefix.TheVariants as prefixes
use Rattle.expr_typing.specs.declared.standing.Stands.{Stands}
use Rattle.expr_typing.specs.declared.standing.Stands.TheVariants as stands

-- the greatest literal: directly behind a unary `-` it is one more
abbrev pub greatest : Stands → ℕ
greatest stands.Anywhere = 2147483647
greatest stands.Negated = 2147483648
greatest stands.Range = 2147483647

-- where the operand stands behind `!` or `-`, and the type that is wanted of it, which the whole has
abbrev pub behind : Prefix → Stands
behind prefixes.Not = stands.Anywhere
behind prefixes.Minus = stands.Negated

abbrev pub kind_behind : Prefix → Kind
kind_behind prefixes.Not = kinds.Truth
kind_behind prefixes.Minus = kinds.Int

-- a call that gives a whole list stands in ranges alone
abbrev pub is_range : Stands → Bool
is_range stands.Anywhere = false
is_range stands.Negated = false
is_range stands.Range = true
