-- Contributions whose expressions are well typed.
use Rattle.std.specs.Prelude.{◌≡◌, ◌↔◌, All, List, [], Option, Some, None}
use Rattle.ast_grammar.specs.Grammar.{Class}
use Rattle.attr_rules.specs.declared.kinds.Kind.TheVariants as kinds
use Rattle.attr_rules.specs.Rules.{Attribute}
use Rattle.aspect_items.specs.Expressions.{Expr}
use Rattle.aspect_items.specs.Items.{Contribution}
use Rattle.attr_scope.specs.Scope.{Scope}
use Rattle.attr_heads.specs.Contributions.{aim_of}
use Rattle.attr_types.specs.Phases.{offers_broken, scope_at, wanted_from}
use Rattle.typing_rules.specs.TypeRules.{IsOf}

-- a condition is a truth value, where one is written
abbrev pub IsCondition : Scope → Option Expr → Type 0
IsCondition s None = Unit {0}
IsCondition s (Some e) = IsOf s kinds.Truth e

-- where the expressions of a contribution stand: at nodes of its class, and nothing has a name there
abbrev pub scope_in : List Class → List Attribute → Contribution → Scope
scope_in g attributes c = scope_at g attributes (aim_of g attributes c).contributor

-- The condition of a contribution is a truth value, its receiver is of a type that fits the class behind `to`, and its value of one that fits what is
-- contributed to the collection.
pub record AreWellTyped (g : List Class) (attributes : List Attribute) (c : Contribution) : Type 0 where
  pub condition : IsCondition (scope_in g attributes c) c.condition
  pub receiver : IsOf (scope_in g attributes c) (kinds.Node (aim_of g attributes c).receiver) c.receiver
  pub value : IsOf (scope_in g attributes c) (wanted_from attributes (aim_of g attributes c).collection.0) c.value

-- contributions break no rule on expressions exactly where all of them are well typed
abbrev pub OffersExactly : List Class → List Attribute → List Contribution → Type 0
OffersExactly g attributes offered = (offers_broken g attributes offered ≡ []) ↔ All (AreWellTyped g attributes) offered
