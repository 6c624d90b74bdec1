-- The expressions of contributions.
use Rattle.std.proofs.Common.{◌≡◌, ◌↔◌, List, [], ◌++◌, All, Option, Some, None, refl}
use Rattle.std.specs.List.{flat_map}
use Rattle.std.proofs.lemmas.List.Elements.{All-nil}
use Rattle.broken_rules.proofs.Clean.{append_none, flat_map_found}
use Rattle.ast_grammar.specs.Grammar.{Class}
use Rattle.aspect_items.specs.Expressions.{Expr}
use Rattle.aspect_items.specs.Items.{Contribution}
use Rattle.attr_rules.specs.declared.kinds.Kind.TheVariants as kinds
use Rattle.attr_rules.specs.Rules.{Attribute}
use Rattle.attr_scope.specs.Scope.{Scope}
use Rattle.attr_scope.proofs.ItemsFound.{all_found}
use Rattle.attr_heads.specs.Contributions.{aim_of}
use Rattle.expr_typing.specs.declared.standing.Stands.TheVariants.{Anywhere}
use Rattle.attr_bodies.specs.Bodies.{operand_broken}
use Rattle.attr_types.specs.Phases.{condition_broken, expressions_broken, wanted_from}
use Rattle.typing_rules.specs.ContributionTypes.{AreWellTyped, IsCondition, scope_in}
use Rattle.typing_rules.specs.TypeRules.{NamesAreKnown}
use Rattle.typing_rules.proofs.EquationsTyped.{IsKnown, all_at, none_each}
use Rattle.typing_rules.proofs.NothingBroken.{none_after}
use Rattle.typing_rules.proofs.WellTyped.{exactly}

condition_exactly : (s : Scope) (o : Option Expr) → NamesAreKnown s → (condition_broken s o ≡ []) ↔ IsCondition s o
condition_exactly s None known = ((λ none. tt), (λ nothing. refl))
condition_exactly s (Some e) known = exactly s e kinds.Truth known

module _ (g : List Class) (attributes : List Attribute) where
  contribution_exactly : (c : Contribution) → (expressions_broken g attributes c ≡ []) ↔ AreWellTyped g attributes c
  contribution_exactly c =
      let s = scope_in g attributes c in
      let aim = aim_of g attributes c in
      let wanted = wanted_from attributes aim.collection.0 in
      let no_names : NamesAreKnown s = All-nil IsKnown in
      let condition = condition_exactly s c.condition no_names in
      let receiver = exactly s c.receiver (kinds.Node aim.receiver) no_names in
      let value = exactly s c.value wanted no_names in
      let last = operand_broken s Anywhere wanted c.value in
      let rest = operand_broken s Anywhere (kinds.Node aim.receiver) c.receiver ++ last in (
        (λ none.
            let parts = append_none (condition_broken s c.condition) rest none in
            let both = append_none (operand_broken s Anywhere (kinds.Node aim.receiver) c.receiver) last parts.1 in
            record { condition = condition.0 parts.0; receiver = receiver.0 both.0; value = value.0 both.1 }),
        (λ h. none_after (condition.1 h.condition) (none_after (receiver.1 h.receiver) (value.1 h.value))),
      )

  -- they break nothing exactly where each is well typed
  pub contributions_exactly : (offered : List Contribution) → (flat_map (expressions_broken g attributes) offered ≡ []) ↔ All (AreWellTyped g attributes) offered
  contributions_exactly offered = (
    (λ none. all_found (AreWellTyped g attributes) offered (λ i c is. (contribution_exactly c).0 (flat_map_found (expressions_broken g attributes) offered i c none is))),
    (λ all. none_each (expressions_broken g attributes) offered (λ i c is. (contribution_exactly c).1 (all_at (AreWellTyped g attributes) offered i c all is))),
  )
