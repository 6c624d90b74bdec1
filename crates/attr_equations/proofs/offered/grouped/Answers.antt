use Rattle.std.proofs.Common.{List, Option, ℕ, sym, subst, ◌∙◌}
use Rattle.groups.specs.Groups.{AreWithin}
use Rattle.attr_equations.proofs.Receiving.{are_grouped}
use Rattle.attr_equations.proofs.offered.grouped.Goals as goal

pub of-requires-clause-within : goal.of-requires-clause-within
of-requires-clause-within c = subst (λ (keys : List (Option ℕ)). AreWithin keys c.groups_for.result) (sym (c.deref.ensures.value ∙ c.in_ok-keys.ensures)) c.groups_for.ensures

pub returns : goal.returns
returns c = are_grouped c.args.contributions.now c.groups_for.result c.of.result (c.deref.ensures.value ∙ c.in_ok-keys.ensures) c.groups_for.ensures c.of.ensures
