-- What the expressions of the contributions so far break, and what they say.
use Rattle.std.proofs.Common.{◌≡◌, map, take}
use Rattle.std.specs.List.{flat_map}
use Rattle.broken_rules.specs.Notes.{Notes}
use Rattle.attr_equations.specs.KeptContributions.{AreNumbered, contribution_in}
use Rattle.attr_types.specs.Phases.{contribution_of, expressions_broken}
use Rattle.attr_scope.specs.Seen.{seen_offer}
use Rattle.attr_types.proofs.contributions.type_contributions.Given as goal

abbrev pub invariant-loop-contribution : goal.invariant-loop-contribution
invariant-loop-contribution l = record {
  noted : Notes (flat_map (expressions_broken l.grammar l.attributes.attributes) (take l.contribution-index (map seen_offer l.contributions))) l.initial.faults l.faults;
  numbered : AreNumbered l.equations l.list.items;
  says : map contribution_in l.list.items ≡ map (contribution_of l.grammar l.attributes.attributes) (take l.contribution-index (map seen_offer l.contributions));
}
