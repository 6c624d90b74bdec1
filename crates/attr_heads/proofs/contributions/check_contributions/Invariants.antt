-- What the contributions so far break.
use Rattle.std.proofs.Common.{map, take}
use Rattle.std.specs.List.{flat_map}
use Rattle.broken_rules.specs.Notes.{Notes}
use Rattle.attr_scope.specs.Seen.{seen_offer}
use Rattle.attr_heads.specs.Contributions.{contribution_broken}
use Rattle.attr_heads.proofs.contributions.check_contributions.Given as goal

abbrev pub invariant-loop-contribution : goal.invariant-loop-contribution
invariant-loop-contribution l = Notes (flat_map (contribution_broken l.grammar l.attributes.attributes) (take l.contribution-index (map seen_offer l.contributions))) l.initial.faults l.faults
