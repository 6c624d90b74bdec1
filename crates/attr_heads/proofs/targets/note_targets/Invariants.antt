use Rattle.std.proofs.Common.{[], map, take}
use Rattle.broken_rules.specs.Notes.{Notes, each_after}
use Rattle.attr_scope.specs.Seen.{seen_given}
use Rattle.attr_heads.specs.Targets.{given_broken, target_given}
use Rattle.attr_heads.specs.TargetsKept.{Holds}
use Rattle.attr_scope.proofs.Gathering.{Makes}
use Rattle.attr_heads.proofs.targets.note_targets.Given as goal

abbrev pub invariant-loop-equation : goal.invariant-loop-equation
invariant-loop-equation l = record {
  noted : Notes (each_after (given_broken l.grammar l.attributes.attributes) [] (take l.equation-index (map seen_given l.equations))) l.initial.faults l.faults;
  held : Holds l.grammar l.attributes.attributes (take l.equation-index (map seen_given l.equations)) l.given;
  targets : Makes (λ t. t) (target_given l.grammar l.attributes.attributes) seen_given l.equations l.equation-index l.targets.items;
}
