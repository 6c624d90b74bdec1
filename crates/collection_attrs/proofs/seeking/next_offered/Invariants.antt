-- None of the contributions so far is offered.
use Rattle.std.proofs.Common.{◌-◌, ◌≤◌, length}
use Rattle.equation_law.specs.Systems.{program_of}
use Rattle.collection_attrs.specs.Walks.{NoneOffered}
use Rattle.collection_attrs.proofs.seeking.next_offered.Given as goal

abbrev pub invariant-contributions : goal.invariant-contributions
invariant-contributions l = record {
  after : l.from ≤ l.first;
  none : NoneOffered (program_of l.system) l.attr.0 l.node l.from l.first;
}

abbrev pub decreases-contributions : goal.decreases-contributions
decreases-contributions l = length (program_of l.system).rules.contributions - l.first
