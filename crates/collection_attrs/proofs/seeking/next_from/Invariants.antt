-- Nothing is offered between the first place and the one that is reached.
use Rattle.std.proofs.Common.{◌≡◌, ◌-◌, ◌≤◌, length}
use Rattle.equation_law.specs.Systems.{program_of}
use Rattle.collection_attrs.specs.Walks.{NoneBetween}
use Rattle.collection_attrs.proofs.seeking.next_from.Given as goal

abbrev pub invariant-nodes : goal.invariant-nodes
invariant-nodes l = record {
  after : l.from ≤ l.node;
  before : l.node ≤ l.end;
  first : l.next ≤ length (program_of l.system).rules.contributions;
  ended : l.node ≡ l.end → l.next ≡ 0;
  same : NoneBetween (program_of l.system) l.attr.0 l.from l.first l.node l.next;
}

abbrev pub decreases-nodes : goal.decreases-nodes
decreases-nodes l = l.end - l.node
