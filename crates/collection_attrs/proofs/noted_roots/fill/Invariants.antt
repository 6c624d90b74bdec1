-- The root of the node is that of the node that is reached.
use Rattle.std.proofs.Common.{◌≡◌, ◌<◌, Some, length}
use Rattle.equation_law.specs.Equations.{collection_root}
use Rattle.equation_law.specs.Systems.{program_of}
use Rattle.collection_attrs.proofs.noted_roots.fill.Given as goal

abbrev pub invariant-upwards : goal.invariant-upwards
invariant-upwards l = record {
  within : l.at < length (program_of l.system).tree;
  same : collection_root (program_of l.system) (Some l.class) l.node ≡ collection_root (program_of l.system) (Some l.class) l.at;
  kept : l.roots ≡ l.initial.roots;
}

abbrev pub decreases-upwards : goal.decreases-upwards
decreases-upwards l = l.at
