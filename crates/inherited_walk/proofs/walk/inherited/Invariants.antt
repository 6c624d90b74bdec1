-- What is found above the node is what is found above the one that is reached.
use Rattle.std.proofs.Common.{◌≡◌, ◌<◌, List, length}
use Rattle.equation_law.specs.Equations.{inherited_site}
use Rattle.equation_law.specs.Names.{Argument, Reference, Source}
use Rattle.equation_law.specs.Systems.{program_of}
use Rattle.inherited_walk.proofs.walk.inherited.Given as goal

abbrev pub invariant-loop-parent : goal.invariant-loop-parent
invariant-loop-parent l = record {
  within : l.at < length (program_of l.system).tree;
  same : (zs : List Argument) (root : Reference) → inherited_site (program_of l.system) l.attr.0 zs root (Source l.node) ≡ inherited_site (program_of l.system) l.attr.0 zs root (Source l.at);
}

abbrev pub decreases-loop-parent : goal.decreases-loop-parent
decreases-loop-parent l = l.at
