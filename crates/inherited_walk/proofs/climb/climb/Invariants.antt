-- What is found above the node is what is found above the one that is reached.
use Rattle.std.proofs.Common.{◌≡◌}
use Rattle.equation_law.specs.Codes.{arguments_for, reference_by}
use Rattle.equation_law.specs.Names.{Reference}
use Rattle.equation_law.specs.Reading.{ByEachIn, Grows}
use Rattle.equation_law.specs.Systems.{program_of}
use Rattle.inherited_walk.specs.Climbing.{inherited_at}
use Rattle.inherited_walk.proofs.climb.climb.Given as goal

abbrev pub invariant-loop-at : goal.invariant-loop-at
invariant-loop-at g l = record {
  kept : Grows (program_of l.system) (g.R.Reader.tells l.initial.reader) (g.R.Reader.tells l.reader);
  same : ByEachIn (g.R.Reader.tells l.reader) (λ n. (root : Reference) → inherited_at (program_of l.system) l.attr.0 (arguments_for (program_of l.system) n l.attr.0 l.args) root (reference_by n.node l.initial.at.0)
      ≡ inherited_at (program_of l.system) l.attr.0 (arguments_for (program_of l.system) n l.attr.0 l.args) root (reference_by n.node l.at.0));
  reached : (g.R.Reader.tells l.reader).knows l.at.0;
}

abbrev pub decreases-loop-at : goal.decreases-loop-at
decreases-loop-at g l = (g.R.Reader.tells l.reader).height l.at.0
