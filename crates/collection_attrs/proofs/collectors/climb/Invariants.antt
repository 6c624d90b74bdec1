-- The root of what is reached is that of the node, and the reader knows it.
use Rattle.std.proofs.Common.{◌≡◌, Some}
use Rattle.equation_law.specs.Codes.{reference_by}
use Rattle.equation_law.specs.Equations.{root_over}
use Rattle.equation_law.specs.Reading.{ByEachIn, Grows}
use Rattle.equation_law.specs.Systems.{program_of}
use Rattle.collection_attrs.proofs.collectors.climb.Given as goal

abbrev pub invariant-upwards : goal.invariant-upwards
invariant-upwards g l = record {
  kept : Grows (program_of l.system) (g.R.Reader.tells l.initial.reader) (g.R.Reader.tells l.reader);
  same : ByEachIn (g.R.Reader.tells l.reader) (λ names. root_over (program_of l.system) (Some l.class) (reference_by names.node l.fn.node.0) ≡ root_over (program_of l.system) (Some l.class) (reference_by names.node l.at.0));
  known : (g.R.Reader.tells l.reader).knows l.at.0;
}

abbrev pub decreases-upwards : goal.decreases-upwards
decreases-upwards g l = (g.R.Reader.tells l.reader).height l.at.0
