-- Those that were met so far are taken over.
use Rattle.circular_eval.specs.Parts.{Takes}
use Rattle.circular_eval.proofs.Sealing.{AreTaken}
use Rattle.circular_eval.proofs.parts.take_over.Given as goal

abbrev pub invariant-loop-number : goal.invariant-loop-number
invariant-loop-number l = record {
  takes : Takes l.part l.initial.local l.local;
  taken : AreTaken l.part l.initial.local l.local l.number;
}
