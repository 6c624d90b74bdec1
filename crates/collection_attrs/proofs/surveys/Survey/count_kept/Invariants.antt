-- What was counted so far.
use Rattle.std.proofs.Common.{◌-◌, ◌≤◌, length}
use Rattle.equation_law.specs.Reading.{Grows}
use Rattle.equation_law.specs.Systems.{program_of}
use Rattle.expr_eval.specs.Saved.{AreSaved}
use Rattle.collection_attrs.specs.Surveys.{Collections, IsCollectorOf, IsSurveyed}
use Rattle.collection_attrs.proofs.surveys.Survey.count_kept.Given as goal

abbrev pub invariant-kept : goal.invariant-kept
invariant-kept g l = record {
  kept : Grows (program_of l.system) (g.R.Reader.tells l.initial.reader) (g.R.Reader.tells l.reader);
  survey : (c : Collections) → IsCollectorOf (program_of l.system) l.of c → IsSurveyed (program_of l.system) (g.R.Reader.tells l.reader) c l.self;
  within : l.self.taken ≤ length l.offers.notes;
  saved : AreSaved l.system (g.R.Reader.tells l.reader) l.saved;
}

abbrev pub decreases-kept : goal.decreases-kept
decreases-kept g l = length l.offers.notes - l.self.taken
