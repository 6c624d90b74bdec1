-- How far the walk and the survey have gone.
use Rattle.std.proofs.Common.{◌≡◌, ◌-◌, ◌≤◌, Some, length}
use Rattle.equation_law.specs.Equations.{offers_below}
use Rattle.equation_law.specs.Reading.{Grows}
use Rattle.equation_law.specs.Systems.{program_of}
use Rattle.expr_eval.specs.Saved.{AreSaved}
use Rattle.collection_attrs.specs.Surveys.{Collections, IsCollectorOf, IsSurveyed}
use Rattle.collection_attrs.specs.Walks.{IsWalk, passed_by}
use Rattle.collection_attrs.proofs.surveys.Survey.go_on.Given as goal

abbrev pub invariant-offers : goal.invariant-offers
invariant-offers g l = record {
  kept : Grows (program_of l.system) (g.R.Reader.tells l.initial.reader) (g.R.Reader.tells l.reader);
  walk : IsWalk (program_of l.system) (g.R.Reader.tells l.reader) l.offers;
  same : (l.offers.attribute ≡ l.initial.offers.attribute) × (l.offers.root ≡ l.initial.offers.root);
  survey : (c : Collections) → IsCollectorOf (program_of l.system) l.of c → IsSurveyed (program_of l.system) (g.R.Reader.tells l.reader) c l.self;
  within : l.self.taken ≤ length l.offers.notes;
  saved : AreSaved l.system (g.R.Reader.tells l.reader) l.saved;
}

abbrev pub decreases-offers : goal.decreases-offers
decreases-offers g l = length (offers_below (program_of l.system) l.offers.attribute (Some l.offers.root)) - length (passed_by (program_of l.system) l.offers)
