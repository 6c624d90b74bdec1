use Rattle.attr_coverage.proofs.UncoveredClasses.{decided}
use Rattle.attr_types.proofs.laws.uncovered_classes_are_found.Goals as goal

pub returns : goal.returns
returns c = decided
