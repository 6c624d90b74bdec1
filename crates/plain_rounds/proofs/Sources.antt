-- What is listed of a program are instances of it, and what a test of some names says.
use Rattle.std.proofs.Common.{All, get_or}
use Rattle.std.proofs.lemmas.List.Elements.{All-from_get_or}
use Rattle.std.proofs.lemmas.Option.{slice_get-get_or}
use Rattle.equation_law.specs.Checked.{IsInstance}
use Rattle.equation_law.specs.Names.{Query}
use Rattle.equation_law.specs.Program.{Program, source_instances}
use Rattle.equation_law.proofs.Listed.{at_place, listed_is}

pub sources_are : (p : Program) → All (IsInstance p) (source_instances p)
sources_are p = All-from_get_or (IsInstance p) (source_instances p) (Query 0) (λ k h. (listed_is p (get_or (source_instances p) k (Query 0)) (at_place (source_instances p) k _ (slice_get-get_or (source_instances p) k (Query 0) h))).0)
