use Rattle.std.proofs.lemmas.Result.{on_ok_weaker}
use Rattle.attr_coverage.proofs.Marks.{adds_then, grown_then}
use Rattle.attr_coverage.proofs.covering.Found.follow.Goals as goal

pub returns-clause-grown : goal.returns-clause-grown
returns-clause-grown c = on_ok_weaker c.follow_made.result (grown_then c.in_ok-follow_components.ensures.grown) c.follow_made.ensures.grown

pub returns-clause-added : goal.returns-clause-added
returns-clause-added c = on_ok_weaker c.follow_made.result (λ made targets known. adds_then (c.in_ok-follow_components.ensures.added targets known) (made targets known)) c.follow_made.ensures.added
