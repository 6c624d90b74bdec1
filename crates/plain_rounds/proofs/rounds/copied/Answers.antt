use Rattle.std.proofs.Common.{subst}
use Rattle.plain_rounds.specs.Places.{IsHeld}
use Rattle.plain_rounds.proofs.rounds.copied.Goals as goal

pub returns-in_ok-copy-in-Some-clause-held : goal.returns-in_ok-copy-in-Some-clause-held
returns-in_ok-copy-in-Some-clause-held c = λ p h. c.in_ok-copy-in-Some.ensures.held p (subst (IsHeld p) c.in-Some.is h)
