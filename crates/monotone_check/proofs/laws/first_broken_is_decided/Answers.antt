use Rattle.monotone_check.proofs.DecidingEquations.{first_decided, none_decided}
use Rattle.monotone_check.proofs.laws.first_broken_is_decided.Goals as goal

pub returns-clause-first : goal.returns-clause-first
returns-clause-first c = first_decided

pub returns-clause-none : goal.returns-clause-none
returns-clause-none c = none_decided
