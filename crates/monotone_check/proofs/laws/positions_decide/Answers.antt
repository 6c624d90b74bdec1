use Rattle.monotone_check.proofs.Deciding.{as_decided}
use Rattle.monotone_check.proofs.DecidingEquations.{permitted_decided}
use Rattle.monotone_check.proofs.laws.positions_decide.Goals as goal

pub returns-clause-all : goal.returns-clause-all
returns-clause-all c = as_decided

pub returns-clause-none : goal.returns-clause-none
returns-clause-none c = permitted_decided
