use Rattle.plain_rounds.proofs.Told.{standing_settled}
use Rattle.plain_rounds.proofs.standing.StandingReader.settled.Goals as goal

pub returns : goal.returns
returns c = standing_settled c.args.self.now c.args.i.now c.value.result c.value.ensures
