use Rattle.plain_rounds.proofs.Told.{standing_up}
use Rattle.plain_rounds.proofs.standing.StandingReader.made_up.Goals as goal

pub returns : goal.returns
returns c = standing_up c.args.self.now c.args.node c.up_of.result c.up_of.ensures.above c.up_of.ensures.falls
