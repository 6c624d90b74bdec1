use Rattle.plain_rounds.proofs.Told.{standing_argument}
use Rattle.plain_rounds.proofs.standing.StandingReader.made_arg.Goals as goal

pub returns : goal.returns
returns c = standing_argument c.args.self.now c.args.node c.args.k c.argument_of.result c.argument_of.ensures.argument
