use Rattle.plain_rounds.proofs.Told.{standing_order}
use Rattle.plain_rounds.proofs.standing.StandingReader.made_order.Goals as goal

pub returns : goal.returns
returns c = standing_order c.args.self.now c.args.a c.args.b c.order_of.result c.order_of.ensures.order
