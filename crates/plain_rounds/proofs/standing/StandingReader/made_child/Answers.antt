use Rattle.plain_rounds.proofs.Told.{standing_child}
use Rattle.plain_rounds.proofs.standing.StandingReader.made_child.Goals as goal

pub returns : goal.returns
returns c = standing_child c.args.self.now c.args.node c.args.component c.child_of.result c.child_of.ensures.child
