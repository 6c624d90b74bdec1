use Rattle.std.proofs.Common.{ap, sym}
use Rattle.plain_rounds.specs.Standing.{code_or_zero}
use Rattle.plain_rounds.proofs.Told.{standing_token}
use Rattle.plain_rounds.proofs.standing.StandingReader.made_token.Goals as goal

pub returns-in-Some : goal.returns-in-Some
returns-in-Some c = standing_token c.args.self.now c.args.node c.args.component c.in-Some.code c.token.result c.token.ensures (sym (ap code_or_zero c.in-Some.is))

pub returns-in-None : goal.returns-in-None
returns-in-None c = standing_token c.args.self.now c.args.node c.args.component 0 c.token.result c.token.ensures (sym (ap code_or_zero c.in-None.is))
