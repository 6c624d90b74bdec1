use Rattle.caller_pass.proofs.Desks.{desk_token}
use Rattle.caller_pass.proofs.desk.DeskReader.made_token.Goals as goal

pub returns : goal.returns
returns c = desk_token c.args.self.now c.args._node c.args._component 0
