use Rattle.caller_pass.proofs.Desks.{desk_argument}
use Rattle.caller_pass.proofs.desk.DeskReader.made_arg.Goals as goal

pub returns : goal.returns
returns c = desk_argument c.args.self.now c.args._node c.args._k 0
