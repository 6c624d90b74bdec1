use Rattle.std.proofs.Common.{refl}
use Rattle.caller_pass.proofs.Desks.{desk_up}
use Rattle.caller_pass.proofs.desk.DeskReader.made_up.Goals as goal

pub returns : goal.returns
returns c = desk_up c.args.self.now c.args._node _ refl
