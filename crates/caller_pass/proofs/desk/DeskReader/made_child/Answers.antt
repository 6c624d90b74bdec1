use Rattle.std.proofs.Common.{refl}
use Rattle.caller_pass.proofs.Desks.{desk_child}
use Rattle.caller_pass.proofs.desk.DeskReader.made_child.Goals as goal

pub returns : goal.returns
returns c = desk_child c.args.self.now c.args._node c.args._component (record { 0 = 0 }) refl
