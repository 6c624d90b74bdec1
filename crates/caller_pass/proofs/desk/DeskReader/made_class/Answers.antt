use Rattle.std.proofs.Common.{refl}
use Rattle.caller_pass.proofs.Desks.{desk_class}
use Rattle.caller_pass.proofs.desk.DeskReader.made_class.Goals as goal

pub returns : goal.returns
returns c = desk_class c.args.self.now c.args._node (record { 0 = 65535 }) refl
