use Rattle.std.proofs.Common.{refl}
use Rattle.circular_eval.proofs.Looking.{here_class}
use Rattle.circular_eval.proofs.reading.LocalReaderReader.made_class.Goals as goal

pub returns : goal.returns
returns g c = here_class (g.W.Words.held c.args.self.now.work.now) c.args.self.now.system.now c.args.self.now.local.now.members.entries _ c.args._node (record { 0 = 65535 }) refl
