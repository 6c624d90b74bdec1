use Rattle.std.proofs.Common.{refl}
use Rattle.circular_eval.proofs.Looking.{here_child}
use Rattle.circular_eval.proofs.reading.LocalReaderReader.made_child.Goals as goal

pub returns : goal.returns
returns g c = here_child (g.W.Words.held c.args.self.now.work.now) c.args.self.now.system.now c.args.self.now.local.now.members.entries _ c.args._node c.args._component (record { 0 = 0 }) refl
