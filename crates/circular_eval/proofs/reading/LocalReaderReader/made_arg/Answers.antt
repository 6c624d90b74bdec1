use Rattle.circular_eval.proofs.Looking.{here_argument}
use Rattle.circular_eval.proofs.reading.LocalReaderReader.made_arg.Goals as goal

pub returns : goal.returns
returns g c = here_argument (g.W.Words.held c.args.self.now.work.now) c.args.self.now.system.now c.args.self.now.local.now.members.entries _ c.args._node c.args._k 0
