use Rattle.circular_eval.proofs.Looking.{here_token}
use Rattle.circular_eval.proofs.reading.LocalReaderReader.made_token.Goals as goal

pub returns : goal.returns
returns g c = here_token (g.W.Words.held c.args.self.now.work.now) c.args.self.now.system.now c.args.self.now.local.now.members.entries _ c.args._node c.args._component 0
