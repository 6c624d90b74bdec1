use Rattle.memo_cells.proofs.Holding.{reads_then}
use Rattle.circular_eval.proofs.Looking.{work_order}
use Rattle.circular_eval.proofs.reading.LocalReaderReader.made_order.Goals as goal

pub returns : goal.returns
returns g c = work_order g.W.Words.held c.args.self.now.work.now c.made_order.new.self (g.W.Reader.tells c.args.self.now.work.now) (g.W.Reader.tells c.made_order.new.self) (g.met.W.Work.tells_pass c.args.self.now.work.now) (g.met.W.Work.tells_pass c.made_order.new.self) c.args.self.now.system.now c.args.self.now.local.now.members.entries _ _ (λ x on h. (reads_then (g.W.Words.held x.work.now) (g.W.Words.held c.args.self.now.work.now) (g.W.Words.held c.made_order.new.self) h.0 on, h.1, h.2, h.3)) c.args.a c.args.b c.made_order.result c.made_order.ensures
