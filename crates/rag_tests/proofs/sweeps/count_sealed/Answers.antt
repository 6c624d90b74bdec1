use Rattle.memo_cells.proofs.Holding.{reads_then}
use Rattle.rag_tests.proofs.Sweeping.{settled_on}
use Rattle.rag_tests.proofs.sweeps.count_sealed.Goals as goal

pub returns-in_err-settled : goal.returns-in_err-settled
returns-in_err-settled c = record { on = reads_then c.args.work.now c.loop-node.work c.settled.new.self c.loop-node.invariant (settled_on c.loop-node.work c.settled.new.self _ c.settled.result c.loop-node.invariant.on.own c.settled.ensures) }

pub loop-node-preserved : goal.loop-node-preserved
loop-node-preserved c = reads_then c.args.work.now c.loop-node.work c.settled.new.self c.loop-node.invariant (settled_on c.loop-node.work c.settled.new.self _ c.settled.result c.loop-node.invariant.on.own c.settled.ensures)
