use Rattle.ll_parser.proofs.Coding.{row_is, row_other, row_outside}
use Rattle.ll_parser.proofs.parser.row_of.Goals as goal

pub returns-then-of-n : goal.returns-then-of-n
returns-then-of-n c =
    let a = c.in-Some.ensures.lookup in
    row_is c.args.table.now.starts.now c.args.table.now.of.now c.args.table.now.bodies.now c.args.p c.args.n c.in-Some.of.now a.3.0 a.3.1
    c.body_of.result.now c.start_of.result c.start_of-then-of-n.result c.if-of-n.true c.body_of.ensures c.start_of.ensures c.start_of-then-of-n.ensures

pub returns-else-of-n : goal.returns-else-of-n
returns-else-of-n c =
    let a = c.in-Some.ensures.lookup in
    row_other c.args.table.now.starts.now c.args.table.now.of.now c.args.table.now.bodies.now c.args.p c.args.n c.in-Some.of.now a.3.0 a.3.1 c.if-of-n.false

pub returns-in-None : goal.returns-in-None
returns-in-None c = row_outside c.args.table.now.starts.now c.args.table.now.of.now c.args.table.now.bodies.now c.args.p c.args.n c.in-None.ensures.lookup.3
