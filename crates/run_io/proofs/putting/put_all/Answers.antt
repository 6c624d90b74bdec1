use Rattle.std.proofs.Common.{arith, ◌≤◌, length}
use Rattle.run_io.proofs.Pieces.{took_more, took_part, where_err}
use Rattle.run_io.proofs.putting.put_all.Goals as goal

pub pieces-preserved : goal.pieces-preserved
pieces-preserved g c =
    let after : c.pieces.from ≤ c.min-end.result = omega arith in
    let within : c.min-end.result ≤ length c.args.text.now = omega arith in
    record {
      within = within;
      took = took_more (g.K.Sink.taken c.args.sink.now) (g.K.Sink.taken c.pieces.sink) (g.K.Sink.taken c.put.new.self) c.args.text.now c.pieces.from c.min-end.result after within tt
          c.pieces.invariant.took c.in_ok-put.ensures.bytes;
      later = omega (arith, c.put.ensures.cause.later, c.pieces.invariant.later);
    }

pub returns-in_err-put-clause-part : goal.returns-in_err-put-clause-part
returns-in_err-put-clause-part g c =
    let after : c.pieces.from ≤ c.min-end.result = omega arith in
    let within : c.min-end.result ≤ length c.args.text.now = omega arith in
    where_err c.from_residual.result (
    took_part (g.K.Sink.taken c.args.sink.now) (g.K.Sink.taken c.pieces.sink) (g.K.Sink.taken c.put.new.self) c.args.text.now c.pieces.from c.min-end.result c.in_err-put.field-0.0 after within
    c.pieces.invariant.took c.in_err-put.ensures.bytes)
