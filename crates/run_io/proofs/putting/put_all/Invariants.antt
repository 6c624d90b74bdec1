-- what stands before an index was put
use Rattle.std.proofs.Common.{◌≤◌, ◌-◌, length, take}
use Rattle.run_io.specs.Taking.{Took}
use Rattle.run_io.proofs.putting.put_all.Given as goal

abbrev pub invariant-pieces : goal.invariant-pieces
invariant-pieces g l = record {
  within : l.from ≤ length l.text;
  took : Took (g.K.Sink.taken l.fn.sink) (take l.from l.text) (g.K.Sink.taken l.sink);
  later : g.K.Sink.faults l.fn.sink ≤ g.K.Sink.faults l.sink;
}

abbrev pub decreases-pieces : goal.decreases-pieces
decreases-pieces g l = length l.text - l.from
