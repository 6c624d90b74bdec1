-- The list has the instances so far, each with the path of its local set.
use Rattle.std.proofs.Common.{map}
use Rattle.caller_pass.specs.Packing.{all_unpacked}
use Rattle.caller_pass.proofs.Listing.{AreListed}
use Rattle.caller_pass.proofs.waiting.Waiting.chain.Given as goal

abbrev pub invariant-loop-instance : goal.invariant-loop-instance
invariant-loop-instance l = AreListed (all_unpacked (map (λ x. (x.0.now, x.1.now)) l.yielded)) l.list.items
