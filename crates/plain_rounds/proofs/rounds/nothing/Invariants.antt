-- So many are none.
use Rattle.std.proofs.Common.{◌≡◌, None, replicate}
use Rattle.plain_rounds.proofs.rounds.nothing.Given as goal

abbrev pub invariant-loop : goal.invariant-loop
invariant-loop l = l.values.items ≡ replicate l.counter None
