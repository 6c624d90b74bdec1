use Rattle.std.proofs.Common.{◌≡◌, min, take}
use Rattle.rag_io.specs.Decimal.{decimal}
use Rattle.rag_io.proofs.decimal.capped.Given as goal

-- the number of the digits so far
abbrev pub invariant-loop-digit : goal.invariant-loop-digit
invariant-loop-digit l = l.number ≡ min (decimal (take l.digit-index l.digits)) l.limit
