use Rattle.std.proofs.Common.{◌≡◌, drop}
use Rattle.rag_io.specs.MemorySink.{stop_of}
use Rattle.rag_io.proofs.in_memory.stop_of.Given as goal

-- the rest of the pairs stops the call where all of them do
abbrev pub invariant-loop-at : goal.invariant-loop-at
invariant-loop-at l = stop_of (drop l.at-index l.fails) l.call ≡ stop_of l.fails l.call
