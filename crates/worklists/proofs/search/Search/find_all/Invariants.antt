-- The readers so far were found.
use Rattle.std.proofs.Common.{◌≡◌, ◌<◌, ℕ, Contains, length, slice_index_or}
use Rattle.worklists.specs.Searching.{Finds, IsFound}
use Rattle.worklists.proofs.search.Search.find_all.Given as goal

abbrev pub invariant-loop-number : goal.invariant-loop-number
invariant-loop-number l = record {
  finds : Finds (Contains l.readers.keys) l.initial.self l.self;
  found : (i k : ℕ) → i < l.number-index → slice_index_or l.number-items i k ≡ k → k < length l.initial.self.found.items → IsFound l.self k;
}
