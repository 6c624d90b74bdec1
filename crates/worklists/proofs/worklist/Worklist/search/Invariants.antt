-- The search goes on from each member that it found, once.
use Rattle.worklists.specs.Searching.{IsSearch, steps_left}
use Rattle.worklists.proofs.worklist.Worklist.search.Given as goal

abbrev pub invariant-loop-number : goal.invariant-loop-number
invariant-loop-number l = IsSearch l.self l.stopped l.search

abbrev pub decreases-loop-number : goal.decreases-loop-number
decreases-loop-number l = steps_left l.search
