-- Of the first members, those that weren't evaluated yet were found.
use Rattle.worklists.proofs.Searching.{IsBegun}
use Rattle.worklists.proofs.worklist.Worklist.begun.Given as goal

abbrev pub invariant-loop-number : goal.invariant-loop-number
invariant-loop-number l = IsBegun l.self l.stopped l.number l.search
