-- Of the first members, those that weren't found.
use Rattle.worklists.proofs.Searching.{AreOthers}
use Rattle.worklists.proofs.search.Search.others.Given as goal

abbrev pub invariant-loop-number : goal.invariant-loop-number
invariant-loop-number l = AreOthers l.self.found.items l.number l.others.items
