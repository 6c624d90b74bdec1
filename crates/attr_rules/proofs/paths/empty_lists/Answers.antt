use Rattle.std.proofs.Common.{rules}
use Rattle.attr_rules.proofs.OwnPaths.{lists_more}
use Rattle.attr_rules.proofs.paths.empty_lists.Goals as goal

pub loop-preserved : goal.loop-preserved
loop-preserved c = lists_more c.loop.counter c.new.result {lists = c.loop.lists.items} c.new.ensures.items (search rules) c.loop.invariant
