use Rattle.std.proofs.Common.{rules}
use Rattle.attr_scope.proofs.Gathering.{gathers_all, gathers_none, gathers_some, gathers_start}
use Rattle.attr_scope.proofs.written.contributions.Goals as goal

pub loop-item-init : goal.loop-item-init
loop-item-init c = search (rules, gathers_start)

pub loop-item-preserved : goal.loop-item-preserved
loop-item-preserved c = search (rules, gathers_some, gathers_none)

pub returns : goal.returns
returns c = search (rules, gathers_all)
