use Rattle.std.proofs.Common.{rules}
use Rattle.attr_scope.proofs.Gathering.{makes_all, makes_more, makes_start}
use Rattle.attr_heads.proofs.heads.named_attributes.Goals as goal

pub loop-head-init : goal.loop-head-init
loop-head-init c = search (rules, makes_start)

pub loop-head-preserved : goal.loop-head-preserved
loop-head-preserved c = search (rules, makes_more)

pub returns : goal.returns
returns c = search (rules, makes_all)
