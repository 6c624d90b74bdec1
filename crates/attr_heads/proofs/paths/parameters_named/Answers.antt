use Rattle.std.proofs.Common.{rules}
use Rattle.attr_scope.proofs.Gathering.{makes_all, makes_more, makes_start}
use Rattle.attr_heads.proofs.paths.parameters_named.Goals as goal

pub loop-parameter-init : goal.loop-parameter-init
loop-parameter-init c = search (rules, makes_start)

pub loop-parameter-preserved : goal.loop-parameter-preserved
loop-parameter-preserved c = search (rules, makes_more)

pub returns : goal.returns
returns c = search (rules, makes_all)
