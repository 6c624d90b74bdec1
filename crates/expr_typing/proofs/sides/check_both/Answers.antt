use Rattle.std.proofs.Common.{rules}
use Rattle.broken_rules.proofs.Noting.{notes}
use Rattle.expr_typing.proofs.sides.check_both.Goals as goal

pub returns : goal.returns
returns c = search (rules, notes)
