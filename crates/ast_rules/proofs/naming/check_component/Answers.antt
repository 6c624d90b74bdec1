use Rattle.std.proofs.Common.{rules}
use Rattle.broken_rules.proofs.Noting.{notes}
use Rattle.ast_rules.proofs.naming.check_component.Goals as goal

pub returns : goal.returns
returns c = search (rules, notes)
