use Rattle.std.proofs.Common.{rules}
use Rattle.broken_rules.proofs.Noting.{notes}
use Rattle.ast_rules.proofs.Seen.{notes_each_seen, notes_all_seen}
use Rattle.ast_rules.proofs.naming.check_rule.Goals as goal

pub loop-component-preserved : goal.loop-component-preserved
loop-component-preserved c = search (rules, notes_each_seen)

pub returns : goal.returns
returns c = search (rules, notes, notes_all_seen)
