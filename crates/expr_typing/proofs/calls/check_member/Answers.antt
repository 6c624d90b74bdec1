use Rattle.broken_rules.proofs.Noting.{notes_then}
use Rattle.expr_typing.proofs.calls.check_member.Goals as goal

pub returns-in-Some : goal.returns-in-Some
returns-in-Some c = rw c.in-Some.is (notes_then c.check_count.ensures c.check_list.ensures)
