use Rattle.tree_syntax.proofs.Checked.{printed_fault, is_text}
use Rattle.tree_syntax.proofs.reading.check_syntax.Goals as goal

pub returns-in-Ok : goal.returns-in-Ok
returns-in-Ok c = is_text c.in-Ok.ensures

pub syntax_fault-requires : goal.syntax_fault-requires
syntax_fault-requires c = printed_fault (rw c.in-Err-At.field-0-is at c.in-Err-At.ensures).0
