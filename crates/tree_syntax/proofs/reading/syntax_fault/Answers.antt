use Rattle.tree_syntax.proofs.Checked.{is_fault}
use Rattle.tree_syntax.proofs.reading.syntax_fault.Goals as goal

pub returns : goal.returns
returns c = is_fault c.args.tokens.now c.args.number _ c.requires
