use Rattle.program_reader.proofs.Unread.{aspects_tested, aspects_unread}
use Rattle.program_reader.proofs.files.read_aspects.Goals as goal

pub returns-in_err-aspects : goal.returns-in_err-aspects
returns-in_err-aspects c = aspects_unread c.args.grammar.now c.args.pool.now c.args.bytes.now c.read_jrag_bytes.new.pool c.in_err-aspects.field-0.0 c.from_residual.result c.from_residual.ensures c.in_err-aspects.ensures.says

pub returns : goal.returns
returns c = aspects_tested c.args.grammar.now c.args.pool.now c.args.bytes.now c.read_jrag_bytes.new.pool c.read_rules.result c.in_ok-aspects.ensures.says c.read_rules.ensures
