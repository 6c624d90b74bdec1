use Rattle.std.proofs.Common.{rules}
use Rattle.rag_io.proofs.Unquotes.{begins_escape, begins_plain, at_quote}
use Rattle.rag_io.proofs.unquoting.first_byte.Goals as goal

pub returns-in-34-clause-closed : goal.returns-in-34-clause-closed
returns-in-34-clause-closed c = at_quote c.requires c.in-34.is

pub returns-in-92-clause-first : goal.returns-in-92-clause-first
returns-in-92-clause-first c = (begins_escape c.requires c.in-92.is c.unescaped.ensures).first

pub returns-in_default-clause-first : goal.returns-in_default-clause-first
returns-in_default-clause-first c = (begins_plain c.requires (search rules) (search rules)).first
