use Rattle.std.proofs.Common.{sym, ◌∙◌}
use Rattle.rag_io.proofs.Unquotes.{plain_text}
use Rattle.rag_io.proofs.unquoting.unescaped_text.Goals as goal

pub returns : goal.returns
returns c = plain_text c.requires (sym c.contains.ensures.value ∙ c.if-contains.false)
