use Rattle.rag_io.proofs.Unquotes.{opens}
use Rattle.rag_io.proofs.unquoting.unquote.Goals as goal

pub loop-b-init : goal.loop-b-init
loop-b-init c = rw c.new-bytes.ensures.items (opens c.requires)
