use Rattle.std.proofs.Common.{rules}
use Rattle.rag_io.proofs.Numbers.{keys-insert}
use Rattle.rag_io.proofs.text_pool.put_last.Goals as goal

pub returns-clause-added : goal.returns-clause-added
returns-clause-added c = keys-insert c.in_ok-copy.copy _ _ _ c.requires (search rules) c.in-Ok.ensures.keys
