use Rattle.std.proofs.Common.{rules}
use Rattle.rag_io.proofs.Numbers.{found_text}
use Rattle.rag_io.proofs.text_pool.Pool.find.Goals as goal

pub returns-clause-text : goal.returns-clause-text
returns-clause-text c = found_text _ _ _ (search rules)
