use Rattle.std.proofs.Common.{◌∙◌}
use Rattle.rag_io.proofs.Numbers.{position-keys}
use Rattle.rag_io.proofs.text_pool.index_of.Goals as goal

pub returns : goal.returns
returns c = c.get_index_of.ensures.index ∙ position-keys c.args.text.now c.args.texts.now.keys
