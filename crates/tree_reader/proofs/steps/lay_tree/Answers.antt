use Rattle.std.proofs.Common.{ap, ◌∙◌}
use Rattle.rag_io.specs.Tokens.{seen_tokens}
use Rattle.tree_reader.specs.Steps.{run}
use Rattle.tree_reader.proofs.Telling.{laid_tree}
use Rattle.tree_reader.proofs.steps.lay_tree.Goals as goal

pub returns : goal.returns
returns c = λ pool w e writes.
    let g = c.args.grammar.now in
    let ts = seen_tokens c.args.tokens.now in
    laid_tree g pool ts w c.args.broken c.lay_all.new.laying writes (c.in_ok-lay_all.ensures pool e ∙ ap (run g pool ts) (c.new-laying.ensures g))
