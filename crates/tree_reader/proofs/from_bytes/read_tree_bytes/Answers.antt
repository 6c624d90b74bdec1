use Rattle.std.proofs.Common.{List, sym, subst}
use Rattle.rag_io.specs.Tokens.{IsTokens, first_place, seen_tokens}
use Rattle.rag_io.specs.declared.token.Token as kept_token
use Rattle.token_texts.proofs.Pooled.{extends_none}
use Rattle.tree_reader.proofs.OneFile.{answers_by_tokens}
use Rattle.tree_reader.proofs.from_bytes.read_tree_bytes.Goals as goal

pub returns-clause-says : goal.returns-clause-says
returns-clause-says c =
    let scanned = subst (λ (ts : List kept_token.Token). IsTokens first_place c.args.bytes.now (seen_tokens ts)) (sym c.deref.ensures.value) c.in_ok-tokens.ensures in
    answers_by_tokens c.args.grammar.now c.args.pool.now c.read_tree.new.pool scanned c.read_tree.result c.read_tree.ensures.says c.read_tree.ensures.pooled

pub returns-in_err-tokens-clause-extends : goal.returns-in_err-tokens-clause-extends
returns-in_err-tokens-clause-extends c = extends_none c.args.pool.now
