use Rattle.std.proofs.Common.{List, sym, subst}
use Rattle.rag_io.specs.Tokens.{IsTokens, first_place, seen_tokens}
use Rattle.rag_io.specs.declared.token.Token as kept_token
use Rattle.token_texts.proofs.Pooled.{extends_none}
use Rattle.jrag_reader.proofs.OneFile.{answers_by_tokens}
use Rattle.jrag_reader.proofs.from_bytes.read_jrag_bytes.Goals as goal

pub returns-clause-says : goal.returns-clause-says
returns-clause-says c =
    let scanned = subst (λ (ts : List kept_token.Token). IsTokens first_place c.args.bytes.now (seen_tokens ts)) (sym c.deref.ensures.value) c.in_ok-tokens.ensures in
    answers_by_tokens c.args.pool.now c.read_jrag.new.pool scanned c.read_jrag.result c.read_jrag.ensures.says c.read_jrag.ensures.pooled

pub returns-in_err-tokens-clause-extends : goal.returns-in_err-tokens-clause-extends
returns-in_err-tokens-clause-extends c = extends_none c.args.pool.now
