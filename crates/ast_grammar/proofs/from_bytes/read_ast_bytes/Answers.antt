use Rattle.std.proofs.Common.{List, sym, subst}
use Rattle.rag_io.specs.Tokens.{IsTokens, first_place, seen_tokens}
use Rattle.rag_io.specs.declared.token.Token as kept_token
use Rattle.ast_grammar.proofs.OneFile.{answers_by_tokens}
use Rattle.ast_grammar.proofs.from_bytes.read_ast_bytes.Goals as goal

pub returns : goal.returns
returns c =
    let scanned = subst (λ (ts : List kept_token.Token). IsTokens first_place c.args.bytes.now (seen_tokens ts)) (sym c.deref.ensures.value) c.in_ok-tokens.ensures in
    answers_by_tokens scanned c.read_ast.result c.read_ast.ensures
