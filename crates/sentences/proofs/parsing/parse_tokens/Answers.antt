use Rattle.std.proofs.Common.{◌∙◌}
use Rattle.rag_io.proofs.EndOfFile.{ends_file, some_tokens, ends_at}
use Rattle.sentences.proofs.parsing.parse_tokens.Goals as goal

pub parse_classes-requires-clause-some : goal.parse_classes-requires-clause-some
parse_classes-requires-clause-some g c =
    let language = c.args.language.now in
    some_tokens (g.L.Language.class language) (g.met.L.Language.ends language) c.deref.result.now (c.deref.ensures.value ∙ c.in-Ok.ensures) (ends_file c.requires.tokens)

pub parse_classes-requires-clause-ends : goal.parse_classes-requires-clause-ends
parse_classes-requires-clause-ends g c =
    let language = c.args.language.now in
    ends_at (g.L.Language.class language) (g.met.L.Language.ends language) c.deref.result.now (c.deref.ensures.value ∙ c.in-Ok.ensures) (ends_file c.requires.tokens)
