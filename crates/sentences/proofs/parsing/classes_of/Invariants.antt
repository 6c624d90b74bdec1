use Rattle.std.proofs.Common.{◌≡◌, map, take}
use Rattle.rag_io.specs.Tokens.{seen_tokens}
use Rattle.sentences.proofs.parsing.classes_of.Given as goal

abbrev pub invariant-loop-token : goal.invariant-loop-token
invariant-loop-token g l = l.classes.items ≡ map (g.L.Language.class l.language) (seen_tokens (take l.token-index l.tokens))
