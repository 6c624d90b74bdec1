use Rattle.std.proofs.Common.{◌≡◌, ℕ, List, drop, map}
use Rattle.rag_io.specs.Tokens.{seen_tokens}
use Rattle.token_texts.specs.Texts.{text_code}
use Rattle.tree_reader.specs.Steps.{run, seen_state}
use Rattle.tree_reader.proofs.steps.lay_all.Given as goal

-- the tokens that are left lead to what all of them lead to
abbrev pub invariant-loop-i : goal.invariant-loop-i
invariant-loop-i l =
    (pool : List (List ℕ)) → l.texts ≡ map (text_code pool) (seen_tokens l.tokens)
    → run l.grammar pool (seen_tokens (drop l.i l.tokens)) (seen_state l.grammar l.laying) ≡ run l.grammar pool (seen_tokens l.tokens) (seen_state l.grammar l.fn.laying)
