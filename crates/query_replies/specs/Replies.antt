-- The replies of a program.
use Rattle.std.specs.Prelude.{◌≡◌, ℕ, suc, List, [], ◌∷◌, ◌++◌, codes}
use Rattle.attr_rules.specs.Queries.{Query as Asked}
use Rattle.equation_law.specs.Loops.{HasLoop}
use Rattle.equation_law.specs.Names.{Query}
use Rattle.equation_law.specs.Program.{Program}
use Rattle.equation_law.specs.Equations.{HasValue}
use Rattle.equation_law.specs.Values.{Value}
use Rattle.query_lang.specs.Replies.{AddsReply, IsReplyText}

-- the line of a query was added: the text of its value in the solution, or `circular` where it has a loop
pub data AddsAnswer (p : Program) (q : ℕ) (old new : List ℕ) : Type 0 where
  valued : {v : Value} → HasValue p (Query q) v → AddsReply v old new → AddsAnswer p q old new
  looped : HasLoop p (Query q) → new ≡ old ++ (codes "circular" ++ 10 ∷ []) → AddsAnswer p q old new

-- One line for each query from the q-th on: the text of its value in the solution, or `circular` where it has a
-- loop, and a line feed.
pub data AreReplies (p : Program) : ℕ → List Asked → List ℕ → Type 0 where
  none : {q : ℕ} → AreReplies p q [] []
  reply : {q : ℕ} {e : Asked} {es : List Asked} {v : Value} {text rest : List ℕ} → HasValue p (Query q) v → IsReplyText v text
      → AreReplies p (suc q) es rest → AreReplies p q (e ∷ es) (text ++ 10 ∷ rest)
  looped : {q : ℕ} {e : Asked} {es : List Asked} {rest : List ℕ} → HasLoop p (Query q)
      → AreReplies p (suc q) es rest → AreReplies p q (e ∷ es) (codes "circular" ++ 10 ∷ rest)
