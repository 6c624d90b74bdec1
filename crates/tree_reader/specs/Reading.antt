-- What reading the text of a tree answers.
use Rattle.std.specs.Prelude.{◌≡◌, ℕ, List, [], ◌∷◌, Some, None, Result, Ok, Err}
use Rattle.broken_rules.specs.Answers.{Answers}
use Rattle.broken_rules.specs.declared.broken.Broken.{Broken}
use Rattle.broken_rules.specs.declared.broken.ReadFault.{ReadFault}
use Rattle.broken_rules.specs.declared.broken.ReadFault.TheVariants as faults
use Rattle.rag_io.specs.Tokens.{Lexed}
use Rattle.ast_grammar.specs.Grammar.{Class}
use Rattle.tree_arena.specs.Nodes.{Node}
use Rattle.tree_arena.specs.Terms.{nodes_of}
use Rattle.token_texts.specs.Texts.{pooled_texts}
use Rattle.tree_syntax.specs.Reading.{IsSyntaxFault}
use Rattle.tree_syntax.specs.Written.{Written, Writes}
use Rattle.tree_reader.specs.Breaking.{tree_broken}
use Rattle.tree_reader.specs.Grown.{tree_written}

-- The tokens say the tree of these nodes, with the texts of a pool: they write it, and break nothing.
pub record SaysTree (g : List Class) (pool : List (List ℕ)) (ts : List Lexed) (nodes : List Node) : Type 0 where
  pub written : Written
  pub writes : Writes ts written
  pub clean : Answers (tree_broken g pool ts written ∷ []) None
  pub are : nodes ≡ nodes_of (tree_written g (pooled_texts pool ts) written)

-- The first broken rule of some tokens: a fault of the syntax, or where the tokens write something, the first of those that it breaks.
pub data IsFirstBroken (g : List Class) (pool : List (List ℕ)) (ts : List Lexed) (b : Broken) : Type 0 where
  syntax : IsSyntaxFault ts b → IsFirstBroken g pool ts b
  checked : {w : Written} → Writes ts w → Answers (tree_broken g pool ts w ∷ []) (Some b) → IsFirstBroken g pool ts b

-- what reading some tokens answers: the tree that they say, or the first broken rule
abbrev pub ReadsTree : List Class → List (List ℕ) → List Lexed → Result (List Node) ReadFault → Type 0
ReadsTree g pool ts (Ok nodes) = SaysTree g pool ts nodes
ReadsTree g pool ts (Err (faults.Broken b)) = IsFirstBroken g pool ts b
ReadsTree g pool ts (Err faults.Memory) = Unit {0}

-- two trees that the tokens say are one
abbrev pub SayOneTree : List Class → List (List ℕ) → List Lexed → Type 0
SayOneTree g pool ts = (nodes others : List Node) → SaysTree g pool ts nodes → SaysTree g pool ts others → nodes ≡ others

-- two first broken rules of theirs are one
abbrev pub BreakOneFirst : List Class → List (List ℕ) → List Lexed → Type 0
BreakOneFirst g pool ts = (b c : Broken) → IsFirstBroken g pool ts b → IsFirstBroken g pool ts c → b ≡ c

-- where they say a tree they break no rule
abbrev pub SayOrBreak : List Class → List (List ℕ) → List Lexed → Type 0
SayOrBreak g pool ts = (nodes : List Node) (b : Broken) → SaysTree g pool ts nodes → IsFirstBroken g pool ts b → ⊥
