-- The canonical text of a tree is read again to the same tree.
use Rattle.std.specs.Prelude.{◌≡◌, ℕ, ◌≤◌, List, length}
use Rattle.rag_io.specs.Tokens.{Lexed, IsTokens, first_place}
use Rattle.rag_io.specs.Unquoted.{StandsFor}
use Rattle.ast_grammar.specs.Grammar.{Class}
use Rattle.tree_arena.specs.Nodes.{most_nodes}
use Rattle.tree_arena.specs.Terms.{Forest, Empty, Tree, IsTerm, nodes_of}
use Rattle.token_texts.specs.Texts.{pooled_texts}
use Rattle.tree_syntax.specs.Written.{Written, Writes}
use Rattle.tree_reader.specs.Breaking.{root_broken, tree_broken}
use Rattle.tree_reader.specs.Grown.{tree_written}
use Rattle.tree_reader.specs.Reading.{SaysTree}
use Rattle.tree_writer.specs.Canonical.{canonical}
use Rattle.tree_writer.specs.Showing.{IsSubtree}

-- a text that a token may stand for: the texts of files are such texts
pub record IsWritable (text : List ℕ) : Type 0 where
  pub token : List ℕ
  pub stands : StandsFor token text

-- Tokens of the text of a tree, which say its nodes, with the same pool.
pub record IsReadAgain (g : List Class) (pool : List (List ℕ)) (term : Forest) : Type 0 where
  pub tokens : List Lexed
  pub scanned : IsTokens first_place (canonical g pool term) tokens
  pub said : SaysTree g pool tokens (nodes_of term)
  pub pooled : pooled_texts pool tokens ≡ pool

-- so is each tree of a grammar that has few enough nodes
abbrev pub AreReadAgain : List Class → List (List ℕ) → Type 0
AreReadAgain g pool = (term : Forest) → IsTerm g (length pool) term → length (nodes_of term) ≤ most_nodes → IsReadAgain g pool term

-- a tree that hangs somewhere, as a whole one
abbrev pub as_whole : Forest → Forest
as_whole Empty = Empty
as_whole (Tree c k tokens below beside) = Tree c 0 tokens below Empty

-- Tokens of the text of a tree that hangs somewhere, with a line feed, and what they write: it is this tree, with the same pool. Nothing is
-- broken in it, but that its root may be of a class that is none of a whole tree's.
pub record IsReadBack (g : List Class) (pool : List (List ℕ)) (tree : Forest) : Type 0 where
  pub tokens : List Lexed
  pub scanned : IsTokens first_place (canonical g pool tree) tokens
  pub written : Written
  pub writes : Writes tokens written
  pub clean : tree_broken g pool tokens written ≡ root_broken g written
  pub are : nodes_of (as_whole tree) ≡ nodes_of (tree_written g (pooled_texts pool tokens) written)
  pub pooled : pooled_texts pool tokens ≡ pool

-- so has each subtree that has few enough nodes
abbrev pub AreReadBack : List Class → List (List ℕ) → Type 0
AreReadBack g pool = (tree : Forest) → IsSubtree g (length pool) tree → length (nodes_of (as_whole tree)) ≤ most_nodes → IsReadBack g pool tree
