-- What laying the nodes of a tree answers.
use Rattle.std.specs.Prelude.{◌≡◌, ℕ, List, map, Option}
use Rattle.broken_rules.specs.declared.broken.Broken.{Broken}
use Rattle.broken_rules.specs.Notes.{Notes}
use Rattle.rag_io.specs.Tokens.{Lexed}
use Rattle.ast_grammar.specs.Grammar.{Class}
use Rattle.token_texts.specs.Texts.{text_code}
use Rattle.tree_arena.specs.Nodes.{Node}
use Rattle.tree_arena.specs.Terms.{nodes_of}
use Rattle.tree_syntax.specs.Written.{Written, Writes}
use Rattle.tree_reader.specs.declared.laying.Laying.{Laying}
use Rattle.tree_reader.specs.Breaking.{arguments_broken}
use Rattle.tree_reader.specs.Grown.{tree_written}
use Rattle.tree_reader.specs.Wants.{Unknown}
use Rattle.tree_arena.specs.Kept.{node_of}
use Rattle.tree_arena.specs.declared.tree.FirstNode.{FirstNode}

-- a node that was laid
abbrev pub seen_laid : FirstNode → Node
seen_laid x = node_of x

-- The nodes of a written tree were laid, and what its nodes break was noted.
pub record IsLaid (g : List Class) (pool : List (List ℕ)) (w : Written) (old new : Option Broken) (nodes : List FirstNode) : Type 0 where
  pub nodes_are : map seen_laid nodes ≡ nodes_of (tree_written g pool w)
  pub noted : Notes (arguments_broken g Unknown 0 w) old new

-- Of whatever pool gives the texts these numbers, and whatever the tokens write: that was laid.
abbrev pub LaysWhatIsWritten : List Class → List Lexed → List ℕ → Option Broken → Laying → Type 0
LaysWhatIsWritten g ts numbers old laying = (pool : List (List ℕ)) (w : Written) → numbers ≡ map (text_code pool) ts → Writes ts w → IsLaid g pool w old laying.broken laying.nodes.items
