-- What checking the syntax of a tree's text answers.
use Rattle.std.specs.Prelude.{◌≡◌, ℕ, List, map, slice_get, Some, Result, Ok, Err}
use Rattle.broken_rules.specs.declared.broken.Broken.{Broken}
use Rattle.broken_rules.specs.declared.broken.ReadFault.{ReadFault}
use Rattle.broken_rules.specs.declared.broken.ReadFault.TheVariants as faults
use Rattle.broken_rules.specs.declared.rule.Rule.TheVariants.{N1}
use Rattle.ll_parser.specs.Sentences.{Sentence, FirstFault}
use Rattle.rag_io.specs.Tokens.{Lexed}
use Rattle.tree_syntax.specs.Tokens.{token_class}
use Rattle.tree_syntax.specs.TreePrintedGrammar.{tree_printed_grammar}
use Rattle.tree_syntax.specs.Written.{Written, Writes}

-- N1 is broken by a syntax fault of the tokens: it stands at the first token such that the tokens up to it begin no sentence.
pub record IsSyntaxFault (ts : List Lexed) (b : Broken) : Type 0 where
  pub number : ℕ
  pub fault : FirstFault tree_printed_grammar 0 (map token_class ts) number
  pub token : Lexed
  pub at : slice_get ts number ≡ Some token
  pub place : b.place ≡ token.place
  pub rule : b.rule ≡ N1

-- The tokens are a sentence of the grammar, and write something.
pub record IsText (ts : List Lexed) : Type 0 where
  pub sentence : Sentence tree_printed_grammar 0 (map token_class ts)
  pub written : Written
  pub writes : Writes ts written

abbrev pub ChecksSyntax : List Lexed → Result (Unit {0}) ReadFault → Type 0
ChecksSyntax ts (Ok _) = IsText ts
ChecksSyntax ts (Err (faults.Broken b)) = IsSyntaxFault ts b
ChecksSyntax ts (Err faults.Memory) = Unit {0}
