-- What reading the syntax of aspects answers.
use Rattle.std.specs.Prelude.{◌≡◌, ℕ, List, Bool, false, map, take, codes, slice_get, Some, Result, Ok, Err, if◌then◌else◌}
use Rattle.std.specs.Str.{bytes_eq}
use Rattle.broken_rules.specs.declared.broken.Broken.{Broken}
use Rattle.broken_rules.specs.declared.broken.ReadFault.{ReadFault}
use Rattle.broken_rules.specs.declared.broken.ReadFault.TheVariants as faults
use Rattle.broken_rules.specs.declared.rule.Rule.{Rule}
use Rattle.broken_rules.specs.declared.rule.Rule.TheVariants.{J1, J16}
use Rattle.ll_parser.specs.Grammar.{IsSentence, Leading}
use Rattle.ll_parser.specs.Sentences.{Sentence, FirstFault}
use Rattle.rag_io.specs.Tokens.{Lexed}
use Rattle.rag_io.specs.Words.{is_left_out}
use Rattle.rag_io.specs.declared.token.TokenKind.{TokenKind}
use Rattle.rag_io.specs.declared.token.TokenKind.TheVariants.{Name, Int, Text, Symbol, End}
use Rattle.jrag_syntax.specs.JragGrammar.{jrag_grammar}
use Rattle.jrag_syntax.specs.JragPrintedGrammar.{jrag_printed_grammar}
use Rattle.jrag_syntax.specs.Tokens.{token_class}
use Rattle.jrag_syntax.specs.declared.classes.Start.{Start}
use Rattle.jrag_syntax.specs.declared.classes.Start.TheVariants.{File, Expression}

-- the nonterminal that the tokens are to be, in both grammars
abbrev pub nonterminal_of : Start → ℕ
nonterminal_of File = 0
nonterminal_of Expression = 1

abbrev pub classes_of : Start → List Lexed → List ℕ
classes_of start ts = map (token_class start) ts

-- a left-out word, or the `{` of a body in Java
abbrev pub is_left_out_part : TokenKind → List ℕ → Bool
is_left_out_part Name text = is_left_out text
is_left_out_part Symbol text = bytes_eq text (codes "{")
is_left_out_part End text = false
is_left_out_part Int text = false
is_left_out_part Text text = false

-- the rule that a syntax fault at a token breaks
abbrev pub syntax_rule : Lexed → Rule
syntax_rule t = if is_left_out_part t.kind t.text then J16 else J1

-- This rule is broken by a syntax fault of the tokens: at the first token such that the tokens up to it begin no sentence.
pub record IsSyntaxFault (start : Start) (ts : List Lexed) (b : Broken) : Type 0 where
  pub number : ℕ
  pub fault : FirstFault jrag_printed_grammar (nonterminal_of start) (classes_of start ts) number
  pub token : Lexed
  pub at : slice_get ts number ≡ Some token
  pub place : b.place ≡ token.place
  pub rule : b.rule ≡ syntax_rule token

-- The tokens are a sentence of the grammar, and these are the events of its only reading.
pub record SaysEvents (start : Start) (ts : List Lexed) (events : List ℕ) : Type 0 where
  pub sentence : Sentence jrag_printed_grammar (nonterminal_of start) (classes_of start ts)
  pub reading : IsSentence jrag_grammar (nonterminal_of start) (classes_of start ts) events

-- The tokens have this syntax fault, and the events before it are those with which each sentence begins that begins with the tokens before it.
pub record StopsWith (start : Start) (ts : List Lexed) (b : Broken) (events : List ℕ) : Type 0 where
  pub fault : IsSyntaxFault start ts b
  pub leading : Leading jrag_grammar (nonterminal_of start) (take fault.number (classes_of start ts)) events

-- what reading some tokens answers, and the events that it leaves
abbrev pub LeavesEvents : Start → List Lexed → Result (Unit {0}) ReadFault → List ℕ → Type 0
LeavesEvents start ts (Ok _) events = SaysEvents start ts events
LeavesEvents start ts (Err (faults.Broken b)) events = StopsWith start ts b events
LeavesEvents start ts (Err faults.Memory) events = Unit {0}
