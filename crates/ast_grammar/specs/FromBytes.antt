-- What the bytes of an `.ast` file say.
use Rattle.std.specs.Prelude.{ℕ, List, Result, Ok, Err}
use Rattle.broken_rules.specs.declared.broken.Broken.{Broken}
use Rattle.broken_rules.specs.declared.broken.ReadFault.{ReadFault}
use Rattle.broken_rules.specs.declared.broken.ReadFault.TheVariants as faults
use Rattle.broken_rules.specs.declared.rule.Rule.TheVariants.{G1}
use Rattle.rag_io.specs.Tokens.{Lexed, IsTokens, first_place}
use Rattle.sentences.specs.Scanning.{IsBadPlace}
use Rattle.ast_grammar.specs.Grammar.{Class}
use Rattle.ast_grammar.specs.Reading.{IsFirstBroken, SaysGrammar}

-- The bytes of an `.ast` file say this grammar.
pub record ReadsGrammar (bytes : List ℕ) (g : List Class) : Type 0 where
  pub tokens : List Lexed
  pub scanned : IsTokens first_place bytes tokens
  pub says : SaysGrammar tokens g

-- This is the first rule that the bytes of an `.ast` file break, with its place: G1 at a bad place, or else what the tokens break.
pub data BreaksGrammar (bytes : List ℕ) (b : Broken) : Type 0 where
  bad_place : IsBadPlace bytes G1 b → BreaksGrammar bytes b
  by_tokens : {tokens : List Lexed} → IsTokens first_place bytes tokens → IsFirstBroken tokens b → BreaksGrammar bytes b

-- The grammar that the bytes say, or the first rule that they break.
abbrev pub AnswersGrammar : List ℕ → Result (List Class) ReadFault → Type 0
AnswersGrammar bytes (Ok g) = ReadsGrammar bytes g
AnswersGrammar bytes (Err (faults.Broken b)) = BreaksGrammar bytes b
AnswersGrammar bytes (Err faults.Memory) = Unit {0}
