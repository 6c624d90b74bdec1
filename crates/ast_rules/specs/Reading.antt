-- What reading the rules of an `.ast` file answers.
use Rattle.std.specs.Prelude.{◌≡◌, ℕ, List, [], ◌∷◌, ◌++◌, All, Vec, map, take, true, codes, Result, Ok, Err}
use Rattle.std.specs.Str.{bytes_eq}
use Rattle.std.specs.declared.alloc.Global.{Global}
use Rattle.broken_rules.specs.declared.broken.Broken.{Broken}
use Rattle.broken_rules.specs.declared.broken.ReadFault.{ReadFault}
use Rattle.broken_rules.specs.declared.broken.ReadFault.TheVariants as faults
use Rattle.broken_rules.specs.declared.rule.Rule.{Rule}
use Rattle.broken_rules.specs.declared.rule.Rule.TheVariants.{G1, G9}
use Rattle.ll_parser.specs.Grammar.{IsSentence}
use Rattle.ll_parser.specs.Sentences.{Sentence, BeginsSentence, FirstFault}
use Rattle.rag_io.specs.Tokens.{Lexed}
use Rattle.rag_io.specs.Words.{IsWord}
use Rattle.ast_rules.specs.AstGrammar.{ast_grammar}
use Rattle.ast_rules.specs.AstPrintedGrammar.{ast_printed_grammar}
use Rattle.ast_rules.specs.Building.{name_at, written}
use Rattle.ast_rules.specs.Tokens.{token_class}
use Rattle.ast_rules.specs.Written.{WrittenRule, seen_rules}
use Rattle.ast_rules.specs.declared.written.WrittenRule as kept_written_rule

-- The tokens say these rules: they are a sentence of the grammar, and its only reading writes them.
pub record SaysRules (ts : List Lexed) (said : List WrittenRule) : Type 0 where
  pub sentence : Sentence ast_printed_grammar 0 (map token_class ts)
  pub events : List ℕ
  pub reading : IsSentence ast_grammar 0 (map token_class ts) events
  pub rules : said ≡ written ts events

-- The name of each rule's class is a word.
pub record AreNamed (rules : List WrittenRule) : Type 0 where
  pub words : All (λ (rule : WrittenRule). IsWord rule.name.text) rules

-- the class of `[`, with which an optional begins
abbrev pub optional_sign : ℕ
optional_sign = 7

-- some tokens, an optional's sign and the end
abbrev pub optional_behind : List ℕ → List ℕ
optional_behind cs = (cs ++ optional_sign ∷ []) ++ 0 ∷ []

-- Behind some tokens a component may begin: an optional could stand there.
abbrev pub BeginsComponent : List ℕ → Type 0
BeginsComponent cs = BeginsSentence ast_printed_grammar 0 (cs ++ optional_sign ∷ [])

-- the token of this number is `/`
abbrev pub IsSlash : List Lexed → ℕ → Type 0
IsSlash ts i = bytes_eq (name_at ts i).text (codes "/") ≡ true

-- The rule that a syntax fault breaks: G9 at `/` where a component may begin, and else G1.
pub data SyntaxRule (ts : List Lexed) (i : ℕ) : Rule → Type 0 where
  left_out : IsSlash ts i → BeginsComponent (take i (map token_class ts)) → SyntaxRule ts i G9
  outside : (IsSlash ts i → BeginsComponent (take i (map token_class ts)) → ⊥) → SyntaxRule ts i G1

-- This rule is broken by a syntax fault of the tokens, at the token.
pub record IsSyntaxFault (ts : List Lexed) (b : Broken) : Type 0 where
  pub number : ℕ
  pub fault : FirstFault ast_printed_grammar 0 (map token_class ts) number
  pub place : b.place ≡ (name_at ts number).place
  pub rule : SyntaxRule ts number b.rule

-- what reading some tokens answers
abbrev pub ReadsRules : List Lexed → Result (Vec kept_written_rule.WrittenRule Global) ReadFault → Type 0
ReadsRules ts (Ok rules) = SaysRules ts (seen_rules rules.items)
ReadsRules ts (Err (faults.Broken b)) = IsSyntaxFault ts b
ReadsRules ts (Err faults.Memory) = Unit {0}
