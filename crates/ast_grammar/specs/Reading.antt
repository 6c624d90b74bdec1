-- What reading an `.ast` file answers.
use Rattle.std.specs.Prelude.{◌≡◌, List, Some, None, Result, Ok, Err}
use Rattle.broken_rules.specs.Answers.{Answers}
use Rattle.broken_rules.specs.declared.broken.Broken.{Broken}
use Rattle.broken_rules.specs.declared.broken.ReadFault.{ReadFault}
use Rattle.broken_rules.specs.declared.broken.ReadFault.TheVariants as faults
use Rattle.rag_io.specs.Tokens.{Lexed}
use Rattle.ast_rules.specs.Phases.{grammar_phases}
use Rattle.ast_rules.specs.Reading.{IsSyntaxFault, SaysRules}
use Rattle.ast_rules.specs.Written.{WrittenRule}
use Rattle.ast_grammar.specs.Grammar.{Class}
use Rattle.ast_grammar.specs.Written.{grammar_written}

-- The tokens say this grammar: they say rules that write it, and that break none.
pub record SaysGrammar (ts : List Lexed) (g : List Class) : Type 0 where
  pub rules : List WrittenRule
  pub said : SaysRules ts rules
  pub clean : Answers (grammar_phases rules) None
  pub classes : g ≡ grammar_written rules

-- The first broken rule of some tokens: a fault of the syntax, or where the tokens say rules, the first of those that these break.
pub data IsFirstBroken (ts : List Lexed) (b : Broken) : Type 0 where
  syntax : IsSyntaxFault ts b → IsFirstBroken ts b
  checked : {rules : List WrittenRule} → SaysRules ts rules → Answers (grammar_phases rules) (Some b) → IsFirstBroken ts b

-- what reading some tokens answers: the grammar that they say, or the first broken rule
abbrev pub ReadsAst : List Lexed → Result (List Class) ReadFault → Type 0
ReadsAst ts (Ok g) = SaysGrammar ts g
ReadsAst ts (Err (faults.Broken b)) = IsFirstBroken ts b
ReadsAst ts (Err faults.Memory) = Unit {0}
