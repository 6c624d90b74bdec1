-- Some tokens say one grammar or have one first broken rule, and not both.
use Rattle.std.proofs.Common.{◌≡◌, List, Option, Some, None, ap, sym, ◌∙◌, subst}
use Rattle.broken_rules.proofs.Answering.{one_answer}
use Rattle.broken_rules.specs.Answers.{Answers}
use Rattle.broken_rules.specs.declared.broken.Broken.{Broken}
use Rattle.rag_io.specs.Tokens.{Lexed}
use Rattle.ast_rules.proofs.OneReading.{one_said, one_syntax_fault, said_or_fault}
use Rattle.ast_rules.specs.Phases.{grammar_phases}
use Rattle.ast_rules.specs.Reading.{SaysRules}
use Rattle.ast_rules.specs.Written.{WrittenRule}
use Rattle.ast_grammar.specs.Grammar.{Class}
use Rattle.ast_grammar.specs.Reading.{IsFirstBroken, SaysGrammar, checked, syntax}
use Rattle.ast_grammar.specs.Written.{grammar_written}

module _ (ts : List Lexed) where
  -- the rules that tokens say have one answer
  same_answer : (rules others : List WrittenRule) (p q : Option Broken) → SaysRules ts rules → SaysRules ts others → Answers (grammar_phases rules) p → Answers (grammar_phases others) q → p ≡ q
  same_answer rules others p q says also a b = one_answer a (subst (λ rs. Answers (grammar_phases rs) q) (one_said ts others rules also says) b)

  pub one_said_grammar : (g h : List Class) → SaysGrammar ts g → SaysGrammar ts h → g ≡ h
  one_said_grammar g h says also = says.classes ∙ ap grammar_written (one_said ts says.rules also.rules says.said also.said) ∙ sym also.classes

  pub one_broken : (b c : Broken) → IsFirstBroken ts b → IsFirstBroken ts c → b ≡ c
  one_broken b c (syntax fault) (syntax other) = one_syntax_fault ts b c fault other
  one_broken b c (syntax fault) (checked {rules} says answer) = absurd (said_or_fault ts rules b says fault)
  one_broken b c (checked {rules} says answer) (syntax fault) = absurd (said_or_fault ts rules c says fault)
  one_broken b c (checked {rules} says answer) (checked {rules = others} also other) = let same = same_answer rules others (Some b) (Some c) says also answer other in cc

  pub said_or_broken : (g : List Class) (b : Broken) → SaysGrammar ts g → IsFirstBroken ts b → ⊥
  said_or_broken g b says (syntax fault) = said_or_fault ts says.rules b says.said fault
  said_or_broken g b says (checked {rules} also answer) = let same = same_answer says.rules rules None (Some b) says.said also says.clean answer in cc
