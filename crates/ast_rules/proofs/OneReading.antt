-- Some tokens say one list of rules or break one rule of the syntax, and not both.
use Rattle.std.proofs.Common.{◌≡◌, ℕ, List, map, refl, ap, sym, ◌∙◌, subst}
use Rattle.broken_rules.specs.declared.broken.Broken.{Broken}
use Rattle.broken_rules.specs.declared.rule.Rule.{Rule}
use Rattle.ll_parser.proofs.OneFault.{no_fault, one_first}
use Rattle.rag_io.specs.Tokens.{Lexed}
use Rattle.ast_rules.specs.AstPrintedGrammar.{ast_printed_grammar}
use Rattle.ast_rules.specs.Building.{name_at, written}
use Rattle.ast_rules.specs.Reading.{IsSyntaxFault, SaysRules, SyntaxRule, left_out, outside}
use Rattle.ast_rules.specs.Tokens.{token_class}
use Rattle.ast_rules.specs.Written.{WrittenRule}

one_rule : (ts : List Lexed) (i : ℕ) (r q : Rule) → SyntaxRule ts i r → SyntaxRule ts i q → r ≡ q
one_rule ts i r q (left_out slash begins) (left_out other_slash other) = refl
one_rule ts i r q (left_out slash begins) (outside not_left_out) = absurd (not_left_out slash begins)
one_rule ts i r q (outside not_left_out) (left_out slash begins) = absurd (not_left_out slash begins)
one_rule ts i r q (outside not_left_out) (outside other) = refl

module _ (ts : List Lexed) where
  pub one_said : (rules others : List WrittenRule) → SaysRules ts rules → SaysRules ts others → rules ≡ others
  one_said rules others says also = says.rules ∙ ap (written ts) (also.reading.only says.events says.reading.runs) ∙ sym also.rules

  pub one_syntax_fault : (b c : Broken) → IsSyntaxFault ts b → IsSyntaxFault ts c → b ≡ c
  one_syntax_fault b c fault other =
      let same = one_first ast_printed_grammar 0 (map token_class ts) fault.number other.number fault.fault other.fault in
      let place = fault.place ∙ ap (λ k. (name_at ts k).place) same ∙ sym other.place in
      let rule = one_rule ts other.number b.rule c.rule (subst (λ k. SyntaxRule ts k b.rule) same fault.rule) other.rule in
      (λ i. record { place = place i; rule = rule i })

  pub said_or_fault : (rules : List WrittenRule) (b : Broken) → SaysRules ts rules → IsSyntaxFault ts b → ⊥
  said_or_fault rules b says fault = no_fault ast_printed_grammar 0 (map token_class ts) fault.number says.sentence fault.fault
