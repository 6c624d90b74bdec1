-- Some tokens have one list of events or break one rule of the syntax, and not both.
use Rattle.std.proofs.Common.{◌≡◌, ℕ, List, ap, sym, ◌∙◌}
use Rattle.broken_rules.specs.declared.broken.Broken.{Broken}
use Rattle.ll_parser.proofs.OneFault.{no_fault, one_first}
use Rattle.rag_io.specs.Tokens.{Lexed}
use Rattle.jrag_syntax.specs.JragPrintedGrammar.{jrag_printed_grammar}
use Rattle.jrag_syntax.specs.Reading.{nonterminal_of, classes_of, syntax_rule, IsSyntaxFault, SaysEvents}
use Rattle.jrag_syntax.specs.declared.classes.Start.{Start}

module _ (start : Start) (ts : List Lexed) where
  -- one list of events
  pub one_said : (events others : List ℕ) → SaysEvents start ts events → SaysEvents start ts others → events ≡ others
  one_said events others says also = also.reading.only events says.reading.runs

  -- one broken rule
  pub one_syntax_fault : (b c : Broken) → IsSyntaxFault start ts b → IsSyntaxFault start ts c → b ≡ c
  one_syntax_fault b c fault other =
      let same = one_first jrag_printed_grammar (nonterminal_of start) (classes_of start ts) fault.number other.number fault.fault other.fault in
      let token : fault.token ≡ other.token = let at = fault.at in let also = other.at in cc in
      let place = fault.place ∙ ap (λ (t : Lexed). t.place) token ∙ sym other.place in
      let rule = fault.rule ∙ ap syntax_rule token ∙ sym other.rule in
      (λ i. record { place = place i; rule = rule i })

  -- not both
  pub said_or_fault : (events : List ℕ) (b : Broken) → SaysEvents start ts events → IsSyntaxFault start ts b → ⊥
  said_or_fault events b says fault = no_fault jrag_printed_grammar (nonterminal_of start) (classes_of start ts) fault.number says.sentence fault.fault
