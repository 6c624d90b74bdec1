-- Some tokens write something or have one first fault of the syntax, and not both.
use Rattle.std.proofs.Common.{◌≡◌, ℕ, List, map, slice_get, Some, ap, sym, ◌∙◌}
use Rattle.broken_rules.specs.declared.broken.Broken.{Broken}
use Rattle.ll_parser.proofs.OneFault.{no_fault, one_first}
use Rattle.rag_io.specs.Tokens.{Lexed}
use Rattle.tree_syntax.proofs.Made.{sentence_of}
use Rattle.tree_syntax.specs.Reading.{IsSyntaxFault}
use Rattle.tree_syntax.specs.Tokens.{token_class}
use Rattle.tree_syntax.specs.TreePrintedGrammar.{tree_printed_grammar}
use Rattle.tree_syntax.specs.Written.{Written, Writes}

-- the token of a number is one
one_token : (ts : List Lexed) (i j : ℕ) (t u : Lexed) → i ≡ j → slice_get ts i ≡ Some t → slice_get ts j ≡ Some u → t ≡ u
one_token ts i j t u same a b = let both : Some t ≡ Some u = sym a ∙ ap (slice_get ts) same ∙ b in cc

module _ (ts : List Lexed) where
  pub one_syntax_fault : (b c : Broken) → IsSyntaxFault ts b → IsSyntaxFault ts c → b ≡ c
  one_syntax_fault b c fault other =
      let same = one_first tree_printed_grammar 0 (map token_class ts) fault.number other.number fault.fault other.fault in
      let token = one_token ts fault.number other.number fault.token other.token same fault.at other.at in
      let place = fault.place ∙ ap (λ (t : Lexed). t.place) token ∙ sym other.place in
      let rule = fault.rule ∙ sym other.rule in
      (λ i. record { place = place i; rule = rule i })

  pub writes_or_fault : (w : Written) (b : Broken) → Writes ts w → IsSyntaxFault ts b → ⊥
  writes_or_fault w b writes fault = no_fault tree_printed_grammar 0 (map token_class ts) fault.number (sentence_of writes) fault.fault
