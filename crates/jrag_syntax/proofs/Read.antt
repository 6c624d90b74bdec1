-- What the parse says of the tokens.
use Rattle.std.proofs.Common.{◌≡◌, ℕ, ◌<◌, List, length, take, get_or, ap, ◌∙◌, arith}
use Rattle.std.specs.Option.{option_map}
use Rattle.std.proofs.lemmas.List.{length-map}
use Rattle.std.proofs.lemmas.Option.{slice_get-map, slice_get-get_or}
use Rattle.broken_rules.specs.declared.broken.Broken.{Broken}
use Rattle.ll_parser.specs.Grammar.{IsSentence, IsFault, Leading}
use Rattle.ll_parser.specs.Sentences.{FirstFault}
use Rattle.ll_parser.proofs.Sentences.{fault_there, sentence_there}
use Rattle.rag_io.specs.declared.token.Token as kept_token
use Rattle.rag_io.specs.Tokens.{Lexed, seen_token, seen_tokens}
use Rattle.jrag_syntax.proofs.JragSentences.{printed_sentences}
use Rattle.jrag_syntax.specs.JragGrammar.{jrag_grammar}
use Rattle.jrag_syntax.specs.JragPrintedGrammar.{jrag_printed_grammar}
use Rattle.jrag_syntax.specs.Reading.{nonterminal_of, classes_of, syntax_rule, SaysEvents, StopsWith}
use Rattle.jrag_syntax.specs.Tokens.{token_class}
use Rattle.jrag_syntax.specs.declared.classes.Start.{Start}

module _ (start : Start) where
  -- a sentence of the table's grammar is one of the printed grammar
  pub says_events : {ts : List Lexed} {es : List ℕ} → IsSentence jrag_grammar (nonterminal_of start) (classes_of start ts) es → SaysEvents start ts es
  says_events reading = record { sentence = sentence_there (printed_sentences start) reading; reading = reading }

  -- a fault of the table's grammar is one of the printed grammar, at one of the tokens
  pub stops_with : (ts : List kept_token.Token) (i : ℕ) (d : kept_token.Token) (b : Broken) {es : List ℕ}
      → IsFault jrag_grammar (nonterminal_of start) (classes_of start (seen_tokens ts)) i
      → Leading jrag_grammar (nonterminal_of start) (take i (classes_of start (seen_tokens ts))) es
      → b.place ≡ (seen_token (get_or ts i d)).place → b.rule ≡ syntax_rule (seen_token (get_or ts i d)) → StopsWith start (seen_tokens ts) b es
  stops_with ts i d b f leading place rule =
      let fault : FirstFault jrag_printed_grammar (nonterminal_of start) (classes_of start (seen_tokens ts)) i = fault_there (printed_sentences start) f in
      let within : i < length ts = let inside = fault.inside in omega (arith, length-map (seen_tokens ts) (token_class start), length-map ts seen_token) in
      record {
        fault = record {
          number = i;
          fault = fault;
          token = seen_token (get_or ts i d);
          at = slice_get-map seen_token ts i ∙ ap (option_map seen_token) (slice_get-get_or ts i d within);
          place = place;
          rule = rule;
        };
        leading = leading;
      }
