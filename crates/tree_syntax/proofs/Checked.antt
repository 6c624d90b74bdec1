-- What the parse says of the tokens of a file.
use Rattle.std.proofs.Common.{ℕ, ◌<◌, List, length, map, get_or, refl, ap, ◌∙◌, arith}
use Rattle.std.specs.Option.{option_map}
use Rattle.std.proofs.lemmas.List.{length-map}
use Rattle.std.proofs.lemmas.Option.{slice_get-map, slice_get-get_or}
use Rattle.broken_rules.specs.declared.rule.Rule.TheVariants.{N1}
use Rattle.ll_parser.specs.Grammar.{IsSentence, IsFault}
use Rattle.ll_parser.specs.Sentences.{FirstFault}
use Rattle.ll_parser.proofs.Sentences.{fault_there, sentence_there}
use Rattle.rag_io.specs.declared.token.Token as kept_token
use Rattle.rag_io.specs.Tokens.{Lexed, seen_token, seen_tokens}
use Rattle.tree_syntax.proofs.Spelled.{written_of}
use Rattle.tree_syntax.proofs.TreeSentences.{printed_sentences}
use Rattle.tree_syntax.specs.Reading.{IsText, IsSyntaxFault}
use Rattle.tree_syntax.specs.Tokens.{token_class}
use Rattle.tree_syntax.specs.TreeGrammar.{tree_grammar}
use Rattle.tree_syntax.specs.TreePrintedGrammar.{tree_printed_grammar}

-- a fault of the table's grammar is one of the printed grammar
pub printed_fault : {cs : List ℕ} {i : ℕ} → IsFault tree_grammar 0 cs i → FirstFault tree_printed_grammar 0 cs i
printed_fault fault = fault_there printed_sentences fault

-- a sentence of the table's grammar is one of the printed grammar, and writes something
pub is_text : {ts : List Lexed} {es : List ℕ} → IsSentence tree_grammar 0 (map token_class ts) es → IsText ts
is_text reading =
    let sentence = sentence_there printed_sentences reading in
    let written = written_of sentence in
    record { sentence = sentence; written = written.0; writes = written.1 }

-- the token of a fault is one of the tokens, and N1 is broken at its place
pub is_fault : (ts : List kept_token.Token) (i : ℕ) (d : kept_token.Token) → FirstFault tree_printed_grammar 0 (map token_class (seen_tokens ts)) i
    → IsSyntaxFault (seen_tokens ts) (record { place = record { line = (get_or ts i d).line; column = (get_or ts i d).column }; rule = N1 })
is_fault ts i d fault =
    let within : i < length ts = let inside = fault.inside in omega (arith, length-map (seen_tokens ts) token_class, length-map ts seen_token) in
    record {
      number = i;
      fault = fault;
      token = seen_token (get_or ts i d);
      at = slice_get-map seen_token ts i ∙ ap (option_map seen_token) (slice_get-get_or ts i d within);
      place = refl;
      rule = refl;
    }
