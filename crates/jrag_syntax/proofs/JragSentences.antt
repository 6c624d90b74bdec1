-- The grammar that people read and the one of the table have the same sentences, with the same events: a computation.
use Rattle.std.proofs.Common.{ℕ, List, [], ◌∷◌, refl}
use Rattle.ll_parser.specs.declared.symbols.Symbol.{Symbol}
use Rattle.ll_parser.specs.declared.symbols.Symbol.TheVariants.{Terminal, Nonterminal}
use Rattle.ll_parser.specs.Grammar.{Derives, start as start_symbols}
use Rattle.ll_parser.specs.Sentences.{SameSentences}
use Rattle.ll_parser.specs.Stack.{choice_of}
use Rattle.ll_parser.specs.Table.{entry}
use Rattle.ll_parser.proofs.Carrying.{Carrying, carrying}
use Rattle.ll_parser.proofs.Returning.{Returning, returning}
use Rattle.ll_parser.proofs.Sentences.{same_events, sentences_with_events, value_of}
use Rattle.jrag_syntax.specs.JragGrammar.{jrag_grammar}
use Rattle.jrag_syntax.specs.JragPrintedGrammar.{jrag_printed_grammar}
use Rattle.jrag_syntax.specs.Reading.{nonterminal_of}
use Rattle.jrag_syntax.specs.declared.classes.Start.{Start}
use Rattle.jrag_syntax.specs.declared.classes.Start.TheVariants.{File, Expression}
use Rattle.jrag_syntax.specs.declared.jrag_table.TheConstants.{JRAG_CHOICE}

-- what each nonterminal of the printed grammar is in that of the table
abbrev within : ℕ → List Symbol
within n = entry [] (
    (Nonterminal 0 ∷ []) ∷ (Nonterminal 1 ∷ []) ∷ (Nonterminal 2 ∷ []) ∷ (Nonterminal 3 ∷ []) ∷ (Nonterminal 4 ∷ []) ∷ (Nonterminal 5 ∷ []) ∷
    (Nonterminal 6 ∷ []) ∷ (Nonterminal 7 ∷ []) ∷ (Nonterminal 8 ∷ []) ∷ (Nonterminal 9 ∷ []) ∷ (Nonterminal 10 ∷ []) ∷ (Nonterminal 11 ∷ []) ∷
    (Nonterminal 12 ∷ []) ∷ (Nonterminal 13 ∷ []) ∷ (Nonterminal 14 ∷ []) ∷ (Nonterminal 15 ∷ []) ∷ (Nonterminal 16 ∷ []) ∷ (Nonterminal 17 ∷ []) ∷
    (Nonterminal 18 ∷ []) ∷ (Nonterminal 21 ∷ []) ∷ (Nonterminal 22 ∷ []) ∷ (Nonterminal 24 ∷ []) ∷ (Nonterminal 25 ∷ []) ∷ (Nonterminal 26 ∷ []) ∷
    (Nonterminal 27 ∷ []) ∷ (Nonterminal 28 ∷ []) ∷ (Nonterminal 29 ∷ []) ∷ (Nonterminal 30 ∷ []) ∷ (Nonterminal 31 ∷ []) ∷ (Nonterminal 32 ∷ []) ∷
    (Nonterminal 33 ∷ []) ∷ (Nonterminal 34 ∷ []) ∷ (Nonterminal 35 ∷ []) ∷ (Nonterminal 36 ∷ []) ∷ (Nonterminal 37 ∷ []) ∷ (Nonterminal 38 ∷ []) ∷
    (Nonterminal 39 ∷ []) ∷ (Nonterminal 52 ∷ []) ∷ (Nonterminal 57 ∷ []) ∷ (Nonterminal 56 ∷ []) ∷ (Nonterminal 20 ∷ []) ∷ (Nonterminal 53 ∷ []) ∷
    (Nonterminal 54 ∷ []) ∷ []) n

-- what stands before each nonterminal of the table
abbrev before : ℕ → List Symbol
before n = entry [] (
    [] ∷ [] ∷ [] ∷ [] ∷ [] ∷ [] ∷ [] ∷ [] ∷ [] ∷ [] ∷ [] ∷ [] ∷ [] ∷ [] ∷ [] ∷ [] ∷ [] ∷ [] ∷ [] ∷ [] ∷ [] ∷ [] ∷ [] ∷ [] ∷ [] ∷ [] ∷ [] ∷ [] ∷ [] ∷ [] ∷ [] ∷
    [] ∷ [] ∷ [] ∷ [] ∷ [] ∷ [] ∷ [] ∷ [] ∷ [] ∷ (Terminal 36 ∷ []) ∷ (Terminal 36 ∷ Nonterminal 18 ∷ []) ∷ (Terminal 36 ∷ Nonterminal 40 ∷ []) ∷
    (Terminal 36 ∷ Nonterminal 18 ∷ Terminal 37 ∷ []) ∷ [] ∷ [] ∷ (Nonterminal 18 ∷ []) ∷ (Nonterminal 18 ∷ []) ∷ (Nonterminal 40 ∷ []) ∷
    (Nonterminal 40 ∷ Terminal 36 ∷ []) ∷ (Nonterminal 40 ∷ Terminal 36 ∷ Nonterminal 18 ∷ []) ∷ (Nonterminal 40 ∷ Terminal 36 ∷ Nonterminal 40 ∷ []) ∷ [] ∷
    [] ∷ [] ∷ [] ∷ [] ∷ [] ∷ []) n

-- and what it completes
abbrev whole : ℕ → List Symbol
whole n = entry [] (
    (Nonterminal 0 ∷ []) ∷ (Nonterminal 1 ∷ []) ∷ (Nonterminal 2 ∷ []) ∷ (Nonterminal 3 ∷ []) ∷ (Nonterminal 4 ∷ []) ∷ (Nonterminal 5 ∷ []) ∷
    (Nonterminal 6 ∷ []) ∷ (Nonterminal 7 ∷ []) ∷ (Nonterminal 8 ∷ []) ∷ (Nonterminal 9 ∷ []) ∷ (Nonterminal 10 ∷ []) ∷ (Nonterminal 11 ∷ []) ∷
    (Nonterminal 12 ∷ []) ∷ (Nonterminal 13 ∷ []) ∷ (Nonterminal 14 ∷ []) ∷ (Nonterminal 15 ∷ []) ∷ (Nonterminal 16 ∷ []) ∷ (Nonterminal 17 ∷ []) ∷
    (Nonterminal 18 ∷ []) ∷ (Nonterminal 18 ∷ []) ∷ (Nonterminal 40 ∷ []) ∷ (Nonterminal 19 ∷ []) ∷ (Nonterminal 20 ∷ []) ∷
    (Nonterminal 33 ∷ Nonterminal 31 ∷ Nonterminal 29 ∷ Nonterminal 27 ∷ Nonterminal 25 ∷ Nonterminal 23 ∷ Nonterminal 21 ∷ []) ∷ (Nonterminal 21 ∷ []) ∷
    (Nonterminal 22 ∷ []) ∷ (Nonterminal 23 ∷ []) ∷ (Nonterminal 24 ∷ []) ∷ (Nonterminal 25 ∷ []) ∷ (Nonterminal 26 ∷ []) ∷ (Nonterminal 27 ∷ []) ∷
    (Nonterminal 28 ∷ []) ∷ (Nonterminal 29 ∷ []) ∷ (Nonterminal 30 ∷ []) ∷ (Nonterminal 31 ∷ []) ∷ (Nonterminal 32 ∷ []) ∷ (Nonterminal 33 ∷ []) ∷
    (Nonterminal 34 ∷ []) ∷ (Nonterminal 35 ∷ []) ∷ (Nonterminal 36 ∷ []) ∷ (Nonterminal 36 ∷ []) ∷ (Nonterminal 36 ∷ []) ∷ (Nonterminal 36 ∷ []) ∷
    (Nonterminal 36 ∷ []) ∷ (Nonterminal 20 ∷ []) ∷
    (Nonterminal 37 ∷ Nonterminal 33 ∷ Nonterminal 31 ∷ Nonterminal 29 ∷ Nonterminal 27 ∷ Nonterminal 25 ∷ Nonterminal 23 ∷ Nonterminal 21 ∷ []) ∷
    (Nonterminal 20 ∷ []) ∷ (Nonterminal 38 ∷ []) ∷ (Nonterminal 38 ∷ []) ∷ (Nonterminal 38 ∷ []) ∷ (Nonterminal 38 ∷ []) ∷ (Nonterminal 38 ∷ []) ∷
    (Nonterminal 37 ∷ []) ∷ (Nonterminal 41 ∷ []) ∷ (Nonterminal 42 ∷ []) ∷ (Nonterminal 38 ∷ []) ∷ (Nonterminal 39 ∷ []) ∷ (Nonterminal 38 ∷ []) ∷ []) n

carries : Carrying jrag_grammar jrag_printed_grammar within
carries = value_of (carrying jrag_grammar (choice_of JRAG_CHOICE) 100 jrag_printed_grammar within) refl

returns : Returning jrag_grammar jrag_printed_grammar before whole jrag_grammar
returns = value_of (returning jrag_grammar jrag_printed_grammar before whole 100 jrag_grammar) refl

-- what has some events in the printed grammar has them in that of the table
pub printed_events : (start : Start) {ts es : List ℕ}
    → Derives jrag_printed_grammar (start_symbols (nonterminal_of start)) ts es → Derives jrag_grammar (start_symbols (nonterminal_of start)) ts es
printed_events File d = same_events jrag_printed_grammar jrag_grammar 0 0 within carries refl d
printed_events Expression d = same_events jrag_printed_grammar jrag_grammar 1 1 within carries refl d

-- of files
pub file_sentences : SameSentences jrag_printed_grammar 0 jrag_grammar 0
file_sentences = sentences_with_events jrag_printed_grammar jrag_grammar 0 0 within before whole carries refl returns refl

-- of single expressions
pub expression_sentences : SameSentences jrag_printed_grammar 1 jrag_grammar 1
expression_sentences = sentences_with_events jrag_printed_grammar jrag_grammar 1 1 within before whole carries refl returns refl

-- of both
pub printed_sentences : (start : Start) → SameSentences jrag_printed_grammar (nonterminal_of start) jrag_grammar (nonterminal_of start)
printed_sentences File = file_sentences
printed_sentences Expression = expression_sentences
