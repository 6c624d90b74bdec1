-- The grammar that people read and the one of the table have the same sentences: a computation.
use Rattle.std.proofs.Common.{ℕ, List, [], ◌∷◌, refl}
use Rattle.ll_parser.specs.declared.symbols.Symbol.{Symbol}
use Rattle.ll_parser.specs.declared.symbols.Symbol.TheVariants.{Terminal, Nonterminal}
use Rattle.ll_parser.specs.Sentences.{SameSentences}
use Rattle.ll_parser.specs.Stack.{choice_of}
use Rattle.ll_parser.specs.Table.{entry}
use Rattle.ll_parser.proofs.Including.{Fitting, fitting}
use Rattle.ll_parser.proofs.Returning.{Returning, returning}
use Rattle.ll_parser.proofs.Sentences.{same_sentences, value_of}
use Rattle.ast_rules.specs.AstGrammar.{ast_grammar}
use Rattle.ast_rules.specs.AstPrintedGrammar.{ast_printed_grammar}
use Rattle.ast_rules.specs.declared.ast_table.TheConstants.{AST_CHOICE}

-- what each nonterminal of the printed grammar is in that of the table
abbrev within : ℕ → List Symbol
within n = entry [] ((Nonterminal 0 ∷ []) ∷ (Nonterminal 1 ∷ []) ∷ (Nonterminal 2 ∷ []) ∷ (Nonterminal 3 ∷ []) ∷ (Nonterminal 4 ∷ []) ∷ (Nonterminal 5 ∷ []) ∷ (Nonterminal 6 ∷ []) ∷ (Nonterminal 7 ∷ []) ∷ (Nonterminal 9 ∷ []) ∷ []) n

-- what stands before each nonterminal of the table
abbrev before : ℕ → List Symbol
before n = entry [] ([] ∷ [] ∷ [] ∷ [] ∷ [] ∷ [] ∷ [] ∷ [] ∷ (Terminal 1 ∷ []) ∷ [] ∷ (Terminal 7 ∷ Terminal 1 ∷ []) ∷ (Terminal 9 ∷ Terminal 1 ∷ []) ∷ []) n

-- and what it completes
abbrev whole : ℕ → List Symbol
whole n = entry [] ((Nonterminal 0 ∷ []) ∷ (Nonterminal 1 ∷ []) ∷ (Nonterminal 2 ∷ []) ∷ (Nonterminal 3 ∷ []) ∷ (Nonterminal 4 ∷ []) ∷ (Nonterminal 5 ∷ []) ∷ (Nonterminal 6 ∷ []) ∷ (Nonterminal 7 ∷ []) ∷ (Nonterminal 7 ∷ []) ∷ (Nonterminal 8 ∷ []) ∷ (Nonterminal 7 ∷ []) ∷ (Nonterminal 7 ∷ []) ∷ []) n

fits : Fitting ast_grammar (choice_of AST_CHOICE) ast_printed_grammar within
fits = value_of (fitting ast_grammar (choice_of AST_CHOICE) 100 ast_printed_grammar within) refl

returns : Returning ast_grammar ast_printed_grammar before whole ast_grammar
returns = value_of (returning ast_grammar ast_printed_grammar before whole 100 ast_grammar) refl

pub printed_sentences : SameSentences ast_printed_grammar 0 ast_grammar 0
printed_sentences = same_sentences ast_printed_grammar ast_grammar 0 0 (choice_of AST_CHOICE) within before whole fits refl returns refl
