-- The grammar that people read and the one of the table have the same sentences: a computation.
use Rattle.std.proofs.Common.{ℕ, List, [], ◌∷◌, refl}
use Rattle.ll_parser.specs.declared.symbols.Symbol.{Symbol}
use Rattle.ll_parser.specs.declared.symbols.Symbol.TheVariants.{Terminal, Nonterminal}
use Rattle.ll_parser.specs.Sentences.{SameSentences}
use Rattle.ll_parser.specs.Stack.{choice_of}
use Rattle.ll_parser.specs.Table.{entry}
use Rattle.ll_parser.proofs.Including.{Fitting, fitting}
use Rattle.ll_parser.proofs.Returning.{Returning, returning}
use Rattle.ll_parser.proofs.Sentences.{same_sentences, value_of}
use Rattle.tree_syntax.specs.TreeGrammar.{tree_grammar}
use Rattle.tree_syntax.specs.TreePrintedGrammar.{tree_printed_grammar}
use Rattle.tree_syntax.specs.declared.tree_table.TheConstants.{TREE_CHOICE}

-- what each nonterminal of the printed grammar is in that of the table
abbrev within : ℕ → List Symbol
within n = entry [] ((Nonterminal 0 ∷ []) ∷ (Nonterminal 1 ∷ []) ∷ (Nonterminal 2 ∷ []) ∷ (Nonterminal 3 ∷ []) ∷ (Nonterminal 4 ∷ []) ∷ (Nonterminal 5 ∷ []) ∷ (Nonterminal 8 ∷ []) ∷ (Nonterminal 9 ∷ []) ∷ []) n

-- what stands before each nonterminal of the table
abbrev before : ℕ → List Symbol
before n = entry [] ([] ∷ [] ∷ [] ∷ [] ∷ [] ∷ [] ∷ (Terminal 2 ∷ []) ∷ (Terminal 3 ∷ []) ∷ [] ∷ [] ∷ []) n

-- and what it completes
abbrev whole : ℕ → List Symbol
whole n = entry [] ((Nonterminal 0 ∷ []) ∷ (Nonterminal 1 ∷ []) ∷ (Nonterminal 2 ∷ []) ∷ (Nonterminal 3 ∷ []) ∷ (Nonterminal 4 ∷ []) ∷ (Nonterminal 5 ∷ []) ∷ (Nonterminal 5 ∷ []) ∷ (Nonterminal 5 ∷ []) ∷ (Nonterminal 6 ∷ []) ∷ (Nonterminal 7 ∷ []) ∷ []) n

fits : Fitting tree_grammar (choice_of TREE_CHOICE) tree_printed_grammar within
fits = value_of (fitting tree_grammar (choice_of TREE_CHOICE) 100 tree_printed_grammar within) refl

returns : Returning tree_grammar tree_printed_grammar before whole tree_grammar
returns = value_of (returning tree_grammar tree_printed_grammar before whole 100 tree_grammar) refl

pub printed_sentences : SameSentences tree_printed_grammar 0 tree_grammar 0
printed_sentences = same_sentences tree_printed_grammar tree_grammar 0 0 (choice_of TREE_CHOICE) within before whole fits refl returns refl
