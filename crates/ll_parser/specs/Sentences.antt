-- Sentences and faults of a grammar, whatever its actions are: for grammars that have the same sentences.
use Rattle.std.specs.Prelude.{ℕ, ◌+◌, ◌≤◌, List, ◌++◌, take, length}
use Rattle.ll_parser.specs.declared.symbols.Symbol.{Symbol}
use Rattle.ll_parser.specs.Grammar.{Production, Derives, start}

-- Symbols derive tokens, with some events.
pub record Makes (P : List Production) (s : List Symbol) (ts : List ℕ) : Type 0 where
  pub events : List ℕ
  pub runs : Derives P s ts events

-- Some tokens are a sentence: a nonterminal derives them, and the end.
abbrev pub Sentence : List Production → ℕ → List ℕ → Type 0
Sentence P n ts = Makes P (start n) ts

-- Some tokens begin a sentence.
pub record BeginsSentence (P : List Production) (n : ℕ) (ts : List ℕ) : Type 0 where
  pub rest : List ℕ
  pub sentence : Sentence P n (ts ++ rest)

-- The first index such that the tokens up to it begin no sentence.
pub record FirstFault (P : List Production) (n : ℕ) (ts : List ℕ) (i : ℕ) : Type 0 where
  pub inside : i + 1 ≤ length ts
  pub before : BeginsSentence P n (take i ts)
  pub here : BeginsSentence P n (take (i + 1) ts) → ⊥

-- Two grammars have the same sentences.
pub record SameSentences (P : List Production) (n : ℕ) (Q : List Production) (m : ℕ) : Type 0 where
  pub forth : (ts : List ℕ) → Sentence P n ts → Sentence Q m ts
  pub back : (ts : List ℕ) → Sentence Q m ts → Sentence P n ts
