-- What the bytes of a tree file say.
use Rattle.std.specs.Prelude.{◌≡◌, ℕ, List, Result, Ok, Err}
use Rattle.broken_rules.specs.declared.broken.Broken.{Broken}
use Rattle.broken_rules.specs.declared.broken.ReadFault.{ReadFault}
use Rattle.broken_rules.specs.declared.broken.ReadFault.TheVariants as faults
use Rattle.broken_rules.specs.declared.rule.Rule.TheVariants.{N1}
use Rattle.rag_io.specs.Tokens.{Lexed, IsTokens, first_place}
use Rattle.sentences.specs.Scanning.{IsBadPlace}
use Rattle.ast_grammar.specs.Grammar.{Class}
use Rattle.tree_arena.specs.Nodes.{Node}
use Rattle.token_texts.specs.Texts.{pooled_texts}
use Rattle.tree_reader.specs.Reading.{IsFirstBroken, SaysTree}

-- The bytes of a tree file say this tree of a grammar. A pool holds some texts before it is read, and these then.
pub record ReadsTree (g : List Class) (before : List (List ℕ)) (bytes : List ℕ) (tree : List Node) (texts : List (List ℕ)) : Type 0 where
  pub tokens : List Lexed
  pub scanned : IsTokens first_place bytes tokens
  pub says : SaysTree g before tokens tree
  pub pooled : texts ≡ pooled_texts before tokens

-- This is the first rule that the bytes of a tree file break over a grammar: N1 at a bad place, or else what the tokens break.
pub data BreaksTree (g : List Class) (before : List (List ℕ)) (bytes : List ℕ) (b : Broken) : Type 0 where
  bad_place : IsBadPlace bytes N1 b → BreaksTree g before bytes b
  by_tokens : {tokens : List Lexed} → IsTokens first_place bytes tokens → IsFirstBroken g before tokens b → BreaksTree g before bytes b

-- The tree that the bytes say over the texts of a pool, with those that it then holds, or the first rule that they break.
abbrev pub AnswersTree : List Class → List (List ℕ) → List ℕ → List (List ℕ) → Result (List Node) ReadFault → Type 0
AnswersTree g before bytes texts (Ok tree) = ReadsTree g before bytes tree texts
AnswersTree g before bytes texts (Err (faults.Broken b)) = BreaksTree g before bytes b
AnswersTree g before bytes texts (Err faults.Memory) = Unit {0}
