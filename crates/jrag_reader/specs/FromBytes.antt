-- What the bytes of a `.jrag` file say.
use Rattle.std.specs.Prelude.{◌≡◌, ℕ, List, Result, Ok, Err}
use Rattle.broken_rules.specs.declared.broken.Broken.{Broken}
use Rattle.broken_rules.specs.declared.broken.ReadFault.{ReadFault}
use Rattle.broken_rules.specs.declared.broken.ReadFault.TheVariants as faults
use Rattle.broken_rules.specs.declared.rule.Rule.TheVariants.{J1}
use Rattle.rag_io.specs.Tokens.{Lexed, IsTokens, first_place}
use Rattle.sentences.specs.Scanning.{IsBadPlace}
use Rattle.token_texts.specs.Texts.{pooled_texts}
use Rattle.jrag_syntax.specs.declared.classes.Start.TheVariants.{File}
use Rattle.aspect_items.specs.declared.aspects.Aspects as kept
use Rattle.aspect_items.specs.Items.{Item, seen_aspects}
use Rattle.jrag_reader.specs.Reading.{IsFirstBroken, SaysItems}

-- The bytes of a `.jrag` file say these aspects, over the texts that a pool holds; it then holds those that are pooled.
pub record ReadsAspects (texts : List (List ℕ)) (bytes : List ℕ) (aspects : List Item) (pooled : List (List ℕ)) : Type 0 where
  pub tokens : List Lexed
  pub scanned : IsTokens first_place bytes tokens
  pub says : SaysItems texts tokens aspects
  pub are_pooled : pooled ≡ pooled_texts texts tokens

-- This is the first rule that the bytes of a `.jrag` file break: J1 at a bad place, or else what the tokens break.
pub data BreaksAspects (texts : List (List ℕ)) (bytes : List ℕ) (b : Broken) : Type 0 where
  bad_place : IsBadPlace bytes J1 b → BreaksAspects texts bytes b
  by_tokens : {tokens : List Lexed} → IsTokens first_place bytes tokens → IsFirstBroken File texts tokens b → BreaksAspects texts bytes b

-- The aspects that the bytes say over the texts of a pool, with those that it then holds, or the first rule that they break.
abbrev pub AnswersAspects : List (List ℕ) → List ℕ → List (List ℕ) → Result kept.Aspects ReadFault → Type 0
AnswersAspects before bytes texts (Ok aspects) = ReadsAspects before bytes (seen_aspects aspects) texts
AnswersAspects before bytes texts (Err (faults.Broken b)) = BreaksAspects before bytes b
AnswersAspects before bytes texts (Err faults.Memory) = Unit {0}
