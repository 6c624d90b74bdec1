-- Over a pool of texts, the bytes of a file say one list of items or have one first broken rule, and not both.
use Rattle.std.proofs.Common.{◌≡◌, ℕ, List, Result, Ok, Err, IfOk, ap, sym, subst, ◌∙◌}
use Rattle.broken_rules.specs.declared.broken.Broken.{Broken}
use Rattle.broken_rules.specs.declared.broken.ReadFault.{ReadFault}
use Rattle.broken_rules.specs.declared.broken.ReadFault.TheVariants as faults
use Rattle.rag_io.specs.Tokens.{Lexed, IsTokens, first_place}
use Rattle.rag_io.proofs.Readings.{one_list}
use Rattle.sentences.proofs.BadPlaces.{one_bad_place, tokens_or_bad}
use Rattle.token_texts.specs.Texts.{pooled_texts}
use Rattle.jrag_syntax.specs.declared.classes.Start.TheVariants.{File}
use Rattle.aspect_items.specs.declared.aspects.Aspects as kept
use Rattle.jrag_reader.specs.Answers.{AnswersItems}
use Rattle.jrag_reader.specs.FromBytes.{AnswersAspects, BreaksAspects, ReadsAspects, bad_place, by_tokens}
use Rattle.aspect_items.specs.Items.{Item}
use Rattle.jrag_reader.specs.Parts.{Items}
use Rattle.jrag_reader.specs.Reading.{IsFirstBroken, SaysItems}
use Rattle.jrag_reader.proofs.OneReading.{one_broken, one_items, whole_or_broken}

-- what the tokens of some bytes say or don't, the bytes do or don't
pub answers_by_tokens : {bytes : List ℕ} {ts : List Lexed} (texts behind : List (List ℕ)) → IsTokens first_place bytes ts → (r : Result kept.Aspects ReadFault)
    → AnswersItems texts ts r → IfOk r (λ _. behind ≡ pooled_texts texts ts) → AnswersAspects texts bytes behind r
answers_by_tokens {ts = ts} texts behind scanned (Ok aspects) says pooled = record { tokens = ts; scanned = scanned; says = says; are_pooled = pooled }
answers_by_tokens texts behind scanned (Err (faults.Broken b)) broken pooled = by_tokens scanned broken
answers_by_tokens texts behind scanned (Err faults.Memory) none pooled = tt

module _ {bytes : List ℕ} {texts : List (List ℕ)} where
  pub same_aspects : {a b : List Item} {x y : List (List ℕ)} → ReadsAspects texts bytes a x → ReadsAspects texts bytes b y → a ≡ b
  same_aspects {a} {b} r s = one_items texts r.tokens a b r.says (subst (λ (ts : List Lexed). SaysItems texts ts b) (one_list s.scanned r.scanned) s.says)

  pub same_pooled : {a b : List Item} {x y : List (List ℕ)} → ReadsAspects texts bytes a x → ReadsAspects texts bytes b y → x ≡ y
  same_pooled r s = r.are_pooled ∙ ap (pooled_texts texts) (one_list r.scanned s.scanned) ∙ sym s.are_pooled

  pub same_broken : {b c : Broken} → BreaksAspects texts bytes b → BreaksAspects texts bytes c → b ≡ c
  same_broken (bad_place a) (bad_place b) = one_bad_place a b
  same_broken (bad_place a) (by_tokens s b) = absurd (tokens_or_bad s a)
  same_broken (by_tokens s a) (bad_place b) = absurd (tokens_or_bad s b)
  same_broken {b} {c} (by_tokens {tokens = ts} s a) (by_tokens t d) = one_broken File texts ts b c a (subst (λ (us : List Lexed). IsFirstBroken File texts us c) (one_list t s) d)

  pub says_or_breaks : {a : List Item} {x : List (List ℕ)} {b : Broken} → ReadsAspects texts bytes a x → BreaksAspects texts bytes b → ⊥
  says_or_breaks r (bad_place b) = tokens_or_bad r.scanned b
  says_or_breaks {a} {b = b} r (by_tokens s breaks) =
      let there = subst (λ (ts : List Lexed). IsFirstBroken File texts ts b) (one_list s r.scanned) breaks in
      whole_or_broken File texts r.tokens (Items a) b r.says there
