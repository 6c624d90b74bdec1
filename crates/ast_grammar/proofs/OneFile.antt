-- The bytes of a file say one grammar or have one first broken rule, and not both.
use Rattle.std.proofs.Common.{◌≡◌, ℕ, List, Result, Ok, Err, subst}
use Rattle.broken_rules.specs.declared.broken.Broken.{Broken}
use Rattle.broken_rules.specs.declared.broken.ReadFault.{ReadFault}
use Rattle.broken_rules.specs.declared.broken.ReadFault.TheVariants as faults
use Rattle.rag_io.specs.Tokens.{Lexed, IsTokens, first_place}
use Rattle.rag_io.proofs.Readings.{one_list}
use Rattle.sentences.proofs.BadPlaces.{one_bad_place, tokens_or_bad}
use Rattle.ast_grammar.specs.FromBytes.{AnswersGrammar, BreaksGrammar, ReadsGrammar, bad_place, by_tokens}
use Rattle.ast_grammar.specs.Grammar.{Class}
use Rattle.ast_grammar.specs.Reading.{IsFirstBroken, ReadsAst, SaysGrammar}
use Rattle.ast_grammar.proofs.OneGrammar.{one_broken, one_said_grammar, said_or_broken}

-- what the tokens of some bytes say or don't, the bytes do or don't
pub answers_by_tokens : {bytes : List ℕ} {ts : List Lexed} → IsTokens first_place bytes ts → (r : Result (List Class) ReadFault) → ReadsAst ts r → AnswersGrammar bytes r
answers_by_tokens {ts = ts} scanned (Ok g) says = record { tokens = ts; scanned = scanned; says = says }
answers_by_tokens scanned (Err (faults.Broken b)) broken = by_tokens scanned broken
answers_by_tokens scanned (Err faults.Memory) none = tt

module _ {bytes : List ℕ} where
  pub same_grammar : {g h : List Class} → ReadsGrammar bytes g → ReadsGrammar bytes h → g ≡ h
  same_grammar {g} {h} a b = one_said_grammar a.tokens g h a.says (subst (λ (ts : List Lexed). SaysGrammar ts h) (one_list b.scanned a.scanned) b.says)

  pub same_broken : {b c : Broken} → BreaksGrammar bytes b → BreaksGrammar bytes c → b ≡ c
  same_broken (bad_place a) (bad_place b) = one_bad_place a b
  same_broken (bad_place a) (by_tokens s b) = absurd (tokens_or_bad s a)
  same_broken (by_tokens s a) (bad_place b) = absurd (tokens_or_bad s b)
  same_broken {b} {c} (by_tokens {tokens = ts} s a) (by_tokens t d) = one_broken ts b c a (subst (λ (us : List Lexed). IsFirstBroken us c) (one_list t s) d)

  pub says_or_breaks : {g : List Class} {b : Broken} → ReadsGrammar bytes g → BreaksGrammar bytes b → ⊥
  says_or_breaks a (bad_place b) = tokens_or_bad a.scanned b
  says_or_breaks {g} {b} a (by_tokens s breaks) = said_or_broken a.tokens g b a.says (subst (λ (ts : List Lexed). IsFirstBroken ts b) (one_list s a.scanned) breaks)
