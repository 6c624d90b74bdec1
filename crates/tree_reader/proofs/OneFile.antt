-- Over a grammar and a pool of texts, the bytes of a file say one tree or have one first broken rule, and not both.
use Rattle.std.proofs.Common.{◌≡◌, ℕ, List, Result, Ok, Err, IfOk, ap, sym, subst, ◌∙◌}
use Rattle.broken_rules.specs.declared.broken.Broken.{Broken}
use Rattle.broken_rules.specs.declared.broken.ReadFault.{ReadFault}
use Rattle.broken_rules.specs.declared.broken.ReadFault.TheVariants as faults
use Rattle.rag_io.specs.Tokens.{Lexed, IsTokens, first_place}
use Rattle.rag_io.proofs.Readings.{one_list}
use Rattle.sentences.proofs.BadPlaces.{one_bad_place, tokens_or_bad}
use Rattle.ast_grammar.specs.Grammar.{Class}
use Rattle.tree_arena.specs.Nodes.{Node}
use Rattle.token_texts.specs.Texts.{pooled_texts}
use Rattle.tree_reader.specs.FromBytes.{AnswersTree, BreaksTree, ReadsTree, bad_place, by_tokens}
use Rattle.tree_reader.specs.Reading.{IsFirstBroken, SaysTree, ReadsTree as TreeRead}
use Rattle.tree_reader.proofs.OneTree.{one_broken, one_said_tree, said_or_broken}

-- what the tokens of some bytes say or don't, the bytes do or don't
pub answers_by_tokens : {bytes : List ℕ} {ts : List Lexed} (g : List Class) (texts behind : List (List ℕ)) → IsTokens first_place bytes ts → (r : Result (List Node) ReadFault)
    → TreeRead g texts ts r → IfOk r (λ _. behind ≡ pooled_texts texts ts) → AnswersTree g texts bytes behind r
answers_by_tokens {ts = ts} g texts behind scanned (Ok tree) says pooled = record { tokens = ts; scanned = scanned; says = says; pooled = pooled }
answers_by_tokens g texts behind scanned (Err (faults.Broken b)) broken pooled = by_tokens scanned broken
answers_by_tokens g texts behind scanned (Err faults.Memory) none pooled = tt

module _ {bytes : List ℕ} {g : List Class} {texts : List (List ℕ)} where
  pub same_tree : {s t : List Node} {x y : List (List ℕ)} → ReadsTree g texts bytes s x → ReadsTree g texts bytes t y → s ≡ t
  same_tree {s} {t} a b = one_said_tree g texts a.tokens s t a.says (subst (λ (ts : List Lexed). SaysTree g texts ts t) (one_list b.scanned a.scanned) b.says)

  pub same_texts : {s t : List Node} {x y : List (List ℕ)} → ReadsTree g texts bytes s x → ReadsTree g texts bytes t y → x ≡ y
  same_texts a b = a.pooled ∙ ap (pooled_texts texts) (one_list a.scanned b.scanned) ∙ sym b.pooled

  pub same_broken : {b c : Broken} → BreaksTree g texts bytes b → BreaksTree g texts bytes c → b ≡ c
  same_broken (bad_place a) (bad_place b) = one_bad_place a b
  same_broken (bad_place a) (by_tokens s b) = absurd (tokens_or_bad s a)
  same_broken (by_tokens s a) (bad_place b) = absurd (tokens_or_bad s b)
  same_broken {b} {c} (by_tokens {tokens = ts} s a) (by_tokens t d) = one_broken g texts ts b c a (subst (λ (us : List Lexed). IsFirstBroken g texts us c) (one_list t s) d)

  pub says_or_breaks : {t : List Node} {x : List (List ℕ)} {b : Broken} → ReadsTree g texts bytes t x → BreaksTree g texts bytes b → ⊥
  says_or_breaks a (bad_place b) = tokens_or_bad a.scanned b
  says_or_breaks {t} {b = b} a (by_tokens s breaks) =
      said_or_broken g texts a.tokens t b a.says (subst (λ (ts : List Lexed). IsFirstBroken g texts ts b) (one_list s a.scanned) breaks)
