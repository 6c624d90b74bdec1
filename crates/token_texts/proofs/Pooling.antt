-- The texts of tokens go into a pool: the turns of the loop.
use Rattle.std.proofs.Common.{◌≡◌, ℕ, ◌+◌, ◌<◌, ◌≤◌, List, [], ◌∷◌, ◌++◌, length, map, get_or, drop, Option, refl, sym, ap, subst, ◌∙◌, add-one, append_assoc, arith}
use Rattle.std.proofs.lemmas.List.{append-nil, drop_all, get_or-map, length-map}
use Rattle.std.proofs.Math.Seq.{drop-cons}
use Rattle.broken_rules.proofs.Noting.{notes_none, notes_then}
use Rattle.broken_rules.specs.Notes.{Notes}
use Rattle.broken_rules.specs.declared.broken.Broken.{Broken}
use Rattle.broken_rules.specs.declared.rule.Rule.{Rule}
use Rattle.rag_io.specs.Tokens.{Lexed, seen_token, seen_tokens}
use Rattle.rag_io.specs.declared.token.Token as kept_token
use Rattle.token_texts.specs.Texts.{Extends, pooled_by_kind, pooled_texts, text_broken, text_code, texts_broken}
use Rattle.token_texts.proofs.Pooled.{code_stays, extends_none, extends_then}

-- the code of each token, in the pool as it is behind that token
abbrev codes_behind : List (List ℕ) → List Lexed → List ℕ
codes_behind pool [] = []
codes_behind pool (t ∷ ts) = text_code (pooled_by_kind pool t.kind t.text) t ∷ codes_behind (pooled_by_kind pool t.kind t.text) ts

-- those are the codes in the pool at the end
codes_at_end : (pool : List (List ℕ)) (ts : List Lexed) → codes_behind pool ts ≡ map (text_code (pooled_texts pool ts)) ts
codes_at_end pool [] = refl
codes_at_end pool (t ∷ ts) = (λ i. code_stays t.kind t.text pool ts i ∷ codes_at_end (pooled_by_kind pool t.kind t.text) ts i)

-- What was pooled so far of the texts of some tokens, what was noted and which codes there are, with the tokens that are left.
pub record PoolsOn (rule : Rule) (first : List (List ℕ)) (noted : Option Broken) (ts : List Lexed) (pool : List (List ℕ)) (broken : Option Broken)
    (codes : List ℕ) (rest : List Lexed) : Type 0 where
  pub pools : pooled_texts first ts ≡ pooled_texts pool rest
  pub codes_are : codes_behind first ts ≡ codes ++ codes_behind pool rest
  pub notes : (new : Option Broken) → Notes (texts_broken rule pool rest) broken new → Notes (texts_broken rule first ts) noted new
  pub extends : Extends first pool

-- before the first
pub pools_none : (rule : Rule) (pool : List (List ℕ)) (broken : Option Broken) (ts : List Lexed) → PoolsOn rule pool broken ts pool broken [] ts
pools_none rule pool broken ts = record { pools = refl; codes_are = refl; notes = λ new notes. notes; extends = extends_none pool }

-- one further
pub pools_more : {rule : Rule} {first pool more : List (List ℕ)} {noted broken later : Option Broken} {ts rest left : List Lexed} {codes new : List ℕ}
    (t : Lexed) (code : ℕ) → PoolsOn rule first noted ts pool broken codes rest → rest ≡ t ∷ left → code ≡ text_code more t
    → more ≡ pooled_by_kind pool t.kind t.text → Notes (text_broken rule pool t.kind t.text t.place) broken later → Extends pool more → new ≡ codes ++ code ∷ []
    → PoolsOn rule first noted ts more later new left
pools_more {rule} {first} {pool} {more} {noted} {broken} {later} {ts} {rest} {left} {codes} {new} t code so_far begins is pooling noting extending pushed =
    let next = pooled_by_kind pool t.kind t.text in
    let here : code ≡ text_code next t = is ∙ ap (λ p. text_code p t) pooling in
    let behind : codes ++ codes_behind pool (t ∷ left) ≡ new ++ codes_behind more left =
    ap (λ c. codes ++ (c ∷ codes_behind next left)) (sym here) ∙ ap (λ p. codes ++ (code ∷ codes_behind p left)) (sym pooling)
    ∙ sym (append_assoc codes (code ∷ []) (codes_behind more left)) ∙ ap (λ cs. cs ++ codes_behind more left) (sym pushed) in
    record {
      pools = so_far.pools ∙ ap (pooled_texts pool) begins ∙ ap (λ p. pooled_texts p left) (sym pooling);
      codes_are = so_far.codes_are ∙ ap (λ us. codes ++ codes_behind pool us) begins ∙ behind;
      notes = λ last notes.
          let whole : Notes (texts_broken rule pool (t ∷ left)) broken last =
          notes_then noting (subst (λ p. Notes (texts_broken rule p left) later last) pooling notes) in
          so_far.notes last (subst (λ us. Notes (texts_broken rule pool us) broken last) (sym begins) whole);
      extends = extends_then so_far.extends extending;
    }

-- behind the last all codes are there
pub pools_codes : {rule : Rule} {first pool : List (List ℕ)} {noted broken : Option Broken} {ts : List Lexed} {codes : List ℕ}
    → PoolsOn rule first noted ts pool broken codes [] → codes ≡ map (text_code pool) ts
pools_codes {first} {ts = ts} {codes} all =
    sym (append-nil codes) ∙ sym all.codes_are ∙ codes_at_end first ts ∙ ap (λ p. map (text_code p) ts) all.pools

-- behind the last all was noted
pub pools_noted : {rule : Rule} {first pool : List (List ℕ)} {noted broken : Option Broken} {ts : List Lexed} {codes : List ℕ}
    → PoolsOn rule first noted ts pool broken codes [] → Notes (texts_broken rule first ts) noted broken
pools_noted {broken = broken} all = all.notes broken notes_none

-- the tokens that are left at one of them
left_at : (tokens : List kept_token.Token) (i : ℕ) (d : kept_token.Token) → i < length tokens
    → drop i (seen_tokens tokens) ≡ seen_token (get_or tokens i d) ∷ drop (i + 1) (seen_tokens tokens)
left_at tokens i d lt =
    drop-cons (seen_tokens tokens) i (seen_token d) (omega (arith, lt, length-map tokens seen_token))
    ∙ (λ j. get_or-map seen_token tokens i d (seen_token d) lt j ∷ drop (sym (add-one i) j) (seen_tokens tokens))

-- the turn of the loop at one of them
pub pools_turn : {rule : Rule} {first pool more : List (List ℕ)} {noted broken later : Option Broken} {ts : List Lexed} {codes new : List ℕ}
    (tokens : List kept_token.Token) (i : ℕ) (d : kept_token.Token) (code : ℕ)
    → i < length tokens → PoolsOn rule first noted ts pool broken codes (drop i (seen_tokens tokens)) → code ≡ text_code more (seen_token (get_or tokens i d))
    → more ≡ pooled_by_kind pool (seen_token (get_or tokens i d)).kind (seen_token (get_or tokens i d)).text
    → Notes (text_broken rule pool (seen_token (get_or tokens i d)).kind (seen_token (get_or tokens i d)).text (seen_token (get_or tokens i d)).place)
    broken later
    → Extends pool more → new ≡ codes ++ code ∷ [] → PoolsOn rule first noted ts more later new (drop (i + 1) (seen_tokens tokens))
pools_turn tokens i d code lt so_far is pooling noting extending pushed =
    pools_more (seen_token (get_or tokens i d)) code so_far (left_at tokens i d lt) is pooling noting extending pushed

-- behind the last of them none is left
pub none_left : {rule : Rule} {first pool : List (List ℕ)} {noted broken : Option Broken} {ts : List Lexed} {codes : List ℕ}
    (tokens : List kept_token.Token) (i : ℕ) → length tokens ≤ i → PoolsOn rule first noted ts pool broken codes (drop i (seen_tokens tokens))
    → PoolsOn rule first noted ts pool broken codes []
none_left {rule} {first} {pool} {noted} {broken} {ts} {codes} tokens i le so_far =
    subst (λ rest. PoolsOn rule first noted ts pool broken codes rest)
    (drop_all i (seen_tokens tokens) (omega (arith, le, length-map tokens seen_token))) so_far
