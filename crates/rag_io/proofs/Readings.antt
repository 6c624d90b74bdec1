-- Some bytes have one list of tokens or one first bad place, and not both.
use Rattle.std.proofs.Common.{◌≡◌, ℕ, ◌<◌, List, [], ◌++◌, length, take, drop, refl, ap, sym, ◌∙◌, arith}
use Rattle.std.proofs.Math.Seq.{take-append_seam, drop-append_seam}
use Rattle.rag_io.specs.declared.token.Place.{Place}
use Rattle.rag_io.specs.declared.token.TokenKind.{TokenKind}
use Rattle.rag_io.specs.declared.lexeme.Lexeme.TheVariants as lexemes
use Rattle.rag_io.specs.Lexemes.{IsBlank, IsToken}
use Rattle.rag_io.specs.Fronts.{lexeme_of}
use Rattle.rag_io.specs.Tokens.{Lexed, IsTokens, at_end, blank, token, IsFirstBad, here, behind_blank, behind_token, moved}
use Rattle.rag_io.proofs.Lexing.{lexeme_of-nil, lexeme_of-blank, lexeme_of-token}

-- the front of a list that falls into two parts, at the length of the first
same_front : (xs ys us vs : List ℕ) → xs ++ ys ≡ us ++ vs → length xs ≡ length us → xs ≡ us
same_front xs ys us vs e n = sym (take-append_seam xs ys) ∙ ap (take (length xs)) e ∙ ap (λ (k : ℕ). take k (us ++ vs)) n ∙ take-append_seam us vs

-- and what follows it
same_rest : (xs ys us vs : List ℕ) → xs ++ ys ≡ us ++ vs → length xs ≡ length us → ys ≡ vs
same_rest xs ys us vs e n = sym (drop-append_seam xs ys) ∙ ap (drop (length xs)) e ∙ ap (λ (k : ℕ). drop k (us ++ vs)) n ∙ drop-append_seam us vs

module _ (bytes front rest other behind : List ℕ) (splits : bytes ≡ front ++ rest) (also : bytes ≡ other ++ behind) where
  -- both are the bytes
  whole : front ++ rest ≡ other ++ behind
  whole = sym splits ∙ also

  -- two blanks at one front are one
  same_blank : IsBlank front rest → IsBlank other behind → (front ≡ other) × (rest ≡ behind)
  same_blank a b =
      let e : lexemes.Blank (length front) ≡ lexemes.Blank (length other) = sym (lexeme_of-blank a) ∙ ap lexeme_of whole ∙ lexeme_of-blank b in
      let n : length front ≡ length other = cc in
      (same_front front rest other behind whole n, same_rest front rest other behind whole n)

  -- two tokens at one front are one
  same_token : (k l : TokenKind) → IsToken k front rest → IsToken l other behind → (k ≡ l) × (front ≡ other) × (rest ≡ behind)
  same_token k l a b =
      let e : lexemes.Token k (length front) ≡ lexemes.Token l (length other) = sym (lexeme_of-token a) ∙ ap lexeme_of whole ∙ lexeme_of-token b in
      let kind : k ≡ l = cc in
      let n : length front ≡ length other = cc in
      (kind, same_front front rest other behind whole n, same_rest front rest other behind whole n)

  -- no blank and no token are at one front
  no_blank_and_token : (l : TokenKind) → IsBlank front rest → IsToken l other behind → ⊥
  no_blank_and_token l a b =
      let e : lexemes.Blank (length front) ≡ lexemes.Token l (length other) = sym (lexeme_of-blank a) ∙ ap lexeme_of whole ∙ lexeme_of-token b in
      cc

-- no blank is at the end
no_blank_at_end : (bytes front rest : List ℕ) → bytes ≡ [] → bytes ≡ front ++ rest → IsBlank front rest → ⊥
no_blank_at_end bytes front rest ends splits is =
    let found : lexemes.Nothing ≡ lexemes.Blank (length front) = sym lexeme_of-nil ∙ ap lexeme_of (sym ends ∙ splits) ∙ lexeme_of-blank is in cc

-- no token is at the end
no_token_at_end : (bytes front rest : List ℕ) (kind : TokenKind) → bytes ≡ [] → bytes ≡ front ++ rest → IsToken kind front rest → ⊥
no_token_at_end bytes front rest kind ends splits is =
    let found : lexemes.Nothing ≡ lexemes.Token kind (length front) = sym lexeme_of-nil ∙ ap lexeme_of (sym ends ∙ splits) ∙ lexeme_of-token is in cc

-- bytes that are left aren't none
none_left : (bytes : List ℕ) → bytes ≡ [] → 0 < length bytes → ⊥
none_left bytes ends some = let n : length bytes ≡ 0 = ap length ends in omega arith

module _ (p : Place) (front rest other behind : List ℕ) (fronts : front ≡ other) (rests : rest ≡ behind) where
  -- the tokens behind one front, as those behind an equal one
  tokens_at : (ts : List Lexed) → IsTokens (moved p other) behind ts → IsTokens (moved p front) rest ts
  tokens_at ts more = rw (fronts, rests) more

  -- the same of the first bad place
  bad_at : (q : Place) → IsFirstBad (moved p other) behind q → IsFirstBad (moved p front) rest q
  bad_at q more = rw (fronts, rests) more

-- there is one list of tokens
pub one_list : {p : Place} {bytes : List ℕ} {ts us : List Lexed} → IsTokens p bytes ts → IsTokens p bytes us → ts ≡ us
one_list (at_end a) (at_end b) = refl
one_list (at_end a) (blank other behind also b more) = absurd (no_blank_at_end _ other behind a also b)
one_list (at_end a) (token l other behind also b more) = absurd (no_token_at_end _ other behind l a also b)
one_list (blank front rest splits a this) (at_end b) = absurd (no_blank_at_end _ front rest b splits a)
one_list {p} {bytes} {us = us} (blank front rest splits a this) (blank other behind also b more) =
    let same = same_blank bytes front rest other behind splits also a b in
    one_list this (tokens_at p front rest other behind same.0 same.1 us more)
one_list {p} {bytes} (blank front rest splits a this) (token l other behind also b more) = absurd (no_blank_and_token bytes front rest other behind splits also l a b)
one_list (token k front rest splits a this) (at_end b) = absurd (no_token_at_end _ front rest k b splits a)
one_list {p} {bytes} (token k front rest splits a this) (blank other behind also b more) = absurd (no_blank_and_token bytes other behind front rest also splits k b a)
one_list {p} {bytes} (token {tokens = ts} k front rest splits a this) (token {tokens = us} l other behind also b more) =
    let same = same_token bytes front rest other behind splits also k l a b in
    let rests : ts ≡ us = one_list this (tokens_at p front rest other behind same.1 same.2 us more) in
    cc

-- there is one first bad place
pub one_place : {p q r : Place} {bytes : List ℕ} → IsFirstBad p bytes q → IsFirstBad p bytes r → q ≡ r
one_place (here some no_blank no_token) (here more none nor) = refl
one_place (here some no_blank no_token) (behind_blank other behind also b more) = absurd (no_blank other behind also b)
one_place (here some no_blank no_token) (behind_token l other behind also b more) = absurd (no_token l other behind also b)
one_place (behind_blank front rest splits a this) (here some no_blank no_token) = absurd (no_blank front rest splits a)
one_place {p} {q} {r} {bytes} (behind_blank front rest splits a this) (behind_blank other behind also b more) =
    let same = same_blank bytes front rest other behind splits also a b in
    one_place this (bad_at p front rest other behind same.0 same.1 r more)
one_place {p} {q} {r} {bytes} (behind_blank front rest splits a this) (behind_token l other behind also b more) = absurd (no_blank_and_token bytes front rest other behind splits also l a b)
one_place (behind_token k front rest splits a this) (here some no_blank no_token) = absurd (no_token k front rest splits a)
one_place {p} {q} {r} {bytes} (behind_token k front rest splits a this) (behind_blank other behind also b more) = absurd (no_blank_and_token bytes other behind front rest also splits k b a)
one_place {p} {q} {r} {bytes} (behind_token k front rest splits a this) (behind_token l other behind also b more) =
    let same = same_token bytes front rest other behind splits also k l a b in
    one_place this (bad_at p front rest other behind same.1 same.2 r more)

-- there aren't both
pub not_both : {p q : Place} {bytes : List ℕ} {ts : List Lexed} → IsTokens p bytes ts → IsFirstBad p bytes q → ⊥
not_both (at_end a) (here some no_blank no_token) = none_left _ a some
not_both (at_end a) (behind_blank other behind also b more) = no_blank_at_end _ other behind a also b
not_both (at_end a) (behind_token l other behind also b more) = no_token_at_end _ other behind l a also b
not_both (blank front rest splits a this) (here some no_blank no_token) = no_blank front rest splits a
not_both {p} {q} {bytes} (blank front rest splits a this) (behind_blank other behind also b more) =
    let same = same_blank bytes front rest other behind splits also a b in
    not_both this (bad_at p front rest other behind same.0 same.1 q more)
not_both {p} {q} {bytes} (blank front rest splits a this) (behind_token l other behind also b more) = no_blank_and_token bytes front rest other behind splits also l a b
not_both (token k front rest splits a this) (here some no_blank no_token) = no_token k front rest splits a
not_both {p} {q} {bytes} (token k front rest splits a this) (behind_blank other behind also b more) = no_blank_and_token bytes other behind front rest also splits k b a
not_both {p} {q} {bytes} (token k front rest splits a this) (behind_token l other behind also b more) =
    let same = same_token bytes front rest other behind splits also k l a b in
    not_both this (bad_at p front rest other behind same.1 same.2 q more)
