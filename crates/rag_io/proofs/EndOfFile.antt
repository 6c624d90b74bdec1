-- The last token of a file is its end, in any numbering of tokens that gives the end the number 0.
use Rattle.std.proofs.Common.{◌≡◌, ℕ, suc, ◌-◌, ◌<◌, List, [], ◌∷◌, length, map, get_or, refl, ap, ◌∙◌, arith}
use Rattle.rag_io.specs.declared.token.TokenKind.TheVariants.{End}
use Rattle.rag_io.specs.declared.token.Place.{Place}
use Rattle.rag_io.specs.Tokens.{Lexed, IsTokens, AreTokens, at_end, blank, token}

-- the last token is the end of the file
pub data EndsFile : List Lexed → Type 0 where
  final : {t : Lexed} → t.kind ≡ End → EndsFile (t ∷ [])
  further : {t : Lexed} {ts : List Lexed} → EndsFile ts → EndsFile (t ∷ ts)

-- what is scanned ends with the end of the file
scanned_ends : {p : Place} {bytes : List ℕ} {ts : List Lexed} → IsTokens p bytes ts → EndsFile ts
scanned_ends (at_end e) = final refl
scanned_ends (blank front rest e is h) = scanned_ends h
scanned_ends (token k front rest e is h) = further (scanned_ends h)

-- the tokens of a file end with its end
pub ends_file : {ts : List Lexed} → AreTokens ts → EndsFile ts
ends_file a = scanned_ends a.scanned

module _ (code : Lexed → ℕ) (zero_at_end : (t : Lexed) → t.kind ≡ End → code t ≡ 0) where
  -- there is a token
  pub some_tokens : {ts : List Lexed} (cs : List ℕ) → cs ≡ map code ts → EndsFile ts → 0 < length cs
  some_tokens cs e (final k) = let n = ap length e in omega arith
  some_tokens cs e (further h) = let n = ap length e in omega arith

  -- the last number is that of the end
  last_class : {ts : List Lexed} → EndsFile ts → get_or (map code ts) (length (map code ts) - 1) 1 ≡ 0
  last_class (final {t} k) = zero_at_end t k
  last_class (further {t} {ts} h) = one_on (code t) (map code ts) (some_tokens (map code ts) refl h) ∙ last_class h
    where
      one_on : (c : ℕ) (cs : List ℕ) → 0 < length cs → get_or (c ∷ cs) (length (c ∷ cs) - 1) 1 ≡ get_or cs (length cs - 1) 1
      one_on c [] h = absurd (omega arith)
      one_on c (x ∷ cs) h = let e : length (c ∷ x ∷ cs) - 1 ≡ suc (length (x ∷ cs) - 1) = omega arith in ap (λ k. get_or (c ∷ x ∷ cs) k 1) e

  -- the same of any list that is equal to that of the numbers
  pub ends_at : {ts : List Lexed} (cs : List ℕ) → cs ≡ map code ts → EndsFile ts → get_or cs (length cs - 1) 1 ≡ 0
  ends_at cs e h = ap (λ z. get_or z (length z - 1) 1) e ∙ last_class h
