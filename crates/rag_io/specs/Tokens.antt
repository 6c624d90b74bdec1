-- The tokens of some bytes, and the first place at which none begins.
use Rattle.std.specs.Prelude.{◌≡◌, ℕ, ◌+◌, ◌<◌, ◌==◌, if◌then◌else◌, List, [], ◌∷◌, ◌++◌, length, map, Result, Ok, Err, Vec}
use Rattle.rag_io.specs.declared.token.TokenKind.{TokenKind}
use Rattle.rag_io.specs.declared.token.TokenKind.TheVariants.{End}
use Rattle.rag_io.specs.declared.token.Place.{Place}
use Rattle.rag_io.specs.declared.token.Token as kept_token
use Rattle.rag_io.specs.declared.token.ScanFault.{ScanFault}
use Rattle.rag_io.specs.declared.token.ScanFault.TheVariants.{Bad, Memory}
use Rattle.std.specs.declared.alloc.Global.{Global}
use Rattle.rag_io.specs.Lexemes.{IsBlank, IsToken}

-- a token without where it lies in memory
pub record Lexed : Type 0 where
  pub kind : TokenKind
  pub text : List ℕ
  pub place : Place

-- where each text begins
abbrev pub first_place : Place
first_place = record { line = 1; column = 1 }

-- the place behind a byte
abbrev pub behind : Place → ℕ → Place
behind p b = if b == 10 then record { line = p.line + 1; column = 1 } else record { line = p.line; column = p.column + 1 }

-- the place behind some bytes
unfoldable pub moved : Place → List ℕ → Place
moved p [] = p
moved p (b ∷ bytes) = moved (behind p b) bytes

-- The tokens from a place on. White space and comments stand between them, and `End` behind the last byte.
pub data IsTokens : Place → List ℕ → List Lexed → Type 0 where
  at_end : {p : Place} {bytes : List ℕ} → bytes ≡ [] → IsTokens p bytes (record { kind = End; text = []; place = p } ∷ [])
  blank : {p : Place} {bytes : List ℕ} {tokens : List Lexed} (front rest : List ℕ) → bytes ≡ front ++ rest → IsBlank front rest
      → IsTokens (moved p front) rest tokens → IsTokens p bytes tokens
  token : {p : Place} {bytes : List ℕ} {tokens : List Lexed} (kind : TokenKind) (front rest : List ℕ) → bytes ≡ front ++ rest → IsToken kind front rest
      → IsTokens (moved p front) rest tokens → IsTokens p bytes (record { kind = kind; text = front; place = p } ∷ tokens)

-- From a place on, the first place at which bytes are left and neither white space nor a comment nor a token begins.
pub data IsFirstBad : Place → List ℕ → Place → Type 0 where
  here : {p : Place} {bytes : List ℕ} → 0 < length bytes → ((front rest : List ℕ) → bytes ≡ front ++ rest → ¬ (IsBlank front rest))
      → ((kind : TokenKind) (front rest : List ℕ) → bytes ≡ front ++ rest → ¬ (IsToken kind front rest)) → IsFirstBad p bytes p
  behind_blank : {p q : Place} {bytes : List ℕ} (front rest : List ℕ) → bytes ≡ front ++ rest → IsBlank front rest
      → IsFirstBad (moved p front) rest q → IsFirstBad p bytes q
  behind_token : {p q : Place} {bytes : List ℕ} (kind : TokenKind) (front rest : List ℕ) → bytes ≡ front ++ rest → IsToken kind front rest
      → IsFirstBad (moved p front) rest q → IsFirstBad p bytes q

-- a token as clauses see it
abbrev pub seen_token : kept_token.Token → Lexed
seen_token t = record { kind = t.kind; text = t.text.now; place = record { line = t.line; column = t.column } }

-- each of the tokens
abbrev pub seen_tokens : List kept_token.Token → List Lexed
seen_tokens ts = map seen_token ts

-- what scanning some bytes answers
abbrev pub Scans : List ℕ → Result (Vec kept_token.Token Global) ScanFault → Type 0
Scans bytes (Ok tokens) = IsTokens first_place bytes (seen_tokens tokens.items)
Scans bytes (Err (Bad p)) = IsFirstBad first_place bytes p
Scans bytes (Err Memory) = Unit {0}

-- These are the tokens of some bytes.
pub record AreTokens (ts : List Lexed) : Type 0 where
  pub bytes : List ℕ
  pub scanned : IsTokens first_place bytes ts
