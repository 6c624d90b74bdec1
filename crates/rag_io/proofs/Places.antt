-- The places of tokens rise.
use Rattle.std.proofs.Common.{◌≡◌, ℕ, zero, suc, ◌+◌, ◌<◌, ◌==◌, ◌⊎◌, inl, inr, List, [], ◌∷◌, length, Bool, true, false, nat_lt, if◌then◌else◌, Some, slice_get, refl, subst, sym, ap, ◌∙◌, arith}
use Rattle.std.proofs.lemmas.Bool.{ltb-true}
use Rattle.rag_io.specs.declared.token.Place.{Place}
use Rattle.rag_io.specs.declared.token.TokenKind.{TokenKind}
use Rattle.rag_io.specs.declared.token.TokenKind.TheVariants.{End}
use Rattle.rag_io.specs.Lexemes.{IsToken, name, int, text, symbol, symbols}
use Rattle.rag_io.specs.Places.{IsAhead, PlacesRise}
use Rattle.rag_io.specs.Tokens.{Lexed, IsTokens, AreTokens, at_end, blank, token, behind, moved}
use Rattle.rag_io.proofs.Signs.{passes_among}

pub ahead_then : (p q r : Place) → IsAhead p q → IsAhead q r → IsAhead p r
ahead_then p q r (inl a) (inl b) = inl (omega arith)
ahead_then p q r (inl a) (inr b) = let same : q.line ≡ r.line = b.0 in inl (omega arith)
ahead_then p q r (inr a) (inl b) = let same : p.line ≡ q.line = a.0 in inl (omega arith)
ahead_then p q r (inr a) (inr b) =
    let left : p.column < q.column = a.1 in
    let right : q.column < r.column = b.1 in
    inr (a.0 ∙ b.0, omega arith)

-- a byte moves a place ahead
ahead_of_behind : (p : Place) (b : ℕ) → IsAhead p (behind p b)
ahead_of_behind p b = by_test (b == 10)
  where
    by_test : (feeds : Bool) → IsAhead p (if feeds then record { line = p.line + 1; column = 1 } else record { line = p.line; column = p.column + 1 })
    by_test true = inl (omega arith)
    by_test false = inr (refl, omega arith)

-- the second place is the first or one behind it
abbrev IsFrom : Place → Place → Type 0
IsFrom p q = (p ≡ q) ⊎ IsAhead p q

ahead_from : (p q r : Place) → IsAhead p q → IsFrom q r → IsAhead p r
ahead_from p q r a (inl same) = subst (IsAhead p) same a
ahead_from p q r a (inr b) = ahead_then p q r a b

from_then : (p q r : Place) → IsFrom p q → IsFrom q r → IsFrom p r
from_then p q r (inl same) b = subst (λ x. IsFrom x r) (sym same) b
from_then p q r (inr a) b = inr (ahead_from p q r a b)

from_moved : (p : Place) (bytes : List ℕ) → IsFrom p (moved p bytes)
unfolding moved
from_moved p [] = inl refl
from_moved p (b ∷ bytes) = from_then p (behind p b) (moved (behind p b) bytes) (inr (ahead_of_behind p b)) (from_moved (behind p b) bytes)

-- some bytes move a place ahead
ahead_of_moved : (p : Place) (bytes : List ℕ) → 0 < length bytes → IsAhead p (moved p bytes)
unfolding moved
ahead_of_moved p [] some = absurd (omega arith)
ahead_of_moved p (b ∷ bytes) some = ahead_from p (behind p b) (moved (behind p b) bytes) (ahead_of_behind p b) (from_moved (behind p b) bytes)

-- a token has bytes
pub some_bytes : {kind : TokenKind} {front rest : List ℕ} → IsToken kind front rest → 0 < length front
some_bytes (name b more rest begins all stops) = omega arith
some_bytes (int b more rest begins all stops) = omega arith
some_bytes (text body rest is) = omega arith
some_bytes (symbol sign rest listed longest no_line no_block) = ltb-true 0 (length sign) (passes_among (λ s. nat_lt 0 (length s)) symbols sign refl listed)

first_is : (t u : Lexed) (ts : List Lexed) → slice_get (t ∷ ts) 0 ≡ Some u → t.place ≡ u.place
first_is t u ts at = let same : t ≡ u = cc in ap (λ x. x.place) same

-- no token stands before the place from which the tokens are scanned
from_scanned : {p : Place} {bytes : List ℕ} {ts : List Lexed} → IsTokens p bytes ts → (j : ℕ) (u : Lexed) → slice_get ts j ≡ Some u → IsFrom p u.place
from_scanned {p} (at_end e) zero u at = inl (first_is (record { kind = End; text = []; place = p }) u [] at)
from_scanned (at_end e) (suc j) u at = absurd (cc)
from_scanned {p} (blank front rest e is h) j u at = from_then p (moved p front) u.place (from_moved p front) (from_scanned h j u at)
from_scanned {p} (token {tokens = ts} kind front rest e is h) zero u at = inl (first_is (record { kind = kind; text = front; place = p }) u ts at)
from_scanned {p} (token kind front rest e is h) (suc j) u at = from_then p (moved p front) u.place (from_moved p front) (from_scanned h j u at)

scanned_rise : {p : Place} {bytes : List ℕ} {ts : List Lexed} → IsTokens p bytes ts → PlacesRise ts
scanned_rise (at_end e) i zero t u lt here there = absurd (omega arith)
scanned_rise (at_end e) i (suc j) t u lt here there = absurd (cc)
scanned_rise (blank front rest e is h) i j t u lt here there = scanned_rise h i j t u lt here there
scanned_rise (token kind front rest e is h) i zero t u lt here there = absurd (omega arith)
scanned_rise {p} (token {tokens = ts} kind front rest e is h) zero (suc j) t u lt here there =
    subst (λ (x : Place). IsAhead x u.place) (first_is (record { kind = kind; text = front; place = p }) t ts here) (ahead_from p (moved p front) u.place (ahead_of_moved p front (some_bytes is)) (from_scanned h j u there))
scanned_rise (token kind front rest e is h) (suc i) (suc j) t u lt here there = scanned_rise h i j t u (omega arith) here there

-- the places of the tokens of some bytes rise
pub places_rise : {ts : List Lexed} → AreTokens ts → PlacesRise ts
places_rise a = scanned_rise a.scanned
