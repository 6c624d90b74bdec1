-- Single tokens at the front of some bytes.
use Rattle.std.proofs.Common.{◌≡◌, ℕ, ◌≤◌, List, [], ◌∷◌, ◌++◌, length, codes, Bool, true, false, not, ◌||◌, ◌==◌, nat_le, Contains, refl, sym, ap, subst, ◌∙◌, arith}
use Rattle.std.specs.List.{flat_map, list_all}
use Rattle.std.proofs.lemmas.Bool.{leb-true, not-true, not_from_false, or_parts, eq-eqb, both_ways}
use Rattle.rag_io.specs.declared.token.Place.{Place}
use Rattle.rag_io.specs.declared.token.TokenKind.TheVariants as kinds
use Rattle.rag_io.specs.Quoting.{escaped, quoted}
use Rattle.rag_io.specs.Lexemes.{quote, IsToken, name, int, text, symbol, Stops, BeginsWith, symbols, is_digit, begins_name, goes_on_name}
use Rattle.rag_io.specs.Fronts.{begins}
use Rattle.rag_io.specs.Tokens.{moved, behind}
use Rattle.rag_io.proofs.Signs.{passes_among}
use Rattle.rag_io.specs.Words.{IsWord}
use Rattle.tree_writer.specs.Again.{IsWritable}
use Rattle.tree_writer.proofs.Integers.{WritesNumber}
use Rattle.tree_writer.proofs.Texts.{printed_body}

-- the place behind two pieces
pub moved-append : (p : Place) (front rest : List ℕ) → moved p (front ++ rest) ≡ moved (moved p front) rest
unfolding moved
moved-append p [] rest = refl
moved-append p (b ∷ front) rest = moved-append (behind p b) front rest

-- a sign of the table that begins with this byte is the byte alone
abbrev alone : ℕ → List ℕ → Bool
alone b sign = not (begins b sign) || nat_le (length sign) 1

module _ (b : ℕ) (in_table : Contains symbols (b ∷ [])) (only : list_all (alone b) symbols ≡ true) (no_slash : (b == 47) ≡ false) where
  -- no longer sign begins with the byte
  longest : (rest other : List ℕ) → Contains symbols other → BeginsWith (b ∷ rest) other → length other ≤ 1
  longest rest [] among is = omega arith
  longest rest (x ∷ other) among is =
      let same : x ≡ b = let e : b ∷ rest ≡ x ∷ (other ++ is.0) = is.1 in cc in
      let passes : alone b (x ∷ other) ≡ true = passes_among (alone b) symbols (x ∷ other) only among in
      leb-true (length (x ∷ other)) 1 (ap (λ (t : Bool). not t || nat_le (length (x ∷ other)) 1) (sym (eq-eqb x b same)) ∙ passes)

  -- the byte begins no comment
  no_comment : (rest : List ℕ) (second : ℕ) → BeginsWith (b ∷ rest) (47 ∷ second ∷ []) → ⊥
  no_comment rest second is = let same : b ≡ 47 = let e : b ∷ rest ≡ 47 ∷ (second ∷ is.0) = is.1 in cc in both_ways (b == 47) no_slash (eq-eqb b 47 same)

  -- the sign is a token
  pub lone_token : (rest : List ℕ) → IsToken kinds.Symbol (b ∷ []) rest
  lone_token rest = symbol (b ∷ []) rest in_table (longest rest) (no_comment rest 47) (no_comment rest 42)

-- the signs that stand in trees
pub opening : (rest : List ℕ) → IsToken kinds.Symbol (codes "(") rest
opening = lone_token 40 (11, omega arith, refl) refl refl

pub closing : (rest : List ℕ) → IsToken kinds.Symbol (codes ")") rest
closing = lone_token 41 (12, omega arith, refl) refl refl

pub opening_bracket : (rest : List ℕ) → IsToken kinds.Symbol (codes "[") rest
opening_bracket = lone_token 91 (13, omega arith, refl) refl refl

pub closing_bracket : (rest : List ℕ) → IsToken kinds.Symbol (codes "]") rest
closing_bracket = lone_token 93 (14, omega arith, refl) refl refl

pub comma_sign : (rest : List ℕ) → IsToken kinds.Symbol (codes ",") rest
comma_sign = lone_token 44 (9, omega arith, refl) refl refl

pub minus : (rest : List ℕ) → IsToken kinds.Symbol (codes "-") rest
minus = lone_token 45 (23, omega arith, refl) refl refl

-- where no name goes on, no integer does
pub stops_digits : (rest : List ℕ) → Stops goes_on_name rest → Stops is_digit rest
stops_digits [] stops = tt
stops_digits (b ∷ rest) stops = not_from_false (is_digit b) (or_parts (begins_name b) (is_digit b) (not-true (goes_on_name b) stops)).1

-- a word is a name
pub word_token : (bytes rest : List ℕ) → IsWord bytes → Stops goes_on_name rest → IsToken kinds.Name bytes rest
word_token bytes rest is stops = subst (λ (front : List ℕ). IsToken kinds.Name front rest) (sym is.are) (name is.first is.more rest is.begins is.goes_on stops)

-- the digits of a number are an integer
pub digits_token : (bytes rest : List ℕ) (n : ℕ) → WritesNumber bytes n → Stops goes_on_name rest → IsToken kinds.Int bytes rest
digits_token bytes rest n is stops = subst (λ (front : List ℕ). IsToken kinds.Int front rest) (sym is.are)
    (int is.first is.more rest is.begins is.goes_on (stops_digits rest stops))

-- a printed text
pub text_token : (bytes rest : List ℕ) → IsWritable bytes → IsToken kinds.Text (quoted bytes) rest
text_token bytes rest is = text (flat_map escaped bytes ++ quote ∷ []) rest (printed_body bytes is)
