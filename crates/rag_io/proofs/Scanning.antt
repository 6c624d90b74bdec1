-- Steps of the scanner's loops.
use Rattle.std.proofs.Common.{◌≡◌, ℕ, ◌+◌, ◌<◌, List, [], ◌∷◌, ◌++◌, length, get_or, take, drop, add-one, refl, ap, sym, subst, ◌∙◌, append_assoc}
use Rattle.std.proofs.Math.Seq.{drop-cons}
use Rattle.std.proofs.lemmas.List.{map_push, take-append-drop}
use Rattle.rag_io.specs.declared.token.Place.{Place}
use Rattle.rag_io.specs.declared.token.TokenKind.{TokenKind}
use Rattle.rag_io.specs.declared.lexeme.Lexeme.TheVariants as lexemes
use Rattle.rag_io.specs.declared.token.Token as kept_token
use Rattle.rag_io.specs.declared.token.TokenKind.TheVariants.{End}
use Rattle.rag_io.specs.Lexemes.{IsBlank, IsToken}
use Rattle.rag_io.specs.Fronts.{lexeme_of}
use Rattle.rag_io.specs.Tokens.{Lexed, IsTokens, at_end, blank, token, IsFirstBad, here, behind_blank, behind_token, behind, moved, seen_token, seen_tokens}
use Rattle.rag_io.proofs.Lexing.{Fits, fits, lexeme_of-blank, lexeme_of-token}

-- a byte further
pub moved_at : (p : Place) (bytes : List ℕ) (i : ℕ) → i < length bytes → moved p (drop i bytes) ≡ moved (behind p (get_or bytes i 0)) (drop (i + 1) bytes)
unfolding moved
moved_at p bytes i h = rw (add-one i, drop-cons bytes i 0) refl

-- one token at the end
pub seen_last : (old new : List kept_token.Token) (t : kept_token.Token) → new ≡ old ++ t ∷ [] → seen_tokens new ≡ seen_tokens old ++ seen_token t ∷ []
seen_last old new t e = ap seen_tokens e ∙ map_push seen_token old t

-- one token more, and what follows
pub seen_more : (old new : List kept_token.Token) (t : kept_token.Token) (ts : List Lexed) → new ≡ old ++ t ∷ [] → seen_tokens new ++ ts ≡ seen_tokens old ++ (seen_token t ∷ ts)
seen_more old new t ts e =
    ap (λ (xs : List Lexed). xs ++ ts) (seen_last old new t e) ∙ append_assoc (seen_tokens old) (seen_token t ∷ []) ts

-- what `lexeme_of` finds of n bytes, front, and what is after it
module _ (p next : Place) (bytes front after : List ℕ) (n : ℕ) (moves : next ≡ moved p front) (fronts : front ≡ take n bytes) (afters : after ≡ drop n bytes) where
  -- the front and what is after it are the bytes
  whole : bytes ≡ front ++ after
  whole = sym (take-append-drop n bytes) ∙ ap (λ (xs : List ℕ). xs ++ drop n bytes) (sym fronts) ∙ ap (λ (xs : List ℕ). front ++ xs) (sym afters)

  -- what was found as a blank is one
  is_blank : lexeme_of bytes ≡ lexemes.Blank n → IsBlank front after
  is_blank e = rw (fronts, afters) (subst (Fits bytes) e (fits bytes))

  -- what was found as a token is one
  is_token : (kind : TokenKind) → lexeme_of bytes ≡ lexemes.Token kind n → IsToken kind front after
  is_token kind e = rw (fronts, afters) (subst (Fits bytes) e (fits bytes))

  -- the tokens after a blank
  pub over_blank : (ts : List Lexed) → lexeme_of bytes ≡ lexemes.Blank n → IsTokens next after ts → IsTokens p bytes ts
  over_blank ts is more = blank front after whole (is_blank is) (subst (λ (q : Place). IsTokens q after ts) moves more)

  -- a token before those after it
  pub over_token : (kind : TokenKind) (ts : List Lexed) → lexeme_of bytes ≡ lexemes.Token kind n → IsTokens next after ts
      → IsTokens p bytes (record { kind = kind; text = front; place = p } ∷ ts)
  over_token kind ts is more = token kind front after whole (is_token kind is) (subst (λ (q : Place). IsTokens q after ts) moves more)

  -- the first bad place after a blank
  pub bad_over_blank : (q : Place) → lexeme_of bytes ≡ lexemes.Blank n → IsFirstBad next after q → IsFirstBad p bytes q
  bad_over_blank q is more = behind_blank front after whole (is_blank is) (subst (λ (r : Place). IsFirstBad r after q) moves more)

  -- the first bad place after a token
  pub bad_over_token : (kind : TokenKind) (q : Place) → lexeme_of bytes ≡ lexemes.Token kind n → IsFirstBad next after q → IsFirstBad p bytes q
  bad_over_token kind q is more = behind_token kind front after whole (is_token kind is) (subst (λ (r : Place). IsFirstBad r after q) moves more)

-- no bytes are left
pub all_read : (p : Place) (bytes : List ℕ) → lexeme_of bytes ≡ lexemes.Nothing → IsTokens p bytes (record { kind = End; text = []; place = p } ∷ [])
all_read p bytes e = at_end (subst (Fits bytes) e (fits bytes))

-- neither a blank nor a token is left at the front
pub bad_here : (p : Place) (bytes : List ℕ) → lexeme_of bytes ≡ lexemes.Bad → IsFirstBad p bytes p
bad_here p bytes e = here (subst (Fits bytes) e (fits bytes))
    (λ front rest splits is. let found : lexemes.Bad ≡ lexemes.Blank (length front) = sym e ∙ ap lexeme_of splits ∙ lexeme_of-blank is in cc)
    (λ kind front rest splits is. let found : lexemes.Bad ≡ lexemes.Token kind (length front) = sym e ∙ ap lexeme_of splits ∙ lexeme_of-token is in cc)
