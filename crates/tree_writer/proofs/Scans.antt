-- Pieces of a text, with the tokens in them, one behind another.
use Rattle.std.proofs.Common.{◌≡◌, ℕ, List, [], ◌∷◌, ◌++◌, codes, refl, sym, subst, append_assoc}
use Rattle.rag_io.specs.declared.token.Place.{Place}
use Rattle.rag_io.specs.declared.token.TokenKind.{TokenKind}
use Rattle.rag_io.specs.Lexemes.{IsToken, white, Stops, goes_on_name}
use Rattle.rag_io.specs.Tokens.{Lexed, IsTokens, blank, token, moved}
use Rattle.tree_writer.specs.Canonical.{further}
use Rattle.tree_writer.proofs.Steps.{moved-append}

-- Some text has these tokens, where neither a name nor an integer goes on behind it.
pub record Scan (p : Place) (text : List ℕ) (tokens : List Lexed → List Lexed) : Type 0 where
  pub scan : (rest : List ℕ) (more : List Lexed) → Stops goes_on_name rest → IsTokens (moved p text) rest more → IsTokens p (text ++ rest) (tokens more)

-- Neither a name nor an integer goes on in this text, unless it goes on behind it.
pub record Follows (text : List ℕ) : Type 0 where
  pub follows : (rest : List ℕ) → Stops goes_on_name rest → Stops goes_on_name (text ++ rest)

-- further arguments begin with a comma
pub follows_further : (texts : List (List ℕ)) → Follows (further texts)
follows_further [] = record { follows = λ rest stops. stops }
follows_further (text ∷ texts) = record { follows = λ rest stops. refl }

-- the same text, told otherwise
pub scan_as : {p : Place} {text other : List ℕ} {tokens : List Lexed → List Lexed} → text ≡ other → Scan p other tokens → Scan p text tokens
scan_as {p} {tokens = tokens} e s = subst (λ (bytes : List ℕ). Scan p bytes tokens) (sym e) s

-- no text has no token
pub scan_nothing : (p : Place) → Scan p [] (λ more. more)
unfolding moved
scan_nothing p = record { scan = λ rest more stops is. is }

-- a piece, and another behind it
pub scan_both : {p : Place} {front text : List ℕ} {first second : List Lexed → List Lexed} → Scan p front first → Follows text → Scan (moved p front) text second
    → Scan p (front ++ text) (λ more. first (second more))
scan_both {p} {front} {text} {first} {second} a f b = record {
  scan = λ rest more stops is.
      subst (λ (bytes : List ℕ). IsTokens p bytes (first (second more))) (sym (append_assoc front text rest))
      (a.scan (text ++ rest) (second more) (f.follows rest stops) (b.scan rest more stops
      (subst (λ (q : Place). IsTokens q rest more) (moved-append p front text) is)));
}

-- a token, and a piece behind it
pub scan_token : {p : Place} {front text : List ℕ} {tokens : List Lexed → List Lexed} (kind : TokenKind)
    → ((rest : List ℕ) → Stops goes_on_name rest → IsToken kind front (text ++ rest))
    → Scan (moved p front) text tokens → Scan p (front ++ text) (λ more. record { kind = kind; text = front; place = p } ∷ tokens more)
scan_token {p} {front} {text} {tokens} kind here behind = record {
  scan = λ rest more stops is.
      token kind front (text ++ rest) (append_assoc front text rest) (here rest stops)
      (behind.scan rest more stops (subst (λ (q : Place). IsTokens q rest more) (moved-append p front text) is));
}

-- a space, and a piece behind it
pub scan_space : {p : Place} {text : List ℕ} {tokens : List Lexed → List Lexed} → Scan (moved p (codes " ")) text tokens → Scan p (codes " " ++ text) tokens
scan_space {p} {text} {tokens} behind = record {
  scan = λ rest more stops is.
      blank (codes " ") (text ++ rest) refl (white 32 (text ++ rest) refl)
      (behind.scan rest more stops (subst (λ (q : Place). IsTokens q rest more) (moved-append p (codes " ") text) is));
}
