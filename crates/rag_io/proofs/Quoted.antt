-- The texts among tokens have their quotes, and stand for one list of bytes each.
use Rattle.std.proofs.Common.{◌≡◌, ◌≢◌, ℕ, zero, suc, List, [], ◌∷◌, true, slice_get, option_map, Some, refl, ap, subst, ◌∙◌, arith}
use Rattle.std.proofs.lemmas.Option.{slice_get-map}
use Rattle.std.proofs.lemmas.Bool.Decides.{nat_tests}
use Rattle.rag_io.specs.declared.token.Place.{Place}
use Rattle.rag_io.specs.declared.token.TokenKind.{TokenKind}
use Rattle.rag_io.specs.declared.token.TokenKind.TheVariants.{Text}
use Rattle.rag_io.specs.Lexemes.{quote, backslash, is_plain, TextBody, IsToken, name, int, text, symbol}
use Rattle.rag_io.specs.Lexemes as lexemes
use Rattle.rag_io.specs.Tokens.{Lexed, IsTokens, at_end, blank, token, AreTokens, seen_token, seen_tokens}
use Rattle.rag_io.specs.declared.token.Token as kept_token
use Rattle.rag_io.specs.Unquoted.{IsQuoted, quoted, unescaped, BodyStandsFor, closed, plain, escape, StandsFor, unquoted}

-- a token that is a text
pub quoted_token : {kind : TokenKind} {front rest : List ℕ} → kind ≡ Text → IsToken kind front rest → IsQuoted front
quoted_token is (name b more rest begins goes stops) = cc
quoted_token is (int b more rest begins goes stops) = cc
quoted_token is (text body rest left) = quoted left
quoted_token is (symbol sign rest among longest no_line no_block) = cc

-- a text among the tokens from a place on
quoted_among : {p : Place} {bytes : List ℕ} {ts : List Lexed} → IsTokens p bytes ts → (i : ℕ) (t : Lexed) → slice_get ts i ≡ Some t → t.kind ≡ Text → IsQuoted t.text
quoted_among (at_end ends) zero t at is = cc
quoted_among (at_end ends) (suc i) t at is = cc
quoted_among (blank front rest splits here more) i t at is = quoted_among more i t at is
quoted_among {p} (token kind front rest splits here more) zero t at is =
    let same : record { kind = kind; text = front; place = p } ≡ t = cc in
    subst IsQuoted (ap (λ (x : Lexed). x.text) same) (quoted_token (ap (λ (x : Lexed). x.kind) same ∙ is) here)
quoted_among (token kind front rest splits here more) (suc i) t at is = quoted_among more i t at is

-- a text among tokens
pub quoted_text : {ts : List Lexed} (i : ℕ) (t : Lexed) → AreTokens ts → slice_get ts i ≡ Some t → t.kind ≡ Text → IsQuoted t.text
quoted_text i t are at is = quoted_among are.scanned i t at is

-- a plain byte is neither a quote nor a backslash
plain_alone : (b : ℕ) → is_plain b ≡ true → (b ≢ quote) × (b ≢ backslash)
plain_alone b is = (grind (arith, nat_tests), grind (arith, nat_tests))

-- a body stands for one list of bytes
one_body : {body bytes other : List ℕ} → BodyStandsFor body bytes → BodyStandsFor body other → bytes ≡ other
one_body closed closed = refl
one_body closed (plain b is more) = absurd ((plain_alone b is).0 refl)
one_body (plain b is more) closed = absurd ((plain_alone b is).0 refl)
one_body (plain b is more) (plain b' is' more') = ap (λ (bytes : List ℕ). b ∷ bytes) (one_body more more')
one_body (plain b is more) (escape b' is' more') = absurd ((plain_alone b is).1 refl)
one_body (escape b is more) (plain b' is' more') = absurd ((plain_alone b' is').1 refl)
one_body (escape b is more) (escape b' is' more') = ap (λ (bytes : List ℕ). unescaped b ∷ bytes) (one_body more more')

-- so does a text
pub one_text : {text bytes other : List ℕ} → StandsFor text bytes → StandsFor text other → bytes ≡ other
one_text (unquoted a) (unquoted b) = one_body a b

-- each body stands for some bytes
some_body : {body : List ℕ} → TextBody body → (bytes : List ℕ) × BodyStandsFor body bytes
some_body lexemes.closed = ([], closed)
some_body (lexemes.plain b is more) = let rest = some_body more in (b ∷ rest.0, plain b is rest.1)
some_body (lexemes.escape b is more) = let rest = some_body more in (unescaped b ∷ rest.0, escape b is rest.1)

-- so does each text
pub some_text : {text : List ℕ} → IsQuoted text → (bytes : List ℕ) × StandsFor text bytes
some_text (quoted left) = let body = some_body left in (body.0, unquoted body.1)

-- a text among tokens in memory
pub quoted_at : (tokens : List kept_token.Token) (i : ℕ) (t : kept_token.Token) → AreTokens (seen_tokens tokens) → slice_get tokens i ≡ Some t → t.kind ≡ Text → IsQuoted t.text.now
quoted_at tokens i t are at is = quoted_text i (seen_token t) are (slice_get-map seen_token tokens i ∙ ap (option_map seen_token) at) is
