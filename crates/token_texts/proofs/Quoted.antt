-- The texts among tokens have their quotes.
use Rattle.std.proofs.Common.{◌≡◌, ◌<◌, ℕ, List, length, take, get_or, subst, arith}
use Rattle.std.proofs.lemmas.List.{get_or-map, length-map, take-map}
use Rattle.std.proofs.lemmas.List.Elements.{All-get_or, All-take}
use Rattle.std.proofs.lemmas.Option.{slice_get-get_or}
use Rattle.rag_io.proofs.Quoted.{quoted_text}
use Rattle.rag_io.specs.Tokens.{AreTokens, Lexed, seen_token, seen_tokens}
use Rattle.rag_io.specs.Unquoted.{IsQuoted}
use Rattle.rag_io.specs.declared.token.Token as kept_token
use Rattle.rag_io.specs.declared.token.TokenKind.TheVariants.{Text}
use Rattle.token_texts.specs.Texts.{AllQuoted}

-- a text token has them
abbrev HasQuotes : Lexed → Type 0
HasQuotes t = t.kind ≡ Text → IsQuoted t.text

-- all tokens of a file
pub quoted_tokens : {ts : List Lexed} → AreTokens ts → AllQuoted ts
quoted_tokens {ts} are = λ i t lt. quoted_text i (get_or ts i t) are (slice_get-get_or ts i t lt)

-- the first of some tokens
pub quoted_front : (ts : List Lexed) → AllQuoted ts → (n : ℕ) → AllQuoted (take n ts)
quoted_front ts all n = All-take HasQuotes n ts all

-- the same of tokens in memory
pub quoted_front_seen : (tokens : List kept_token.Token) → AllQuoted (seen_tokens tokens) → (n : ℕ) → AllQuoted (seen_tokens (take n tokens))
quoted_front_seen tokens all n = subst AllQuoted (take-map seen_token n tokens) (quoted_front (seen_tokens tokens) all n)

-- one of some tokens in memory
pub quoted_at : (tokens : List kept_token.Token) (i : ℕ) (d : kept_token.Token) → AllQuoted (seen_tokens tokens) → i < length tokens → (get_or tokens i d).kind ≡ Text
    → IsQuoted (get_or tokens i d).text.now
quoted_at tokens i d all lt =
    subst HasQuotes (get_or-map seen_token tokens i d (seen_token d) lt)
    (All-get_or HasQuotes (seen_tokens tokens) i (seen_token d) (omega (arith, lt, length-map tokens seen_token)) all)
