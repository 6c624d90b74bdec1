-- A token that is a name is a word.
use Rattle.std.proofs.Common.{◌≡◌, ℕ, zero, suc, List, [], ◌∷◌, Some, slice_get, refl, ap, ◌∙◌, subst}
use Rattle.rag_io.specs.declared.token.Place.{Place}
use Rattle.rag_io.specs.declared.token.TokenKind.{TokenKind}
use Rattle.rag_io.specs.declared.token.TokenKind.TheVariants.{End, Name}
use Rattle.rag_io.specs.Lexemes.{IsToken, name, int, text, symbol}
use Rattle.rag_io.specs.Tokens.{Lexed, IsTokens, AreTokens, at_end, blank, token}
use Rattle.rag_io.specs.Words.{IsWord}

-- the bytes of a name
word_front : {kind : TokenKind} {front rest : List ℕ} → IsToken kind front rest → kind ≡ Name → IsWord front
word_front (name b more rest begins all stops) e = record { first = b; more = more; are = refl; begins = begins; goes_on = all }
word_front (int b more rest begins all stops) e = absurd (cc)
word_front (text body rest is) e = absurd (cc)
word_front (symbol sign rest listed longest no_line no_block) e = absurd (cc)

-- the first token
first_is : (t u : Lexed) (ts : List Lexed) → slice_get (t ∷ ts) 0 ≡ Some u → t ≡ u
first_is t u ts at = cc

word_scanned : {p : Place} {bytes : List ℕ} {ts : List Lexed} → IsTokens p bytes ts → (i : ℕ) (t : Lexed) → slice_get ts i ≡ Some t → t.kind ≡ Name → IsWord t.text
word_scanned {p} (at_end e) zero t at named =
    let kind : End ≡ t.kind = ap (λ (x : Lexed). x.kind) (first_is (record { kind = End; text = []; place = p }) t [] at) in
    absurd (cc)
word_scanned (at_end e) (suc i) t at named = absurd (cc)
word_scanned (blank front rest e is h) i t at named = word_scanned h i t at named
word_scanned {p} (token {tokens = ts} kind front rest e is h) zero t at named =
    let same = first_is (record { kind = kind; text = front; place = p }) t ts at in
    subst IsWord (ap (λ (x : Lexed). x.text) same) (word_front is (ap (λ (x : Lexed). x.kind) same ∙ named))
word_scanned (token kind front rest e is h) (suc i) t at named = word_scanned h i t at named

-- a name among the tokens of some bytes
pub word_of : {ts : List Lexed} → AreTokens ts → (i : ℕ) (t : Lexed) → slice_get ts i ≡ Some t → t.kind ≡ Name → IsWord t.text
word_of tokens i t at named = word_scanned tokens.scanned i t at named
