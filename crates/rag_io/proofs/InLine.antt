-- A token stands in one line.
use Rattle.std.proofs.Common.{◌≡◌, ℕ, suc, ◌+◌, ◌≤◌, List, [], ◌∷◌, length, take, drop, Bool, true, false, ◌==◌, refl, sym, ap, subst, ◌∙◌, arith}
use Rattle.std.specs.List.{AllPass, list_all}
use Rattle.std.proofs.lemmas.Bool.{cond-false}
use Rattle.std.proofs.lemmas.Bool.Decides.{nat_tests}
use Rattle.std.proofs.lemmas.List.{length-take-le}
use Rattle.std.proofs.lemmas.List.Elements.{All-cons, All-nil}
use Rattle.std.proofs.lemmas.List.Sums.{AllPass-from_list_all}
use Rattle.rag_io.specs.declared.token.Place.{Place}
use Rattle.rag_io.specs.declared.token.TokenKind.{TokenKind}
use Rattle.rag_io.specs.declared.lexeme.Lexeme.TheVariants as lexemes
use Rattle.rag_io.specs.Lexemes.{TextBody, closed, plain, escape, IsToken, name, int, text, symbol, begins_name, goes_on_name, is_digit, is_plain, is_escape, is_no_line_feed, quote, backslash, symbols}
use Rattle.rag_io.specs.Fronts.{lexeme_of}
use Rattle.rag_io.specs.Tokens.{behind, moved}
use Rattle.rag_io.proofs.Lexing.{Fits, fits}
use Rattle.rag_io.proofs.Signs.{passes_among}

-- the byte passes, and so do the others
one_more : (b : ℕ) (bytes : List ℕ) → is_no_line_feed b ≡ true → AllPass is_no_line_feed bytes → AllPass is_no_line_feed (b ∷ bytes)
one_more b bytes here rest = All-cons (λ x. is_no_line_feed x ≡ true) b bytes here rest

-- bytes that pass a test that a line feed fails
weaker : (test : ℕ → Bool) → ((b : ℕ) → test b ≡ true → is_no_line_feed b ≡ true) → (bytes : List ℕ) → AllPass test bytes → AllPass is_no_line_feed bytes
weaker test only bytes all = λ k d h. only _ (all k d h)

begins_in_line : (b : ℕ) → begins_name b ≡ true → is_no_line_feed b ≡ true
begins_in_line b is = grind (arith, nat_tests)

goes_in_line : (b : ℕ) → goes_on_name b ≡ true → is_no_line_feed b ≡ true
goes_in_line b is = grind (arith, nat_tests)

digit_in_line : (b : ℕ) → is_digit b ≡ true → is_no_line_feed b ≡ true
digit_in_line b is = grind (arith, nat_tests)

plain_in_line : (b : ℕ) → is_plain b ≡ true → is_no_line_feed b ≡ true
plain_in_line b is = grind (arith, nat_tests)

escape_in_line : (b : ℕ) → is_escape b ≡ true → is_no_line_feed b ≡ true
escape_in_line b is = grind (arith, nat_tests)

-- a text
body_in_line : {body : List ℕ} → TextBody body → AllPass is_no_line_feed body
body_in_line closed = one_more quote [] refl (All-nil (λ x. is_no_line_feed x ≡ true))
body_in_line (plain {body} b is more) = one_more b body (plain_in_line b is) (body_in_line more)
body_in_line (escape {body} b is more) = one_more backslash (b ∷ body) refl (one_more b body (escape_in_line b is) (body_in_line more))

-- a token has no line feed
token_in_line : {kind : TokenKind} {front rest : List ℕ} → IsToken kind front rest → AllPass is_no_line_feed front
token_in_line (name b more rest begins all stops) = one_more b more (begins_in_line b begins) (weaker goes_on_name goes_in_line more all)
token_in_line (int b more rest begins all stops) = one_more b more (digit_in_line b begins) (weaker is_digit digit_in_line more all)
token_in_line (text body rest is) = one_more quote body refl (body_in_line is)
token_in_line (symbol sign rest listed longest no_line no_block) =
    AllPass-from_list_all is_no_line_feed sign (passes_among (list_all is_no_line_feed) symbols sign refl listed)

-- the place behind a byte that is no line feed
behind_in_line : (p : Place) (b : ℕ) → is_no_line_feed b ≡ true → behind p b ≡ record { line = p.line; column = p.column + 1 }
behind_in_line p b is =
    let no : (b == 10) ≡ false = grind (arith, nat_tests) in
    cond-false (b == 10) _ _ no

-- the place behind bytes without a line feed
moved_in_line : (p : Place) (bytes : List ℕ) → AllPass is_no_line_feed bytes → moved p bytes ≡ record { line = p.line; column = p.column + length bytes }
unfolding moved
moved_in_line p [] all = let same : p.column ≡ p.column + 0 = omega arith in ap (λ c. record { line = p.line; column = c }) same
moved_in_line p (b ∷ bytes) all =
    let further : p.column + 1 + length bytes ≡ p.column + suc (length bytes) = omega arith in
    ap (λ q. moved q bytes) (behind_in_line p b (all 0 0 (omega arith)))
    ∙ moved_in_line (record { line = p.line; column = p.column + 1 }) bytes (λ k d h. all (suc k) d (omega arith))
    ∙ ap (λ c. record { line = p.line; column = c }) further

-- the place behind the token that begins some bytes
pub moved_token : (p : Place) (bytes front : List ℕ) (n : ℕ) (kind : TokenKind) → front ≡ take n bytes → n ≤ length bytes → lexeme_of bytes ≡ lexemes.Token kind n
    → record { line = p.line; column = p.column + n } ≡ moved p front
moved_token p bytes front n kind fronts within is =
    let there : IsToken kind (take n bytes) (drop n bytes) = subst (Fits bytes) is (fits bytes) in
    let count : length front ≡ n = ap length fronts ∙ length-take-le n bytes within in
    ap (λ m. record { line = p.line; column = p.column + m }) (sym count)
    ∙ sym (moved_in_line p front (subst (AllPass is_no_line_feed) (sym fronts) (token_in_line there)))
