-- What `lexeme_of` computes is what the forms of blanks and tokens say.
use Rattle.std.proofs.Common.{◌≡◌, ℕ, suc, ◌+◌, ◌<◌, ◌≤◌, List, [], ◌∷◌, ◌++◌, length, take, drop, codes, Bool, true, false, ◌&&◌, ◌==◌, not, Option, Some, None, Contains, add-one, refl, sym, subst, ap, ◌∙◌, arith, get_or, length-append}
use Rattle.std.specs.List.{starts_with, list_all}
use Rattle.std.specs.Prelude.{nat_eq}
use Rattle.std.proofs.lemmas.Bool.{cond_both, cond-true, cond-false, and_parts, eqb-true, both_ways, false_from_ne_true, and_from, eq-eqb, not-true}
use Rattle.std.proofs.lemmas.Bool.Decides.{nat_tests, Decides-eqb}
use Rattle.std.proofs.lemmas.Slice.Eq.{starts_is}
use Rattle.std.proofs.Math.Seq.{take-append_seam}
use Rattle.rag_io.specs.declared.token.TokenKind.{TokenKind}
use Rattle.rag_io.specs.declared.token.TokenKind.TheVariants as kinds
use Rattle.rag_io.specs.declared.lexeme.Lexeme.{Lexeme}
use Rattle.rag_io.specs.declared.lexeme.Lexeme.TheVariants.{Nothing, Blank, Token, Bad}
use Rattle.rag_io.specs.Lexemes.{IsBlank, white, line_comment, block_comment, IsToken, name, int, text, symbol, BeginsWith, symbols, quote, is_white, is_digit, begins_name, goes_on_name, is_no_line_feed}
use Rattle.rag_io.specs.Fronts.{begins, run, text_end, comment_end, first_sign, text_front, comment_front, symbol_front, lexeme_of}
use Rattle.rag_io.proofs.Runs.{run-cons, run-append, run_passes, run_stops}
use Rattle.rag_io.proofs.Texts.{text_end-append, finds_quote, FindsQuote}
use Rattle.rag_io.proofs.Comments.{comment_end-append, finds_end, FindsEnd}
use Rattle.rag_io.proofs.Signs.{finds_sign, FindsSign, passes_among}

-- the bytes begin with the sign where the test says so
begins_from_test : (bytes sign : List ℕ) → starts_with nat_eq bytes sign ≡ true → bytes ≡ sign ++ drop (length sign) bytes
begins_from_test bytes sign h = (starts_is Decides-eqb bytes sign (starts_with nat_eq bytes sign) refl).0 h

-- and the test says so where they do
test_from_begins : (bytes sign rest : List ℕ) → bytes ≡ sign ++ rest → starts_with nat_eq bytes sign ≡ true
test_from_begins bytes sign rest e = (starts_is Decides-eqb bytes sign (starts_with nat_eq bytes sign) refl).1 rest e

-- two bytes at the front
two_at : (first second b : ℕ) (bytes : List ℕ) → ((b == first) && begins second bytes) ≡ true → (rest : List ℕ) × (b ∷ bytes ≡ first ∷ (second ∷ rest))
two_at first second b [] h = absurd (both_ways false refl (and_parts (b == first) false h).1)
two_at first second b (c ∷ bytes) h =
    let parts = and_parts (b == first) (c == second) h in
    (bytes, ap (λ (x : ℕ). x ∷ (c ∷ bytes)) (eqb-true b first parts.0) ∙ ap (λ (x : ℕ). first ∷ (x ∷ bytes)) (eqb-true c second parts.1))

-- and the test says so
two_from : (first second b : ℕ) (bytes rest : List ℕ) → b ∷ bytes ≡ first ∷ (second ∷ rest) → ((b == first) && begins second bytes) ≡ true
two_from first second b [] rest e = let n : 1 ≡ suc (suc (length rest)) = ap length e in absurd (omega arith)
two_from first second b (c ∷ bytes) rest e =
    and_from (b == first) (c == second) (eq-eqb b first (ap (λ (l : List ℕ). get_or l 0 0) e)) (eq-eqb c second (ap (λ (l : List ℕ). get_or l 1 0) e))

-- what a lexeme says of the bytes
abbrev pub Fits : List ℕ → Lexeme → Type 0
Fits bytes Nothing = bytes ≡ []
Fits bytes (Blank n) = IsBlank (take n bytes) (drop n bytes)
Fits bytes (Token kind n) = IsToken kind (take n bytes) (drop n bytes)
Fits bytes Bad = 0 < length bytes

-- a text
fits_text : (bytes : List ℕ) (end : Option ℕ) → FindsQuote false bytes end → Fits (quote ∷ bytes) (text_front end)
fits_text bytes None none = omega arith
fits_text bytes (Some n) body = rw (add-one n) (text (take n bytes) (drop n bytes) body)

-- a comment up to the end of its line
fits_line : (rest : List ℕ) → Fits (47 ∷ (47 ∷ rest)) (Blank (run is_no_line_feed (47 ∷ rest) + 1))
fits_line rest =
    rw (run-cons is_no_line_feed 47 rest refl, add-one (suc (run is_no_line_feed rest)))
    (line_comment (take (run is_no_line_feed rest) rest) (drop (run is_no_line_feed rest) rest) (run_passes is_no_line_feed rest) (run_stops is_no_line_feed rest))

-- a comment up to `*/`
fits_comment : (rest : List ℕ) (end : Option ℕ) → FindsEnd rest end → Fits (47 ∷ (42 ∷ rest)) (comment_front end)
fits_comment rest None none = omega arith
fits_comment rest (Some n) closed =
    let e : n + 2 ≡ suc (suc n) = omega arith in
    rw e (subst (λ (front : List ℕ). IsBlank (47 ∷ (42 ∷ front)) (drop n rest)) (sym closed.front) (block_comment closed.text (drop n rest) closed.opens))

-- the first byte begins no other token and no white space
abbrev pub begins_symbol : List ℕ → Bool
begins_symbol [] = false
begins_symbol (b ∷ more) = not (is_white b) && (not (begins_name b) && (not (is_digit b) && not (b == quote)))

-- the first sign in the table
fits_symbol : (bytes : List ℕ) (found : Option (List ℕ)) → 0 < length bytes → FindsSign symbols bytes found
    → ((after : List ℕ) → bytes ≡ codes "//" ++ after → ⊥) → ((after : List ℕ) → bytes ≡ codes "/*" ++ after → ⊥) → Fits bytes (symbol_front found)
fits_symbol bytes None some none no_line no_block = some
fits_symbol bytes (Some sign) some found no_line no_block =
    let whole : bytes ≡ sign ++ drop (length sign) bytes = begins_from_test bytes sign found.begins in
    let front : take (length sign) bytes ≡ sign = ap (take (length sign)) whole ∙ take-append_seam sign (drop (length sign) bytes) in
    subst (λ (s : List ℕ). IsToken kinds.Symbol s (drop (length sign) bytes)) (sym front)
    (symbol sign (drop (length sign) bytes) found.listed
    (λ longer listed is. found.longest longer listed (test_from_begins bytes longer is.0 (whole ∙ is.1)))
    (λ is. no_line is.0 (whole ∙ is.1)) (λ is. no_block is.0 (whole ∙ is.1)))

-- what `lexeme_of` says is so
pub fits : (bytes : List ℕ) → Fits bytes (lexeme_of bytes)
unfolding lexeme_of
fits [] = refl
fits (b ∷ bytes) =
    let P = Fits (b ∷ bytes) in
    cond_both (is_white b) _ _ P (λ is. white b bytes is)
    (λ _. cond_both (begins_name b) _ _ P (λ is. rw (add-one (run goes_on_name bytes)) (name b _ _ is (run_passes goes_on_name bytes) (run_stops goes_on_name bytes)))
    (λ _. cond_both (is_digit b) _ _ P (λ is. rw (add-one (run is_digit bytes)) (int b _ _ is (run_passes is_digit bytes) (run_stops is_digit bytes)))
    (λ _. cond_both (b == quote) _ _ P
    (λ is. subst (λ (x : ℕ). Fits (x ∷ bytes) (text_front (text_end false bytes))) (sym (eqb-true b quote is)) (fits_text bytes (text_end false bytes) (finds_quote false bytes)))
    (λ _. cond_both ((b == 47) && begins 47 bytes) _ _ P (λ is. at_line (two_at 47 47 b bytes is))
    (λ no_line. cond_both ((b == 47) && begins 42 bytes) _ _ P (λ is. at_comment (two_at 47 42 b bytes is))
    (λ no_block. fits_symbol (b ∷ bytes) (first_sign symbols (b ∷ bytes)) (omega arith) (finds_sign symbols (b ∷ bytes) refl)
    (λ after e. both_ways _ no_line (two_from 47 47 b bytes after e)) (λ after e. both_ways _ no_block (two_from 47 42 b bytes after e))))))))
  where
    at_line : (rest : List ℕ) × (b ∷ bytes ≡ 47 ∷ (47 ∷ rest)) → Fits (b ∷ bytes) (Blank (run is_no_line_feed bytes + 1))
    at_line (rest, e) =
        subst (λ (all : List ℕ). Fits all (Blank (run is_no_line_feed (drop 1 all) + 1))) (sym e) (fits_line rest)

    at_comment : (rest : List ℕ) × (b ∷ bytes ≡ 47 ∷ (42 ∷ rest)) → Fits (b ∷ bytes) (comment_front (comment_end (drop 1 bytes)))
    at_comment (rest, e) =
        subst (λ (all : List ℕ). Fits all (comment_front (comment_end (drop 2 all)))) (sym e) (fits_comment rest (comment_end rest) (finds_end rest))

-- what begins a name is no white space
name_is_no_white : (b : ℕ) → begins_name b ≡ true → is_white b ≡ false
name_is_no_white b h = grind (arith, nat_tests)

-- a digit is no white space
digit_is_no_white : (b : ℕ) → is_digit b ≡ true → is_white b ≡ false
digit_is_no_white b h = grind (arith, nat_tests)

-- a digit begins no name
digit_begins_no_name : (b : ℕ) → is_digit b ≡ true → begins_name b ≡ false
digit_begins_no_name b h = grind (arith, nat_tests)

-- nothing begins behind the last byte
pub lexeme_of-nil : lexeme_of [] ≡ Nothing
unfolding lexeme_of
lexeme_of-nil = refl

-- white space and comments at the front are what `lexeme_of` finds
pub lexeme_of-blank : {front rest : List ℕ} → IsBlank front rest → lexeme_of (front ++ rest) ≡ Blank (length front)
unfolding lexeme_of
lexeme_of-blank (white b rest is) = cond-true (is_white b) _ _ is
lexeme_of-blank (line_comment more rest all stops) =
    ap Blank (ap (λ (n : ℕ). n + 1) (run-cons is_no_line_feed 47 (more ++ rest) refl ∙ ap suc (run-append is_no_line_feed more rest all stops)) ∙ add-one (suc (length more)))
lexeme_of-blank (block_comment inner rest opens) = ap comment_front (comment_end-append inner rest opens)
    ∙ (let e : length inner + 2 + 2 ≡ suc (suc (length (inner ++ codes "*/"))) = omega (arith, length-append inner (codes "*/")) in ap Blank e)

-- each sign begins as no other token does
symbols_begin : list_all begins_symbol symbols ≡ true
symbols_begin = refl

-- at a sign `lexeme_of` looks into the table
lexeme_of-sign : (sign rest : List ℕ) → begins_symbol sign ≡ true → (BeginsWith (sign ++ rest) (codes "//") → ⊥) → (BeginsWith (sign ++ rest) (codes "/*") → ⊥)
    → lexeme_of (sign ++ rest) ≡ symbol_front (first_sign symbols (sign ++ rest))
unfolding lexeme_of
lexeme_of-sign [] rest starts no_line no_block = cc
lexeme_of-sign (b ∷ more) rest starts no_line no_block =
    let first = and_parts (not (is_white b)) (not (begins_name b) && (not (is_digit b) && not (b == quote))) starts in
    let second = and_parts (not (begins_name b)) (not (is_digit b) && not (b == quote)) first.1 in
    let third = and_parts (not (is_digit b)) (not (b == quote)) second.1 in
    cond-false (is_white b) _ _ (not-true _ first.0) ∙ cond-false (begins_name b) _ _ (not-true _ second.0) ∙ cond-false (is_digit b) _ _ (not-true _ third.0)
    ∙ cond-false (b == quote) _ _ (not-true _ third.1)
    ∙ cond-false ((b == 47) && begins 47 (more ++ rest)) _ _ (false_from_ne_true _ (λ h. no_line (two_at 47 47 b (more ++ rest) h)))
    ∙ cond-false ((b == 47) && begins 42 (more ++ rest)) _ _ (false_from_ne_true _ (λ h. no_block (two_at 47 42 b (more ++ rest) h)))

-- a listed sign that is the longest is as long as the first one in the table
same_length : (sign rest : List ℕ) → Contains symbols sign → ((longer : List ℕ) → Contains symbols longer → BeginsWith (sign ++ rest) longer → length longer ≤ length sign)
    → (found : Option (List ℕ)) → FindsSign symbols (sign ++ rest) found → symbol_front found ≡ Token kinds.Symbol (length sign)
same_length sign rest listed longest None none = absurd (both_ways _ (none sign listed) (test_from_begins (sign ++ rest) sign rest refl))
same_length sign rest listed longest (Some found) is =
    let least : length sign ≤ length found = is.longest sign listed (test_from_begins (sign ++ rest) sign rest refl) in
    let most : length found ≤ length sign = longest found is.listed (drop (length found) (sign ++ rest), begins_from_test (sign ++ rest) found is.begins) in
    let same : length found ≡ length sign = omega arith in
    ap (Token kinds.Symbol) same

-- a token at the front is what `lexeme_of` finds
pub lexeme_of-token : {kind : TokenKind} {front rest : List ℕ} → IsToken kind front rest → lexeme_of (front ++ rest) ≡ Token kind (length front)
unfolding lexeme_of
lexeme_of-token (name b more rest is all stops) =
    cond-false (is_white b) _ _ (name_is_no_white b is) ∙ cond-true (begins_name b) _ _ is
    ∙ ap (Token kinds.Name) (ap (λ (n : ℕ). n + 1) (run-append goes_on_name more rest all stops) ∙ add-one (length more))
lexeme_of-token (int b more rest is all stops) =
    cond-false (is_white b) _ _ (digit_is_no_white b is) ∙ cond-false (begins_name b) _ _ (digit_begins_no_name b is) ∙ cond-true (is_digit b) _ _ is
    ∙ ap (Token kinds.Int) (ap (λ (n : ℕ). n + 1) (run-append is_digit more rest all stops) ∙ add-one (length more))
lexeme_of-token (text body rest is) = ap text_front (text_end-append rest is) ∙ ap (Token kinds.Text) (add-one (length body))
lexeme_of-token (symbol sign rest listed longest no_line no_block) =
    lexeme_of-sign sign rest (passes_among begins_symbol symbols sign symbols_begin listed) no_line no_block
    ∙ same_length sign rest listed longest (first_sign symbols (sign ++ rest)) (finds_sign symbols (sign ++ rest) refl)
