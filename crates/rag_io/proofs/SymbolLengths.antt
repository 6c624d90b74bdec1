-- The length of a symbol by its first byte is the length of the first sign in the table.
use Rattle.std.proofs.Common.{◌≡◌, ℕ, List, [], ◌∷◌, Bool, true, false, ◌==◌, codes, Some, None, inl, inr, nat_eq, refl, sym, subst, ap, ◌∙◌, arith, if◌then◌else◌}
use Rattle.std.specs.List.{starts_with, list_all, list_any}
use Rattle.std.proofs.lemmas.Bool.{cond_both, cond-false, and_parts, eqb-true, or_cases, false_from_ne_true, both_ways}
use Rattle.std.proofs.lemmas.Bool.Decides.{nat_tests}
use Rattle.rag_io.specs.declared.token.TokenKind.TheVariants as kinds
use Rattle.rag_io.specs.declared.lexeme.Lexeme.{Lexeme}
use Rattle.rag_io.specs.declared.lexeme.Lexeme.TheVariants.{Token, Bad}
use Rattle.rag_io.specs.Lexemes.{symbols}
use Rattle.rag_io.specs.Fronts.{begins, first_sign, is_lone, takes_equals, symbol_length, symbol_front}

-- a symbol of a length
abbrev pub symbol_of : ℕ → Lexeme
symbol_of n = if n == 0 then Bad else Token kinds.Symbol n

-- the byte is one of these
abbrev is_among : ℕ → List ℕ → Bool
is_among b keys = list_any (λ key. b == key) keys

-- it holds of each of these
abbrev Each : (ℕ → Type 0) → List ℕ → Type 0
Each P [] = Unit {0}
Each P (key ∷ keys) = P key × Each P keys

-- what holds of each holds of one of them
of_one : (P : ℕ → Type 0) (keys : List ℕ) → Each P keys → (b : ℕ) → is_among b keys ≡ true → P b
of_one P [] each b among = cc
of_one P (key ∷ keys) (here, rest) b among = elim (or_cases (b == key) (is_among b keys) among) [
  | inl e ↦ subst P (sym (eqb-true b key e)) here
  | inr e ↦ of_one P keys rest b e
]

-- the sign begins with one of these bytes
abbrev begins_among : List ℕ → List ℕ → Bool
begins_among keys [] = false
begins_among keys (key ∷ more) = is_among key keys

-- at this first byte the table finds a symbol of this length
abbrev Finds : List ℕ → ℕ → ℕ → Type 0
Finds more n b = symbol_front (first_sign symbols (b ∷ more)) ≡ symbol_of n

-- at `:`
at_colon : (more : List ℕ) → Finds more (if starts_with nat_eq more (codes ":=") then 3 else 1) 58
unfolding first_sign
at_colon more = elim (starts_with nat_eq more (codes ":=")) as (λ t. symbol_front (if t then Some (codes "::=") else Some (codes ":")) ≡ symbol_of (if t then 3 else 1)) [
  | true ↦ refl
  | false ↦ refl
]

-- at `&`
at_and : (more : List ℕ) → Finds more (if begins 38 more then 2 else 0) 38
unfolding first_sign
at_and [] = refl
at_and (c ∷ more) = grind (arith, nat_tests)

-- at `|`
at_bar : (more : List ℕ) → Finds more (if begins 124 more then 2 else 1) 124
unfolding first_sign
at_bar [] = refl
at_bar (c ∷ more) = grind (arith, nat_tests)

-- where an equals sign goes on
at_equals : (more : List ℕ) → Each (Finds more (if begins 61 more then 2 else 1)) (codes "=!<>")
unfolding first_sign
at_equals [] = (refl, (refl, (refl, (refl, tt))))
at_equals (c ∷ more) = (grind (arith, nat_tests), (grind (arith, nat_tests), (grind (arith, nat_tests), (grind (arith, nat_tests), tt))))

-- where no longer sign begins
at_lone : (more : List ℕ) → Each (Finds more 1) (codes ";,.()[]{}?+-*/@")
unfolding first_sign
at_lone more = (refl, (refl, (refl, (refl, (refl, (refl, (refl, (refl, (refl, (refl, (refl, (refl, (refl, (refl, (refl, tt)))))))))))))))

-- a sign that begins with one of some bytes does not begin bytes that begin with another
differs : (keys : List ℕ) (b : ℕ) (more sign : List ℕ) → is_among b keys ≡ false → begins_among keys sign ≡ true → starts_with nat_eq (b ∷ more) sign ≡ false
differs keys b more [] other among = cc
differs keys b more (key ∷ rest) other among =
    false_from_ne_true _ (λ h. both_ways _ other (subst (λ (k : ℕ). is_among k keys ≡ true) (eqb-true key b (and_parts (key == b) _ h).0) among))

-- a table whose signs begin with some bytes has none for bytes that begin with another
none_begins : (keys : List ℕ) (b : ℕ) (more : List ℕ) (signs : List (List ℕ)) → is_among b keys ≡ false → list_all (begins_among keys) signs ≡ true
    → first_sign signs (b ∷ more) ≡ None
unfolding first_sign
none_begins keys b more [] other all = refl
none_begins keys b more (sign ∷ signs) other all =
    let parts = and_parts (begins_among keys sign) (list_all (begins_among keys) signs) all in
    cond-false (starts_with nat_eq (b ∷ more) sign) _ _ (differs keys b more sign other parts.0) ∙ none_begins keys b more signs other parts.1

-- at a byte with which no sign begins
at_other : (b : ℕ) (more : List ℕ) → (b == 58) ≡ false → (b == 38) ≡ false → (b == 124) ≡ false → takes_equals b ≡ false → is_lone b ≡ false
    → symbol_front (first_sign symbols (b ∷ more)) ≡ Bad
at_other b more no_colon no_and no_bar no_equals no_lone =
    let other : is_among b (codes ":&|=!<>;,.()[]{}?+-*/@") ≡ false = grind (arith, nat_tests) in
    ap symbol_front (none_begins (codes ":&|=!<>;,.()[]{}?+-*/@") b more symbols other refl)

-- the table and the first byte agree
pub agree : (b : ℕ) (more : List ℕ) → symbol_front (first_sign symbols (b ∷ more)) ≡ symbol_of (symbol_length b more)
agree b more =
    cond_both (b == 58) _ _ P (λ is. at 58 (if starts_with nat_eq more (codes ":=") then 3 else 1) is (at_colon more))
    (λ no_colon. cond_both (b == 38) _ _ P (λ is. at 38 (if begins 38 more then 2 else 0) is (at_and more))
    (λ no_and. cond_both (b == 124) _ _ P (λ is. at 124 (if begins 124 more then 2 else 1) is (at_bar more))
    (λ no_bar. cond_both (takes_equals b) _ _ P (λ is. of_one (Finds more (if begins 61 more then 2 else 1)) (codes "=!<>") (at_equals more) b is)
    (λ no_equals. cond_both (is_lone b) _ _ P (λ is. of_one (Finds more 1) (codes ";,.()[]{}?+-*/@") (at_lone more) b is)
    (λ no_lone. at_other b more no_colon no_and no_bar no_equals no_lone)))))
  where
    P : ℕ → Type 0
    P n = Finds more n b

    at : (key n : ℕ) → (b == key) ≡ true → Finds more n key → Finds more n b
    at key n is here = subst (Finds more n) (sym (eqb-true b key is)) here
