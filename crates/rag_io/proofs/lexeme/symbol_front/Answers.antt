use Rattle.std.proofs.Common.{◌≡◌, ◌≢◌, ◌<◌, ◌-◌, List, [], ◌∷◌, ℕ, length, get_or, take, drop, arith, rules, refl, ap, sym, ◌∙◌}
use Rattle.std.proofs.Math.Seq.{take-length}
use Rattle.std.proofs.lemmas.Bool.Decides.{nat_tests}
use Rattle.rag_io.specs.declared.token.TokenKind.TheVariants as kinds
use Rattle.rag_io.specs.declared.lexeme.Lexeme.TheVariants.{Token, Bad}
use Rattle.rag_io.specs.Lexemes.{symbols}
use Rattle.rag_io.specs.Fronts.{first_sign, symbol_length, symbol_front}
use Rattle.rag_io.proofs.SymbolLengths.{agree, symbol_of}
use Rattle.rag_io.proofs.lexeme.symbol_front.Goals as goal

-- the same of bytes that are split into the first and the others
agree_at : (bytes : List ℕ) → 0 < length bytes → symbol_front (first_sign symbols bytes) ≡ symbol_of (symbol_length (get_or bytes 0 0) (take (length bytes - 1) (drop 1 bytes)))
agree_at [] some = absurd (omega (arith, some))
agree_at (b ∷ more) some =
    let count : length more ≡ length (b ∷ more) - 1 = omega arith in
    let all : more ≡ take (length (b ∷ more) - 1) more = sym (take-length more) ∙ ap (λ (n : ℕ). take n more) count in
    agree b more ∙ ap (λ (rest : List ℕ). symbol_of (symbol_length b rest)) all

-- no bytes
none_at : (bytes : List ℕ) → length bytes < 1 → Bad ≡ symbol_front (first_sign symbols bytes)
unfolding first_sign
none_at [] none = refl
none_at (b ∷ more) none = absurd (omega (arith, none))

-- a length that is not zero
some_at : (n : ℕ) → n ≢ 0 → Token kinds.Symbol n ≡ symbol_of n
some_at n some = grind (arith, nat_tests)

pub returns-in_default-clause-value : goal.returns-in_default-clause-value
returns-in_default-clause-value c = none_at c.args.bytes.now (omega arith)

pub returns-in-0-clause-value : goal.returns-in-0-clause-value
returns-in-0-clause-value c = ap symbol_of (sym c.in-0.is ∙ c.symbol_length.ensures.value) ∙ sym (agree_at c.args.bytes.now (omega arith))

pub returns-in_default-symbol_length-clause-value : goal.returns-in_default-symbol_length-clause-value
returns-in_default-symbol_length-clause-value c =
    some_at c.symbol_length.result (search rules) ∙ ap symbol_of c.symbol_length.ensures.value ∙ sym (agree_at c.args.bytes.now (omega arith))
