-- A text in quotes, as it is printed, stands for that text.
use Rattle.std.proofs.Common.{◌≡◌, ℕ, List, [], ◌∷◌, ◌++◌, true, false, ◌==◌, if◌then◌else◌, refl, sym, subst, append_assoc, arith}
use Rattle.std.specs.List.{flat_map}
use Rattle.std.proofs.lemmas.Bool.{cond_both, eqb-true}
use Rattle.std.proofs.lemmas.Bool.Decides.{nat_tests}
use Rattle.rag_io.specs.Lexemes.{quote, backslash, is_plain, is_escape, TextBody}
use Rattle.rag_io.specs.Lexemes as lexemes
use Rattle.rag_io.specs.Quoting.{escaped, quoted}
use Rattle.rag_io.specs.Unquoted.{BodyStandsFor, closed, plain, escape, StandsFor, unquoted, unescaped, meant}
use Rattle.rag_io.proofs.Meant.{stands_meant}
use Rattle.tree_writer.specs.Again.{IsWritable}

-- a byte that has an escape, or is plain
pub record MayStand (b : ℕ) : Type 0 where
  pub plain : (b == quote) ≡ false → (b == backslash) ≡ false → (b == 10) ≡ false → (b == 9) ≡ false → (b == 13) ≡ false → is_plain b ≡ true

-- what an escape stands for may stand
escape_stands : (b : ℕ) → is_escape b ≡ true → MayStand (unescaped b)
escape_stands b is =
    cond_both (b == 110) 10 (if b == 116 then 9 else (if b == 114 then 13 else b)) MayStand (λ _. record { plain = λ q s n t r. cc })
    (λ no_n. cond_both (b == 116) 9 (if b == 114 then 13 else b) MayStand (λ _. record { plain = λ q s n t r. cc })
    (λ no_t. cond_both (b == 114) 13 b MayStand (λ _. record { plain = λ q s n t r. cc })
    (λ no_r. record { plain = λ q s n t r. grind (arith, nat_tests) })))

-- a byte as it is printed, before what stands for other bytes
escaped_stands : (b : ℕ) (body bytes : List ℕ) → MayStand b → BodyStandsFor body bytes → BodyStandsFor (escaped b ++ body) (b ∷ bytes)
escaped_stands b body bytes may more =
    cond_both (b == quote) (backslash ∷ quote ∷ []) _ P (λ e. at quote e (escape quote refl more))
    (λ q. cond_both (b == backslash) (backslash ∷ backslash ∷ []) _ P (λ e. at backslash e (escape backslash refl more))
    (λ s. cond_both (b == 10) (backslash ∷ 110 ∷ []) _ P (λ e. at 10 e (escape 110 refl more))
    (λ n. cond_both (b == 9) (backslash ∷ 116 ∷ []) _ P (λ e. at 9 e (escape 116 refl more))
    (λ t. cond_both (b == 13) (backslash ∷ 114 ∷ []) (b ∷ []) P (λ e. at 13 e (escape 114 refl more))
    (λ r. plain b (may.plain q s n t r) more)))))
  where
    P : List ℕ → Type 0
    P front = BodyStandsFor (front ++ body) (b ∷ bytes)

    at : {front : List ℕ} (key : ℕ) → (b == key) ≡ true → BodyStandsFor front (key ∷ bytes) → BodyStandsFor front (b ∷ bytes)
    at {front} key e is = subst (λ (x : ℕ). BodyStandsFor front (x ∷ bytes)) (sym (eqb-true b key e)) is

-- the bytes that some body stands for, as they are printed, stand for themselves
printed_stands : {body bytes : List ℕ} → BodyStandsFor body bytes → BodyStandsFor (flat_map escaped bytes ++ quote ∷ []) bytes
printed_stands closed = closed
printed_stands (plain {bytes = bytes} b is more) =
    subst (λ (all : List ℕ). BodyStandsFor all (b ∷ bytes)) (sym (append_assoc (escaped b) (flat_map escaped bytes) (quote ∷ [])))
    (escaped_stands b (flat_map escaped bytes ++ quote ∷ []) bytes (record { plain = λ q s n t r. is }) (printed_stands more))
printed_stands (escape {bytes = bytes} b is more) =
    subst (λ (all : List ℕ). BodyStandsFor all (unescaped b ∷ bytes)) (sym (append_assoc (escaped (unescaped b)) (flat_map escaped bytes) (quote ∷ [])))
    (escaped_stands (unescaped b) (flat_map escaped bytes ++ quote ∷ []) bytes (escape_stands b is) (printed_stands more))

-- what stands for bytes is well formed
well_formed : {body bytes : List ℕ} → BodyStandsFor body bytes → TextBody body
well_formed closed = lexemes.closed
well_formed (plain b is more) = lexemes.plain b is (well_formed more)
well_formed (escape b is more) = lexemes.escape b is (well_formed more)

-- the body of a printed text stands for the text
body_of : {token text : List ℕ} → StandsFor token text → BodyStandsFor (flat_map escaped text ++ quote ∷ []) text
body_of (unquoted is) = printed_stands is

module _ (text : List ℕ) (is : IsWritable text) where
  -- behind its opening quote a printed text is well formed
  pub printed_body : TextBody (flat_map escaped text ++ quote ∷ [])
  printed_body = well_formed (body_of is.stands)

  -- a printed text means the text
  pub printed_meant : meant (quoted text) ≡ text
  printed_meant = sym (stands_meant (unquoted (body_of is.stands)))
