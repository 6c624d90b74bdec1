-- What a text stands for is what is computed of it.
use Rattle.std.proofs.Common.{◌≡◌, ℕ, List, [], ◌∷◌, ◌==◌, true, false, IsTrue, cond, refl, sym, ap, subst, ◌∙◌}
use Rattle.std.proofs.lemmas.Bool.{eqb-true}
use Rattle.rag_io.specs.Lexemes.{quote, backslash, is_plain}
use Rattle.rag_io.specs.Unquoted.{BodyStandsFor, closed, plain, escape, StandsFor, unquoted, unescaped, body_meant, meant}

-- a body has a first byte
first_of : {body bytes : List ℕ} → BodyStandsFor body bytes → (b : ℕ) × (rest : List ℕ) × (body ≡ b ∷ rest)
first_of closed = (quote, [], refl)
first_of (plain {body} b is more) = (b, body, refl)
first_of (escape {body} b is more) = (backslash, b ∷ body, refl)

-- a plain byte stands for itself
plain_meant : (b c : ℕ) (rest : List ℕ) → IsTrue (is_plain b) → body_meant (b ∷ (c ∷ rest)) ≡ b ∷ body_meant (c ∷ rest)
plain_meant b c rest is =
    elim (b == backslash) as (λ t. (b == backslash) ≡ t → cond t (unescaped c ∷ body_meant rest) (b ∷ body_meant (c ∷ rest)) ≡ b ∷ body_meant (c ∷ rest)) [
      | true ↦ λ e. absurd (let same : b ≡ backslash = eqb-true b backslash e in let never = subst (λ n. IsTrue (is_plain n)) same is in cc)
      | false ↦ λ e. refl
    ] refl

body_is : {body bytes : List ℕ} → BodyStandsFor body bytes → bytes ≡ body_meant body
body_is closed = refl
body_is (plain {body} {bytes} b is more) =
    let f = first_of more in
    ap (λ xs. b ∷ xs) (body_is more ∙ ap body_meant f.2) ∙ sym (plain_meant b f.0 f.1 is) ∙ ap (λ xs. body_meant (b ∷ xs)) (sym f.2)
body_is (escape {body} b is more) = ap (λ xs. unescaped b ∷ xs) (body_is more)

pub stands_meant : {text bytes : List ℕ} → StandsFor text bytes → bytes ≡ meant text
stands_meant (unquoted is) = body_is is
