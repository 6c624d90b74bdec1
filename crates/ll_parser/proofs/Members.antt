-- Members of lists of numbers.
use Rattle.std.proofs.Common.{◌≡◌, ℕ, ◌==◌, Bool, true, List, [], ◌∷◌, ◌++◌, subst, inl, inr, ◌⊎◌}
use Rattle.std.proofs.lemmas.Bool.{eqb-true, and_parts, or_cases}
use Rattle.ll_parser.specs.Table.{member, every, within}
use Rattle.ll_parser.specs.Stack.{In, here, there}

pub in_left : {t : ℕ} {xs : List ℕ} (ys : List ℕ) → In t xs → In t (xs ++ ys)
in_left ys here = here
in_left ys (there h) = there (in_left ys h)

pub in_right : {t : ℕ} (xs : List ℕ) {ys : List ℕ} → In t ys → In t (xs ++ ys)
in_right [] h = h
in_right (x ∷ xs) h = there (in_right xs h)

pub in_either : {t : ℕ} (xs ys : List ℕ) → In t (xs ++ ys) → In t xs ⊎ In t ys
in_either [] ys h = inr h
in_either (x ∷ xs) ys here = inl here
in_either (x ∷ xs) ys (there h) = elim (in_either xs ys h) [ inl a ↦ inl (there a) | inr b ↦ inr b ]

pub member_in : (t : ℕ) (xs : List ℕ) → member t xs ≡ true → In t xs
member_in t [] e = absurd (cc)
member_in t (x ∷ xs) e = elim (or_cases (t == x) (member t xs) e) [
  | inl p ↦ subst (λ y. In t (y ∷ xs)) (eqb-true t x p) here
  | inr q ↦ there (member_in t xs q)
]

pub every_in : (p : ℕ → Bool) {t : ℕ} (xs : List ℕ) → every p xs ≡ true → In t xs → p t ≡ true
every_in p [] e h = elim h [ ]
every_in p (t ∷ xs) e here = (and_parts (p t) (every p xs) e).0
every_in p (x ∷ xs) e (there h) = every_in p xs (and_parts (p x) (every p xs) e).1 h

pub within_in : {t : ℕ} (xs ys : List ℕ) → within xs ys ≡ true → In t xs → In t ys
within_in {t} xs ys e h = member_in t ys (every_in (λ x. member x ys) xs e h)
