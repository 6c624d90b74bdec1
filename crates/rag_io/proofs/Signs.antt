-- The first sign in a table that begins the bytes is the longest one, where no longer sign stands behind a shorter one.
use Rattle.std.proofs.Common.{◌≡◌, ℕ, zero, suc, ◌≤◌, List, [], ◌∷◌, length, Bool, true, false, ◌&&◌, Option, Some, None, nat_eq, nat_le, Contains, ◌⊎◌, inl, inr, refl, sym, subst, ap, ◌∙◌, arith}
use Rattle.std.specs.List.{starts_with, list_all}
use Rattle.std.proofs.lemmas.Bool.{cond_both, and_parts, leb-true, both_ways}
use Rattle.std.proofs.lemmas.List.Sums.{AllPass-from_list_all}
use Rattle.rag_io.specs.Fronts.{first_sign}

-- the first sign is listed
Contains-head : (sign : List ℕ) (signs : List (List ℕ)) → Contains (sign ∷ signs) sign
Contains-head sign signs = (0, omega arith, refl)

-- a sign behind the first one is listed
Contains-tail : (sign other : List ℕ) (signs : List (List ℕ)) → Contains signs other → Contains (sign ∷ signs) other
Contains-tail sign other signs (k, h, e) = (suc k, omega arith, e)

-- a listed sign is the first one or stands behind it
Contains-cons_cases : (sign other : List ℕ) (signs : List (List ℕ)) → Contains (sign ∷ signs) other → (sign ≡ other) ⊎ Contains signs other
Contains-cons_cases sign other signs (zero, h, e) = inl e
Contains-cons_cases sign other signs (suc k, h, e) = inr (k, omega arith, e)

-- each element passes a test that all pass
pub passes_among : (test : List ℕ → Bool) (signs : List (List ℕ)) (sign : List ℕ) → list_all test signs ≡ true → Contains signs sign → test sign ≡ true
passes_among test signs sign all (k, h, e) = subst (λ (s : List ℕ). test s ≡ true) e (AllPass-from_list_all test signs all k sign h)

-- no longer sign stands behind a shorter one
abbrev pub is_falling : List (List ℕ) → Bool
is_falling [] = true
is_falling (sign ∷ signs) = list_all (λ other. nat_le (length other) (length sign)) signs && is_falling signs

-- a listed sign begins the bytes, and no longer one does
pub record IsLongest (signs : List (List ℕ)) (bytes sign : List ℕ) : Type 0 where
  pub listed : Contains signs sign
  pub begins : starts_with nat_eq bytes sign ≡ true
  pub longest : (other : List ℕ) → Contains signs other → starts_with nat_eq bytes other ≡ true → length other ≤ length sign

-- what the first sign is
abbrev pub FindsSign : List (List ℕ) → List ℕ → Option (List ℕ) → Type 0
FindsSign signs bytes None = (other : List ℕ) → Contains signs other → starts_with nat_eq bytes other ≡ false
FindsSign signs bytes (Some sign) = IsLongest signs bytes sign

-- the first sign that begins the bytes is the longest of those that do
pub finds_sign : (signs : List (List ℕ)) (bytes : List ℕ) → is_falling signs ≡ true → FindsSign signs bytes (first_sign signs bytes)
unfolding first_sign
finds_sign [] bytes falling = λ other among. absurd (omega (arith, among.1))
finds_sign (sign ∷ signs) bytes falling =
    cond_both (starts_with nat_eq bytes sign) (Some sign) (first_sign signs bytes) (FindsSign (sign ∷ signs) bytes) here
    (behind (first_sign signs bytes) (finds_sign signs bytes (and_parts (list_all (λ other. nat_le (length other) (length sign)) signs) (is_falling signs) falling).1))
  where
    no_longer : (other : List ℕ) → (sign ≡ other) ⊎ Contains signs other → length other ≤ length sign
    no_longer other (inl e) = let n : length sign ≡ length other = ap length e in omega arith
    no_longer other (inr among) =
        let shorter = (and_parts (list_all (λ (s : List ℕ). nat_le (length s) (length sign)) signs) (is_falling signs) falling).0 in
        leb-true (length other) (length sign) (passes_among (λ s. nat_le (length s) (length sign)) signs other shorter among)

    here : starts_with nat_eq bytes sign ≡ true → IsLongest (sign ∷ signs) bytes sign
    here begins = record {
      listed = Contains-head sign signs;
      begins = begins;
      longest = λ other among _. no_longer other (Contains-cons_cases sign other signs among);
    }

    in_rest : (P : List ℕ → Type 0) → starts_with nat_eq bytes sign ≡ false → ((other : List ℕ) → Contains signs other → starts_with nat_eq bytes other ≡ true → P other)
        → (other : List ℕ) → (sign ≡ other) ⊎ Contains signs other → starts_with nat_eq bytes other ≡ true → P other
    in_rest P fails rest other (inl e) begins = absurd (both_ways _ (ap (starts_with nat_eq bytes) (sym e) ∙ fails) begins)
    in_rest P fails rest other (inr among) begins = rest other among begins

    behind : (found : Option (List ℕ)) → FindsSign signs bytes found → starts_with nat_eq bytes sign ≡ false → FindsSign (sign ∷ signs) bytes found
    behind None none fails = λ other among. none_of other (Contains-cons_cases sign other signs among)
      where
        none_of : (other : List ℕ) → (sign ≡ other) ⊎ Contains signs other → starts_with nat_eq bytes other ≡ false
        none_of other (inl e) = ap (starts_with nat_eq bytes) (sym e) ∙ fails
        none_of other (inr among) = none other among
    behind (Some found) is fails = record {
      listed = Contains-tail sign found signs is.listed;
      begins = is.begins;
      longest = λ other among. in_rest (λ s. length s ≤ length found) fails is.longest other (Contains-cons_cases sign other signs among);
    }
