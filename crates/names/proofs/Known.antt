-- What names know, and their numbers.
use Rattle.std.proofs.Common.{◌≡◌, ℕ, ◌+◌, ◌<◌, ◌≤◌, List, [], ◌∷◌, ◌++◌, Bool, true, false, not, ◌&&◌, ◌||◌, if◌then◌else◌, length, get_or, take, map, refl, ap, sym, ◌∙◌, subst}
use Rattle.std.specs.Str.{bytes_eq}
use Rattle.rag_io.specs.Distinct.{are_distinct}
use Rattle.names.specs.Among.{is_among, with_name, each_once}
use Rattle.names.specs.Known.{Knows, Numbers}
use Rattle.names.proofs.Distinct.{among_snoc, distinct_snoc, names_more, names_all}
use Rattle.names.proofs.Keys.{among_with}
use Rattle.names.proofs.Once.{among_once, once_distinct}

both : (a b : Bool) → (a && b) ≡ true → (a ≡ true) × (b ≡ true)
both true true h = (refl, refl)
both true false h = cc
both false b h = cc

not_not : (b : Bool) → not (not b) ≡ b
not_not true = refl
not_not false = refl

not_so : (b : Bool) → not b ≡ true → b ≡ false
not_so true h = cc
not_so false h = refl

pub knows_none : {X : Type 0} (f : X → List ℕ) → Knows [] (is_among (map f []))
knows_none f = record { knows = λ q. refl }

pub numbers_none : {X : Type 0} (f : X → List ℕ) → Numbers [] (map f [])
numbers_none f = record { numbers = λ d. refl }

-- Each is given what a loop over xs that inserts the names of its items knows of the items so far.
module _ {X : Type 0} (f : X → List ℕ) (xs : List X) where
  pub knows_more : (i : ℕ) {x : X} {text : List ℕ} {names more : List (List ℕ)}
      → x ≡ get_or xs i x → i < length xs → text ≡ f x → more ≡ with_name names text → Knows names (is_among (map f (take i xs))) → Knows more (is_among (map f (take (i + 1) xs)))
  knows_more i {x} {text} {names} is lt t e h = record {
    knows = λ q. ap (λ ns. is_among ns q) e ∙ among_with names text q ∙ (λ j. h.knows q j || bytes_eq q (t j)) ∙ sym (ap (λ ns. is_among ns q) (names_more f xs i x is lt) ∙ among_snoc (map f (take i xs)) (f x) q);
  }

  pub knows_all : (i : ℕ) {names : List (List ℕ)} → Knows names (is_among (map f (take i xs))) → length xs ≤ i → Knows names (is_among (map f xs))
  knows_all i {names} h le = subst (λ ns. Knows names (is_among ns)) (names_all f xs i le) h

  pub numbers_more : (i : ℕ) {x : X} {text : List ℕ} {names more : List (List ℕ)}
      → x ≡ get_or xs i x → i < length xs → text ≡ f x → more ≡ with_name names text → Knows names (is_among (map f (take i xs))) → Numbers names (map f (take i xs)) → Numbers more (map f (take (i + 1) xs))
  numbers_more i {x} {text} {names} is lt t e k h = record {
    numbers = λ d.
        let longer = names_more f xs i x is lt in
        let parts = both (are_distinct bytes_eq (map f (take i xs))) (not (is_among (map f (take i xs)) (f x))) (sym (ap (are_distinct bytes_eq) longer ∙ distinct_snoc (map f (take i xs)) (f x)) ∙ d) in
        let fresh : is_among names (f x) ≡ false = k.knows (f x) ∙ not_so _ parts.1 in
        e ∙ ap (with_name names) t ∙ ap (λ b. if b then names else names ++ f x ∷ []) fresh ∙ ap (λ ns. ns ++ f x ∷ []) (h.numbers parts.0) ∙ sym longer;
  }

  pub numbers_all : (i : ℕ) {names : List (List ℕ)} → Numbers names (map f (take i xs)) → length xs ≤ i → Numbers names (map f xs)
  numbers_all i {names} h le = subst (Numbers names) (names_all f xs i le) h

-- a name that was new is among none of those before
pub was_new : (known : List ℕ → Bool) {names : List (List ℕ)} {text name : List ℕ} {added : Bool} → added ≡ not (is_among names text) → text ≡ name → Knows names known → not added ≡ known name
was_new known {names} {text} is t h = ap not is ∙ not_not (is_among names text) ∙ h.knows text ∙ ap known t

pub knows_once : (list : List (List ℕ)) {names : List (List ℕ)} → names ≡ each_once list → Knows names (is_among list)
knows_once list e = record { knows = λ q. ap (λ ns. is_among ns q) e ∙ among_once list q }

pub numbers_once : (list : List (List ℕ)) {names : List (List ℕ)} → names ≡ each_once list → Numbers names list
numbers_once list e = record { numbers = λ d. e ∙ once_distinct list d }
