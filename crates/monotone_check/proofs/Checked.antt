-- What is noted of the equations one by one.
use Rattle.std.proofs.Common.{◌≡◌, ℕ, ◌+◌, ◌<◌, ◌≤◌, List, [], take, length, slice_get, Option, Some, None, IfSome, refl, sym, subst, arith}
use Rattle.std.proofs.lemmas.Option.{get_or_from_slice_get, slice_get_cases}
use Rattle.std.specs.List.{flat_map}
use Rattle.broken_rules.specs.declared.broken.Broken.{Broken}
use Rattle.broken_rules.specs.Answers.{IsFirst}
use Rattle.broken_rules.specs.Notes.{Notes}
use Rattle.broken_rules.specs.Order.{first_of}
use Rattle.broken_rules.proofs.Noting.{ends_of, notes_all, notes_each}
use Rattle.broken_rules.proofs.Order.{first_is, none_is}

module _ {X : Type 0} (f : X → List Broken) (xs : List X) where
  is_there : (i : ℕ) → i < length xs → slice_get xs i ≡ None → ⊥
  is_there i lt e = grind (arith, slice_get_cases xs i)

  next_of : (i : ℕ) {a b c : Option Broken} (o : Option X) → slice_get xs i ≡ o → i < length xs → Notes (flat_map f (take i xs)) a b → IfSome o (λ x. Notes (f x) b c) → Notes (flat_map f (take (i + 1) xs)) a c
  next_of i None e lt h k = absurd (is_there i lt e)
  next_of i (Some x) e lt h k = notes_each f xs i (sym (get_or_from_slice_get xs i x x e)) lt h k

  pub next_noted : (i : ℕ) {n : ℕ} {a b c : Option Broken} → i < n → n ≡ length xs → Notes (flat_map f (take i xs)) a b → IfSome (slice_get xs i) (λ x. Notes (f x) b c) → Notes (flat_map f (take (i + 1) xs)) a c
  next_noted i lt e h k = next_of i (slice_get xs i) refl (subst (λ m. i < m) e lt) h k

  found_of : (i : ℕ) {n : ℕ} {a b r : Option Broken} → n ≤ i → n ≡ length xs → a ≡ None → Notes (flat_map f (take i xs)) a b → b ≡ r → first_of (flat_map f xs) ≡ r
  found_of i le e none h is = ends_of none (notes_all f xs xs i refl h (subst (λ m. m ≤ i) e le)) (sym is)

  -- where none counts, nothing is broken
  pub none_found : (i : ℕ) {n : ℕ} {a b : Option Broken} → n ≤ i → n ≡ length xs → a ≡ None → Notes (flat_map f (take i xs)) a b → b ≡ None → flat_map f xs ≡ []
  none_found i le e none h is = none_is (flat_map f xs) (found_of i le e none h is)

  -- the one that counts is the first
  pub first_found : (x : Broken) (i : ℕ) {n : ℕ} {a b : Option Broken} → n ≤ i → n ≡ length xs → a ≡ None → Notes (flat_map f (take i xs)) a b → b ≡ Some x → IsFirst (flat_map f xs) x
  first_found x i le e none h is = first_is (flat_map f xs) x (found_of i le e none h is)
