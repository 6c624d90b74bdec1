-- Lists in which no name stands twice.
use Rattle.std.proofs.Common.{◌≡◌, ℕ, ◌+◌, ◌<◌, ◌≤◌, List, [], ◌∷◌, ◌++◌, Bool, true, false, not, ◌&&◌, ◌||◌, length, get_or, take, map, refl, ap, sym, ◌∙◌, arith, zero, suc}
use Rattle.std.proofs.Math.Bool.{or-false}
use Rattle.std.proofs.lemmas.Cmp.{nat_list_eq_equiv}
use Rattle.std.proofs.lemmas.List.{map-append, take_more, take_all}
use Rattle.std.proofs.lemmas.List.Folds.{list_any-append}
use Rattle.std.specs.Str.{bytes_eq}
use Rattle.rag_io.specs.Distinct.{are_distinct}
use Rattle.names.specs.Among.{is_among}

pub among_snoc : (ns : List (List ℕ)) (n q : List ℕ) → is_among (ns ++ n ∷ []) q ≡ (is_among ns q || bytes_eq q n)
among_snoc ns n q = list_any-append (bytes_eq q) ns (n ∷ []) ∙ ap (λ b. is_among ns q || b) (or-false (bytes_eq q n))

and_false : (d : Bool) → (d && false) ≡ false
and_false true = refl
and_false false = refl

turned : (a e d b : Bool) → (not (a || e) && (d && not b)) ≡ ((not a && d) && not (e || b))
turned true e d b = refl
turned false true d b = sym (and_false d)
turned false false d b = refl

pub distinct_snoc : (ns : List (List ℕ)) (n : List ℕ) → are_distinct bytes_eq (ns ++ n ∷ []) ≡ (are_distinct bytes_eq ns && not (is_among ns n))
distinct_snoc [] n = refl
distinct_snoc (m ∷ ns) n =
    (λ j. not (among_snoc ns n m j) && distinct_snoc ns n j)
    ∙ turned (is_among ns m) (bytes_eq m n) (are_distinct bytes_eq ns) (is_among ns n)
    ∙ ap (λ e. (not (is_among ns m) && are_distinct bytes_eq ns) && not (e || is_among ns n)) (nat_list_eq_equiv.symm m n)

module _ {X : Type 0} (f : X → List ℕ) (xs : List X) where
  pub names_more : (i : ℕ) (x : X) → x ≡ get_or xs i x → i < length xs → map f (take (i + 1) xs) ≡ map f (take i xs) ++ f x ∷ []
  names_more i x is lt = ap (map f) (take_more xs i x lt ∙ ap (λ y. take i xs ++ y ∷ []) (sym is)) ∙ map-append f (take i xs) (x ∷ [])

  pub names_all : (i : ℕ) → length xs ≤ i → map f (take i xs) ≡ map f xs
  names_all i le = ap (map f) (take_all i xs le)

  distinct_so_far : (d : X) → ((i : ℕ) → i < length xs → is_among (map f (take i xs)) (f (get_or xs i d)) ≡ false) → (i : ℕ) → i ≤ length xs → are_distinct bytes_eq (map f (take i xs)) ≡ true
  distinct_so_far d h zero le = refl
  distinct_so_far d h (suc i) le =
      let lt : i < length xs = omega arith in
      let next : suc i ≡ i + 1 = omega arith in
      ap (λ n. are_distinct bytes_eq (map f (take n xs))) next ∙ ap (λ zs. are_distinct bytes_eq (map f zs)) (take_more xs i d lt) ∙ ap (are_distinct bytes_eq) (map-append f (take i xs) (get_or xs i d ∷ []))
      ∙ distinct_snoc (map f (take i xs)) (f (get_or xs i d)) ∙ (λ j. distinct_so_far d h i (omega arith) j && not (h i lt j))

  -- where each item's name is among none of those before it, none stands twice
  pub distinct_each : (d : X) → ((i : ℕ) → i < length xs → is_among (map f (take i xs)) (f (get_or xs i d)) ≡ false) → are_distinct bytes_eq (map f xs) ≡ true
  distinct_each d h = ap (are_distinct bytes_eq) (sym (names_all (length xs) (omega arith))) ∙ distinct_so_far d h (length xs) (omega arith)
