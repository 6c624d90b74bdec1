-- Places in lists that stand behind each other.
use Rattle.std.proofs.Common.{◌≡◌, ℕ, zero, suc, ◌+◌, ◌*◌, ◌<◌, List, [], ◌∷◌, ◌++◌, Some, length, slice_get, inl, inr, ◌⊎◌, refl, ap, subst, ◌∙◌, arith}
use Rattle.std.specs.List.{flat_map}

module _ {X : Type 0} where
  pub in_front : (xs ys : List X) (n : ℕ) → n < length xs → slice_get (xs ++ ys) n ≡ slice_get xs n
  in_front [] ys n h = absurd (omega arith)
  in_front (x ∷ xs) ys zero h = refl
  in_front (x ∷ xs) ys (suc n) h = in_front xs ys n (omega arith)

  pub behind : (xs ys : List X) (n : ℕ) → slice_get (xs ++ ys) (length xs + n) ≡ slice_get ys n
  behind [] ys n = let same : length {A = X} [] + n ≡ n = omega arith in ap (slice_get ys) same
  behind (x ∷ xs) ys n = let same : length (x ∷ xs) + n ≡ suc (length xs + n) = omega arith in ap (slice_get (x ∷ (xs ++ ys))) same ∙ behind xs ys n

  -- the last one, or one before
  pub last_or_before : (xs : List X) (x y : X) (k : ℕ) → slice_get (xs ++ x ∷ []) k ≡ Some y → (k < length xs) × (slice_get xs k ≡ Some y) ⊎ (k ≡ length xs) × (x ≡ y)
  last_or_before [] x y zero e = inr (refl, (let same : x ≡ y = cc in same))
  last_or_before [] x y (suc k) e = absurd (cc)
  last_or_before (z ∷ xs) x y zero e = inl (omega arith, e)
  last_or_before (z ∷ xs) x y (suc k) e = elim (last_or_before xs x y k e) [
    | inl h ↦ inl (omega (arith, h.0), h.1)
    | inr h ↦ inr (ap suc h.0, h.1)
  ]

-- of three items each
module _ {X Y : Type 0} (f g h : X → Y) where
  abbrev three : X → List Y
  three x = f x ∷ g x ∷ h x ∷ []

  pub three_long : (xs : List X) → length (flat_map three xs) ≡ 3 * length xs
  three_long [] = refl
  three_long (x ∷ xs) = let rest = three_long xs in omega (arith, rest)

  first_of_three : (x : X) (rest : List Y) (j : ℕ) → j < 3 → slice_get (three x ++ rest) j ≡ slice_get (three x) j
  first_of_three x rest zero h = refl
  first_of_three x rest (suc zero) h = refl
  first_of_three x rest (suc (suc zero)) h = refl
  first_of_three x rest (suc (suc (suc j))) h = absurd (omega arith)

  -- the place of one of them
  pub three_at : (xs : List X) (k j : ℕ) (x : X) → slice_get xs k ≡ Some x → j < 3 → slice_get (flat_map three xs) (3 * k + j) ≡ slice_get (three x) j
  three_at [] k j x e h = absurd (cc)
  three_at (y ∷ ys) zero j x e h =
      let same : y ≡ x = cc in
      let place : 3 * zero + j ≡ j = omega arith in
      ap (slice_get (three y ++ flat_map three ys)) place ∙ subst (λ z. slice_get (three y ++ flat_map three ys) j ≡ slice_get (three z) j) same (first_of_three y (flat_map three ys) j h)
  three_at (y ∷ ys) (suc k) j x e h =
      let place : 3 * suc k + j ≡ suc (suc (suc (3 * k + j))) = omega arith in
      let later : slice_get (three y ++ flat_map three ys) (suc (suc (suc (3 * k + j)))) ≡ slice_get (flat_map three ys) (3 * k + j) = refl in
      ap (slice_get (three y ++ flat_map three ys)) place ∙ later ∙ three_at ys k j x e h
