-- What is left of at most three items without the first.
use Rattle.std.proofs.Common.{◌≡◌, ℕ, zero, suc, ◌≤◌, [], ◌∷◌, drop, take, ap, arith}

module _ {A : Type 0} where
  pub left_out : (n m : ℕ) (a b c d : A) → (n ≤ 1 → m ≡ 0) → (n ≡ 2 → m ≡ 1) → (3 ≤ n → m ≡ 2) → take m (b ∷ c ∷ d ∷ []) ≡ drop 1 (take n (a ∷ b ∷ c ∷ []))
  left_out zero m a b c d f g h = ap (λ (k : ℕ). take k (b ∷ c ∷ d ∷ [])) (f (omega arith))
  left_out (suc zero) m a b c d f g h = ap (λ (k : ℕ). take k (b ∷ c ∷ d ∷ [])) (f (omega arith))
  left_out (suc (suc zero)) m a b c d f g h = ap (λ (k : ℕ). take k (b ∷ c ∷ d ∷ [])) (g (omega arith))
  left_out (suc (suc (suc zero))) m a b c d f g h = ap (λ (k : ℕ). take k (b ∷ c ∷ d ∷ [])) (h (omega arith))
  left_out (suc (suc (suc (suc n)))) m a b c d f g h = ap (λ (k : ℕ). take k (b ∷ c ∷ d ∷ [])) (h (omega arith))
