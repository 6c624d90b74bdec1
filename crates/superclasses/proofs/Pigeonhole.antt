-- Of more than n numbers below n, two are equal.
use Rattle.std.proofs.Common.{◌≡◌, ◌≢◌, ℕ, zero, suc, ◌<◌, ◌≤◌, ◌⊎◌, cond, eqb, inl, inr, sym, ap, ◌∙◌, arith}
use Rattle.std.proofs.lemmas.Bool.Decides.{eqb_tells, nat_tests}

-- two places up to n at which a function has the same value
pub record Collision (f : ℕ → ℕ) (n : ℕ) : Type 0 where
  pub first : ℕ
  pub second : ℕ
  pub rises : first < second
  pub within : second ≤ n
  pub same : f first ≡ f second

-- whether a function has a value at a place below n
met_below : (f : ℕ → ℕ) (v n : ℕ) → ((k : ℕ) × (k < n) × (f k ≡ v)) ⊎ ((k : ℕ) → k < n → f k ≢ v)
met_below f v zero = inr (λ k h. absurd (omega arith))
met_below f v (suc n) =
    elim (met_below f v n) [
      | inl w ↦ inl (w.0, omega arith, w.2)
      | inr never ↦ elim (eqb_tells (f n) v) [
        | inl t ↦ inl (n, omega arith, t.1)
        | inr t ↦ inr (λ k h. elim (eqb_tells k n) [
          | inl e ↦ λ m. t.1 (sym (ap f e.1) ∙ m)
          | inr e ↦ never k (let ne : k ≢ n = e.1 in omega arith)
        ])
      ]
    ]

-- m's stand-in: v in place of m, and each other number as it is
stand_in : ℕ → ℕ → ℕ → ℕ
stand_in m v x = cond (eqb x m) v x

-- numbers up to m that are not v have stand-ins below m, and different ones
stand_in_below : (m v x : ℕ) → v < suc m → x < suc m → x ≢ v → stand_in m v x < m
unfolding stand_in
stand_in_below m v x hv hx ne =
    elim (eqb_tells x m) [
      | inl t ↦ let e : x ≡ m = t.1 in rw t.0 (omega arith)
      | inr t ↦ let e : x ≢ m = t.1 in rw t.0 (omega arith)
    ]

stand_in_tells : (m v x y : ℕ) → x ≢ v → y ≢ v → stand_in m v x ≡ stand_in m v y → x ≡ y
unfolding stand_in
stand_in_tells m v x y nx ny e = grind (arith, nat_tests)

-- of n + 1 numbers below n, two are equal
pub pigeonhole : (n : ℕ) (f : ℕ → ℕ) → ((k : ℕ) → k ≤ n → f k < n) → Collision f n
pigeonhole zero f h = absurd (let l : f 0 < 0 = h 0 (omega arith) in omega arith)
pigeonhole (suc m) f h =
    let v = f (suc m) in
    let hv : v < suc m = h (suc m) (omega arith) in
    elim (met_below f v (suc m)) [
      | inl w ↦ record { first = w.0; second = suc m; rises = w.1; within = omega arith; same = w.2 }
      | inr never ↦
          let c = pigeonhole m (λ k. stand_in m v (f k)) (λ k l. stand_in_below m v (f k) hv (h k (omega arith)) (never k (omega arith))) in
          record {
            first = c.first;
            second = c.second;
            rises = c.rises;
            within = (let l : c.second ≤ m = c.within in omega arith);
            same = stand_in_tells m v (f c.first) (f c.second) (never c.first (let l : c.first < c.second = c.rises in let r : c.second ≤ m = c.within in omega arith)) (never c.second (let r : c.second ≤ m = c.within in omega arith)) c.same;
          }
    ]
