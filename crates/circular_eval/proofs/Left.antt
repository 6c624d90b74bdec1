-- Sets that grow miss fewer codes.
use Rattle.std.proofs.Common.{◌≡◌, ℕ, zero, suc, ◌+◌, ◌*◌, ◌-◌, ◌<◌, ◌≤◌, Bool, true, false, cond, List, refl, ap, subst, ◌∙◌, arith, inl, inr, ⊎_elim}
use Rattle.std.proofs.Math.Nat.{suc-mul}
use Rattle.std.proofs.lemmas.Bool.{cases_order}
use Rattle.code_sets.specs.Members.{has_code}
use Rattle.circular_eval.specs.Left.{missing}

cond_most : (b : Bool) → cond b 0 1 ≤ 1
cond_most true = omega arith
cond_most false = omega arith

pub missing_most : (n : ℕ) (cs : List ℕ) → missing n cs ≤ n
missing_most zero cs = omega arith
missing_most (suc n) cs = let a : cond (has_code cs n) 0 1 ≤ 1 = cond_most (has_code cs n) in let b : missing n cs ≤ n = missing_most n cs in omega arith

cond_fewer : (a b : Bool) → (a ≡ true → b ≡ true) → cond b 0 1 ≤ cond a 0 1
cond_fewer true true h = omega arith
cond_fewer true false h = absurd (let e : false ≡ true = h refl in cc)
cond_fewer false true h = omega arith
cond_fewer false false h = omega arith

pub missing_fewer : (n : ℕ) (cs ds : List ℕ) → ((c : ℕ) → has_code cs c ≡ true → has_code ds c ≡ true) → missing n ds ≤ missing n cs
missing_fewer zero cs ds h = omega arith
missing_fewer (suc n) cs ds h =
    let a : cond (has_code ds n) 0 1 ≤ cond (has_code cs n) 0 1 = cond_fewer (has_code cs n) (has_code ds n) (h n) in
    let b : missing n ds ≤ missing n cs = missing_fewer n cs ds h in
    omega arith

-- one code more is one that is missing less
pub missing_less : (n : ℕ) (cs ds : List ℕ) → ((c : ℕ) → has_code cs c ≡ true → has_code ds c ≡ true) → (c : ℕ) → c < n → has_code cs c ≡ false → has_code ds c ≡ true → missing n ds < missing n cs
missing_less zero cs ds h c lt hasn has_it = absurd (omega (arith, lt))
missing_less (suc n) cs ds h c lt hasn has_it =
    elim (cases_order c n) [
      | inl e ↦
          let a : has_code cs n ≡ false = subst (λ k. has_code cs k ≡ false) e hasn in
          let b : has_code ds n ≡ true = subst (λ k. has_code ds k ≡ true) e has_it in
          let m : missing n ds ≤ missing n cs = missing_fewer n cs ds h in
          let one : ℕ = 1 in let x : cond (has_code cs n) 0 1 ≡ one = ap (λ t. cond t 0 1) a in
          let none : ℕ = 0 in let y : cond (has_code ds n) 0 1 ≡ none = ap (λ t. cond t 0 1) b in
          omega (arith, m, x, y)
      | inr o ↦
          let q : c < n = ⊎_elim (λ z. z) (λ z. absurd (omega (arith, lt, z))) o in
          let m : missing n ds < missing n cs = missing_less n cs ds h c q hasn has_it in
          let a : cond (has_code ds n) 0 1 ≤ cond (has_code cs n) 0 1 = cond_fewer (has_code cs n) (has_code ds n) (h n) in
          omega (arith, m, a)
    ]

-- n - l is one more than n - (l + 1)
pub product_less : (n l s r x : ℕ) → l < n → x < s → (n - suc l) * s + (r + x) < (n - l) * s + r
product_less n l s r x less low =
    let e : n - l ≡ suc (n - suc l) = omega (arith, less) in
    let m : (n - l) * s ≡ (n - suc l) * s + s = ap (λ k. k * s) e ∙ suc-mul (n - suc l) s in
    omega (arith, m, low)
