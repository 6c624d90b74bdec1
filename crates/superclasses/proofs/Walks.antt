-- Loops that walk up a line.
use Rattle.std.proofs.Common.{◌≡◌, ℕ, suc, ◌+◌, ◌-◌, ◌<◌, ◌≤◌, Bool, true, false, cond, List, [], ◌∷◌, ◌++◌, Option, Some, None, length, get_or, ap, sym, ◌∙◌, append_assoc, append-nil, arith}
use Rattle.std.specs.List.{find}
use Rattle.superclasses.specs.Superclasses.{superclass_of, line_up, line_of, is_sub, nearest_common}
use Rattle.superclasses.proofs.Lines.{up_none}

pub walk_init : (s : List (Option ℕ)) (a : ℕ) {r : Option ℕ} {xs : List ℕ} (m : ℕ) → xs ≡ [] → r ≡ get_or s a None → m + 0 ≡ length s → xs ++ line_up m s r ≡ line_of s a
unfolding line_of
walk_init s a {r} {xs} m x e h = let n : m ≡ length s = omega arith in (λ j. x j ++ line_up (n j) s (e j))

-- the classes so far, and those that are still to come
module _ (s : List (Option ℕ)) (i n : ℕ) (above : Option ℕ) (xs line : List ℕ) (h : (m : ℕ) → m + i ≡ n → xs ++ line_up m s above ≡ line) where
  pub walk_ended : above ≡ None → i < n → xs ≡ line
  walk_ended e lt = sym (append-nil xs) ∙ ap (λ ys. xs ++ ys) (sym (ap (line_up (n - i) s) e ∙ up_none (n - i) s)) ∙ h (n - i) (omega arith)

  pub walk_step : (j : ℕ) {r : Option ℕ} {ys : List ℕ} → above ≡ Some j → r ≡ get_or s j None → ys ≡ xs ++ j ∷ [] → (m : ℕ) → m + (i + 1) ≡ n → ys ++ line_up m s r ≡ line
  walk_step j e r y m l =
      (λ k. y k ++ line_up m s (r k)) ∙ append_assoc xs (j ∷ []) (line_up m s (get_or s j None)) ∙ ap (λ a. xs ++ line_up (suc m) s a) (sym e) ∙ h (suc m) (omega arith)

  pub walk_end : n ≤ i → i ≤ n → xs ≡ line
  walk_end le ge = sym (append-nil xs) ∙ h 0 (omega arith)

-- whether the second class is below the first one already
pub common_here : (s : List (Option ℕ)) (a b : ℕ) → is_sub s b a ≡ true → Some a ≡ nearest_common s a b
common_here s a b e = sym (ap (λ t. cond t (Some a) (find (is_sub s b) (line_of s a))) e)

pub common_init : (s : List (Option ℕ)) (a b : ℕ) → is_sub s b a ≡ false → (m : ℕ) → m + 0 ≡ length s → find (is_sub s b) (line_up m s (superclass_of s a)) ≡ nearest_common s a b
unfolding line_of
common_init s a b e m h =
    let n : m ≡ length s = omega arith in
    ap (λ k. find (is_sub s b) (line_up k s (superclass_of s a))) n ∙ sym (ap (λ t. cond t (Some a) (find (is_sub s b) (line_of s a))) e)

-- the first of the classes that are still to come
module _ (s : List (Option ℕ)) (i n : ℕ) (above : Option ℕ) (f : ℕ → Bool) (first : Option ℕ) (h : (m : ℕ) → m + i ≡ n → find f (line_up m s above) ≡ first) where
  pub common_ended : above ≡ None → i < n → None ≡ first
  common_ended e lt = sym (ap (find f) (ap (line_up (n - i) s) e ∙ up_none (n - i) s)) ∙ h (n - i) (omega arith)

  at_next : (j : ℕ) → above ≡ Some j → (m : ℕ) → m + (i + 1) ≡ n → cond (f j) (Some j) (find f (line_up m s (superclass_of s j))) ≡ first
  at_next j e m l = ap (λ o. find f (line_up (suc m) s o)) (sym e) ∙ h (suc m) (omega arith)

  pub common_found : (j : ℕ) → above ≡ Some j → f j ≡ true → i < n → Some j ≡ first
  common_found j e t lt = sym (ap (λ b. cond b (Some j) (find f (line_up (n - (i + 1)) s (superclass_of s j)))) t) ∙ at_next j e (n - (i + 1)) (omega arith)

  pub common_step : (j : ℕ) → above ≡ Some j → f j ≡ false → (m : ℕ) → m + (i + 1) ≡ n → find f (line_up m s (superclass_of s j)) ≡ first
  common_step j e t m l = sym (ap (λ b. cond b (Some j) (find f (line_up m s (superclass_of s j)))) t) ∙ at_next j e m l

  pub common_end : n ≤ i → i ≤ n → None ≡ first
  common_end le ge = h 0 (omega arith)
