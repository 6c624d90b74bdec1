-- What a pass knows, it goes on to know.
use Rattle.std.proofs.Common.{inl, inr, ⊎_elim, ap, ◌≡◌, ◌≢◌, ℕ, ◌+◌, ◌<◌, ◌≤◌, refl, sym, subst, ◌∙◌, arith, le_refl}
use mathlib.Core.Logic.{dite}
use native.Mathlib.Decide.{ℕ_discrete, dec_le}
use Rattle.made_trees.proofs.Following.{follow_itself, follow_on}
use Rattle.memo_cells.specs.declared.view.Frame.{Frame}
use Rattle.memo_cells.specs.declared.view.View.{View}
use Rattle.memo_cells.specs.Standing.{IsPassOf}
use Rattle.memo_cells.specs.Views.{ClaimsOnly, Has, IsAtLeast, IsFull, IsLedTo, IsNowhere, IsOther, IsOtherIn, IsPassed, times}

pub at_least_itself : (v : View) → IsAtLeast v v
at_least_itself v = record { frame = refl; share = refl; keys = λ p k h. h; values = λ p k c h. h; bits = λ p k n h. h; claims = λ p. le_refl (times p v.claims); made = follow_itself v.made }

pub at_least_then : {u v w : View} → IsAtLeast u v → IsAtLeast v w → IsAtLeast u w
at_least_then {u} {v} {w} a b = record {
  frame = b.frame ∙ a.frame;
  share = b.share ∙ a.share;
  keys = λ p k h. b.keys p k (a.keys p k h);
  values = λ p k c h. b.values p k c (a.values p k c h);
  bits = λ p k n h. b.bits p k n (a.bits p k n h);
  claims = λ p. let x = a.claims p in let y = b.claims p in omega (arith, x, y);
  made = follow_on a.made b.made;
}

-- a call that claims nothing claims the key only
pub claims_none : (v w : View) (k : ℕ) → w.claims ≡ v.claims → ClaimsOnly v w k
claims_none v w k e q = inl (ap (times q) e)

pub claims_then : (u v w : View) (k : ℕ) → ClaimsOnly u v k → ClaimsOnly v w k → IsAtLeast v w → ClaimsOnly u w k
claims_then u v w k a b more q =
    ⊎_elim (λ e. ⊎_elim (λ d. inl (d ∙ e)) inr (b q)) (λ h. inr (more.keys q k h)) (a q)

pub other_later : (v w : View) (k q : ℕ) → IsAtLeast v w → IsOther v k q → IsOther w k q
other_later v w k q a o = (o.0, a.keys q o.0 o.1, o.2, o.3)

-- one more place is seen
pub others_more : (v w : View) (k a i r : ℕ) → IsOtherIn v k a i → IsAtLeast v w → Has w.keys (i, r) → r ≢ 0 → r ≢ k → IsOtherIn w k a (i + 1)
others_more v w k a i r o more has nz ne q l h =
    dite (ℕ_discrete q i) (λ e. (r, subst (λ y. Has w.keys (y, r)) (sym e) has, ne, nz)) (λ apart. other_later v w k q more (o q l (let n = apart in omega arith)))

-- all places on the way to the next one are seen
pub passed_on : (f : Frame) (u v : View) (k a b i : ℕ) → IsLedTo f u k a b → IsAtLeast u v → IsOtherIn v k a i → a ≤ i → i < b → IsPassed f v k i
passed_on f u v k a b i led more o from to q way = ⊎_elim (λ h. o q h.0 h.1) (λ x. other_later u v k q more x) (led i q from to way)

-- two parts of the table, and the whole
pub full_of : (f : Frame) (v w : View) (k a : ℕ) → IsOtherIn v k a f.cells → IsAtLeast v w → IsOtherIn w k 0 a → IsFull f w k
full_of f v w k a behind more before q lt = dite (dec_le a q) (λ h. other_later v w k q more (behind q h lt)) (λ h. before q (omega arith) (omega (arith, h)))

-- a key that isn't at any place stands nowhere
pub nowhere_full : (f : Frame) (v : View) (k : ℕ) → IsPassOf f v → IsFull f v k → IsNowhere v k
nowhere_full f v k own full q has = let o = full q (own.within q k has) in o.2 (own.one_key q o.0 k o.1 has)
