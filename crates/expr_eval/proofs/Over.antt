-- What a form over elements says, from how far it has gone.
use Rattle.std.proofs.Common.{◌≡◌, ℕ, suc, ◌+◌, ◌-◌, ◌<◌, ◌≤◌, Bool, true, false, cond, List, [], map, refl, sym, ap, subst, arith}
use Rattle.std.specs.List.{range_with_len}
use Rattle.attr_rules.specs.declared.expression.Quantifier.TheVariants.{Any, All, First}
use Rattle.attr_rules.specs.declared.expression.SetOperator.TheVariants.{Union}
use Rattle.solutions.specs.Asking.{Demands, Ends, Gives, Halts, gives}
use Rattle.equation_law.specs.Meaning.{at_each, first_with, united}
use Rattle.equation_law.specs.Names.{Instance, Null}
use Rattle.equation_law.specs.Values.{Value, Node, Truth, default_of, set_operate, truth}
use Rattle.expr_eval.specs.declared.saved.Making.{Making}
use Rattle.expr_eval.specs.declared.saved.Making.TheVariants.{Joins, Tests}
use Rattle.expr_eval.specs.Elements.{put}
use Rattle.expr_eval.specs.Going.{Passed, Sought, Went, found, further, joined, more, none, nothing, nowhere, seeks}
use Rattle.expr_eval.specs.Saved.{HasGone, begun, done, made, over}
use Rattle.expr_eval.proofs.Forms.{ends_next, halts_first}
use Rattle.expr_eval.proofs.Going.{joined_ends, joined_halts, passed_ends, passed_halts, went_ends, went_halts}

-- the elements that are left behind one
rest_of : (n count : ℕ) → n < count → n + suc (count - suc n) ≡ count
rest_of n count h = omega (arith, h)

none_left : (n count : ℕ) → n ≡ count → n + 0 ≡ count
none_left n count h = omega (arith, h)

-- the first of them
abbrev all_of : (ℕ → Value) → ℕ → List Value
all_of element k = map element (range_with_len 0 k)

-- those behind the n-th
abbrev behind : (ℕ → Value) → ℕ → ℕ → List Value
behind element count n = map element (range_with_len (n + 1) (count - suc n))

pub done_within : (count : ℕ) (m : Making) (n : ℕ) (w : Value) → n < count → done m count n w ≤ count
done_within count (Tests Any) n w h = omega (arith, h)
done_within count (Tests All) n w h = omega (arith, h)
done_within count (Tests First) n w h = by (truth w)
  where
    by : (b : Bool) → cond b count (n + 1) ≤ count
    by true = omega arith
    by false = omega (arith, h)
done_within count (Joins t) n w h = omega (arith, h)

-- each element that is gone over is done with
pub done_further : (count : ℕ) (m : Making) (n : ℕ) (w : Value) → n < count → n < done m count n w
done_further count (Tests Any) n w h = omega arith
done_further count (Tests All) n w h = omega arith
done_further count (Tests First) n w h = by (truth w)
  where
    by : (b : Bool) → n < cond b count (n + 1)
    by true = h
    by false = omega arith
done_further count (Joins t) n w h = omega arith

-- before the first
pub gone_begun : (A : Instance → Value → Type 0) (element : ℕ → Value) (f : Value → Demands Instance Value) (count : ℕ) (m : Making) → HasGone A element f count m 0 (begun m)
gone_begun A element f count (Tests Any) = (false, refl, nowhere)
gone_begun A element f count (Tests All) = (true, refl, nowhere)
gone_begun A element f count (Tests First) = seeks none
gone_begun A element f count (Joins t) = nothing

module _ {A : Instance → Value → Type 0} (element : ℕ → Value) (f : Value → Demands Instance Value) (count : ℕ) where
  -- whether the condition is true at an element
  sought_by : (b : Bool) {n : ℕ} {w : Value} {ds : List Instance} → n < count → Passed A element f n → Ends A (f (element n)) w ds → truth w ≡ b → Sought A element f count (cond b count (n + 1)) (cond b (element n) (Node Null))
  sought_by true within passed ends is = found within passed ends is
  sought_by false within passed ends is = seeks (more passed ends is)

  sought_further : {n : ℕ} {v w : Value} {ds : List Instance} → n < count → Sought A element f count n v → Ends A (f (element n)) w ds → Sought A element f count (cond (truth w) count (n + 1)) (cond (truth w) (element n) v)
  sought_further {w = w} within (seeks passed) ends = sought_by (truth w) within passed ends refl
  sought_further within (found earlier passed there holds) ends = absurd (omega (arith, within))

  -- behind one more
  pub gone_further : (m : Making) (n : ℕ) (v w : Value) {ds : List Instance} → n < count → HasGone A element f count m n v → Ends A (f (element n)) w ds → HasGone A element f count m (done m count n w) (made m (element n) v w)
  gone_further (Tests Any) n v w within h ends = (put false h.0 (truth w), ap (λ x. Truth (put false (truth x) (truth w))) h.1, further h.2 ends)
  gone_further (Tests All) n v w within h ends = (put true h.0 (truth w), ap (λ x. Truth (put true (truth x) (truth w))) h.1, further h.2 ends)
  gone_further (Tests First) n v w within h ends = sought_further within h ends
  gone_further (Joins t) n v w within h ends = joined h ends

  -- it is stuck where the next element is
  sought_halts : {n : ℕ} {v : Value} → n < count → Sought A element f count n v → {j : Instance} {ds : List Instance} → Halts A (f (element n)) j ds → (es : List Instance) × Halts A (first_with (all_of element count) f) j es
  sought_halts {n} within (seeks passed) {j} halts =
      let whole = passed_halts element f passed (suc (count - suc n)) (halts_first (λ v. cond (truth v) (Gives (element n)) (first_with (behind element count n) f)) halts) in
      (whole.0, subst (λ k. Halts A (first_with (all_of element k) f) j whole.0) (rest_of n count within) whole.1)
  sought_halts within (found earlier passed there holds) halts = absurd (omega (arith, within))

  all_halts : (p : Bool → Bool → Bool) (start : Bool) (n : ℕ) (b : Bool) → n < count → Went A element f p start n b → {j : Instance} {ds : List Instance} → Halts A (f (element n)) j ds → (es : List Instance) × Halts A (at_each p start (all_of element count) f) j es
  all_halts p start n b within went {j} halts =
      let whole = went_halts element f p start went (suc (count - suc n)) (halts_first (λ v. at_each p (p b (truth v)) (behind element count n) f) halts) in
      (whole.0, subst (λ k. Halts A (at_each p start (all_of element k) f) j whole.0) (rest_of n count within) whole.1)

  pub gone_halts : (m : Making) (n : ℕ) (v : Value) → n < count → HasGone A element f count m n v → {j : Instance} {ds : List Instance} → Halts A (f (element n)) j ds → (es : List Instance) × Halts A (over m (all_of element count) f) j es
  gone_halts (Tests Any) n v within h halts = all_halts (put false) false n h.0 within h.2 halts
  gone_halts (Tests All) n v within h halts = all_halts (put true) true n h.0 within h.2 halts
  gone_halts (Tests First) n v within h halts = sought_halts within h halts
  gone_halts (Joins t) n v within h {j} halts =
      let whole = joined_halts element f t h (suc (count - suc n)) (halts_first (λ w. united t (set_operate Union t v w) (behind element count n) f) halts) in
      (whole.0, subst (λ k. Halts A (united t (default_of t) (all_of element k) f) j whole.0) (rest_of n count within) whole.1)

  -- it ends behind all elements
  ended : (v : Value) → Ends A (Gives v) v []
  ended v = gives

  sought_ends : {n : ℕ} {v : Value} → n ≡ count → Sought A element f count n v → (es : List Instance) × Ends A (first_with (all_of element count) f) v es
  sought_ends {n} all (seeks passed) =
      let whole = passed_ends element f passed 0 (ended (Node Null)) in
      (whole.0, subst (λ k. Ends A (first_with (all_of element k) f) (Node Null) whole.0) (none_left n count all) whole.1)
  sought_ends all (found {n = k} {v = w} within passed there holds) =
      let rest = first_with (behind element count k) f in
      let taken : cond (truth w) (Gives (element k)) rest ≡ Gives (element k) = ap (λ b. cond b (Gives (element k)) rest) holds in
      let ends = ends_next (λ v. cond (truth v) (Gives (element k)) rest) there (subst (λ c. Ends A c (element k) []) (sym taken) (ended (element k))) in
      let whole = passed_ends element f passed (suc (count - suc k)) ends in
      (whole.0, subst (λ n. Ends A (first_with (all_of element n) f) (element k) whole.0) (rest_of k count within) whole.1)

  all_ends : (p : Bool → Bool → Bool) (start : Bool) (n : ℕ) (v : Value) (b : Bool) → n ≡ count → v ≡ Truth b → Went A element f p start n b → (es : List Instance) × Ends A (at_each p start (all_of element count) f) v es
  all_ends p start n v b all is went =
      let whole = went_ends element f p start went 0 (ended (Truth b)) in
      let there = subst (λ k. Ends A (at_each p start (all_of element k) f) (Truth b) whole.0) (none_left n count all) whole.1 in
      (whole.0, subst (λ x. Ends A (at_each p start (all_of element count) f) x whole.0) (sym is) there)

  pub gone_ends : (m : Making) (n : ℕ) (v : Value) → n ≡ count → HasGone A element f count m n v → (es : List Instance) × Ends A (over m (all_of element count) f) v es
  gone_ends (Tests Any) n v all h = all_ends (put false) false n v h.0 all h.1 h.2
  gone_ends (Tests All) n v all h = all_ends (put true) true n v h.0 all h.1 h.2
  gone_ends (Tests First) n v all h = sought_ends all h
  gone_ends (Joins t) n v all h =
      let whole = joined_ends element f t h 0 (ended v) in
      (whole.0, subst (λ k. Ends A (united t (default_of t) (all_of element k) f) v whole.0) (none_left n count all) whole.1)
