-- A form over a list or a set, from how far it has gone.
use Rattle.std.proofs.Common.{◌≡◌, ℕ, suc, ◌+◌, Bool, false, cond, List, map, sym, ap, subst, arith}
use Rattle.std.specs.List.{range_with_len}
use Rattle.solutions.specs.Asking.{Demands, Gives, Ends, Halts}
use Rattle.attr_rules.specs.declared.kinds.Kind.{Kind}
use Rattle.attr_rules.specs.declared.expression.SetOperator.TheVariants.{Union}
use Rattle.equation_law.specs.Meaning.{at_each, first_with, united}
use Rattle.equation_law.specs.Names.{Instance}
use Rattle.equation_law.specs.Values.{Value, default_of, set_operate, truth}
use Rattle.expr_eval.specs.Going.{Joined, Passed, Went, further, joined, more, none, nothing, nowhere}
use Rattle.expr_eval.proofs.Forms.{ends_next, halts_next}

-- so many elements from a place on
abbrev from_on : (ℕ → Value) → ℕ → ℕ → List Value
from_on element n m = map element (range_with_len n m)

none_more : (m : ℕ) → m ≡ 0 + m
none_more m = omega arith

-- one more in front of the others
one_more : (n m : ℕ) → n + suc m ≡ n + 1 + m
one_more n m = omega arith

-- what comes behind an element at which the condition is false
skipped : (element : ℕ → Value) (f : Value → Demands Instance Value) (n m : ℕ) (v : Value) → truth v ≡ false → cond (truth v) (Gives (element n)) (first_with (from_on element (n + 1) m) f) ≡ first_with (from_on element (n + 1) m) f
skipped element f n m v denied = ap (λ b. cond b (Gives (element n)) (first_with (from_on element (n + 1) m) f)) denied

module _ {A : Instance → Value → Type 0} (element : ℕ → Value) (f : Value → Demands Instance Value) where
  module _ (put : Bool → Bool → Bool) (start : Bool) where
    -- what the rest ends with, the whole does
    pub went_ends : {n : ℕ} {b : Bool} → Went A element f put start n b → (m : ℕ) {v : Value} {ds : List Instance} → Ends A (at_each put b (from_on element n m) f) v ds → (es : List Instance) × Ends A (at_each put start (from_on element 0 (n + m)) f) v es
    went_ends nowhere m {v = v} {ds = ds} e = (ds, subst (λ k. Ends A (at_each put start (from_on element 0 k) f) v ds) (none_more m) e)
    went_ends (further {n = n} {b = b} w first) m {v = v} e =
        let r = went_ends w (suc m) (ends_next (λ x. at_each put (put b (truth x)) (from_on element (n + 1) m) f) first e) in
        (r.0, subst (λ k. Ends A (at_each put start (from_on element 0 k) f) v r.0) (one_more n m) r.1)

    -- where the rest halts, the whole does
    pub went_halts : {n : ℕ} {b : Bool} → Went A element f put start n b → (m : ℕ) {j : Instance} {ds : List Instance} → Halts A (at_each put b (from_on element n m) f) j ds → (es : List Instance) × Halts A (at_each put start (from_on element 0 (n + m)) f) j es
    went_halts nowhere m {j = j} {ds = ds} e = (ds, subst (λ k. Halts A (at_each put start (from_on element 0 k) f) j ds) (none_more m) e)
    went_halts (further {n = n} {b = b} w first) m {j = j} e =
        let r = went_halts w (suc m) (halts_next (λ x. at_each put (put b (truth x)) (from_on element (n + 1) m) f) first e) in
        (r.0, subst (λ k. Halts A (at_each put start (from_on element 0 k) f) j r.0) (one_more n m) r.1)

  pub passed_ends : {n : ℕ} → Passed A element f n → (m : ℕ) {v : Value} {ds : List Instance} → Ends A (first_with (from_on element n m) f) v ds → (es : List Instance) × Ends A (first_with (from_on element 0 (n + m)) f) v es
  passed_ends none m {v = v} {ds = ds} e = (ds, subst (λ k. Ends A (first_with (from_on element 0 k) f) v ds) (none_more m) e)
  passed_ends (more {n = n} {v = x} w first denied) m {v = v} {ds = ds} e =
      let here = subst (λ c. Ends A c v ds) (sym (skipped element f n m x denied)) e in
      let r = passed_ends w (suc m) (ends_next (λ y. cond (truth y) (Gives (element n)) (first_with (from_on element (n + 1) m) f)) first here) in
      (r.0, subst (λ k. Ends A (first_with (from_on element 0 k) f) v r.0) (one_more n m) r.1)

  pub passed_halts : {n : ℕ} → Passed A element f n → (m : ℕ) {j : Instance} {ds : List Instance} → Halts A (first_with (from_on element n m) f) j ds → (es : List Instance) × Halts A (first_with (from_on element 0 (n + m)) f) j es
  passed_halts none m {j = j} {ds = ds} e = (ds, subst (λ k. Halts A (first_with (from_on element 0 k) f) j ds) (none_more m) e)
  passed_halts (more {n = n} {v = x} w first denied) m {j = j} {ds = ds} e =
      let here = subst (λ c. Halts A c j ds) (sym (skipped element f n m x denied)) e in
      let r = passed_halts w (suc m) (halts_next (λ y. cond (truth y) (Gives (element n)) (first_with (from_on element (n + 1) m) f)) first here) in
      (r.0, subst (λ k. Halts A (first_with (from_on element 0 k) f) j r.0) (one_more n m) r.1)

  module _ (t : Kind) where
    -- what the rest ends with, the whole does
    pub joined_ends : {n : ℕ} {w : Value} → Joined A element f t n w → (m : ℕ) {v : Value} {ds : List Instance} → Ends A (united t w (from_on element n m) f) v ds → (es : List Instance) × Ends A (united t (default_of t) (from_on element 0 (n + m)) f) v es
    joined_ends nothing m {v = v} {ds = ds} e = (ds, subst (λ k. Ends A (united t (default_of t) (from_on element 0 k) f) v ds) (none_more m) e)
    joined_ends (joined {n = n} {w = w} j first) m {v = v} e =
        let r = joined_ends j (suc m) (ends_next (λ x. united t (set_operate Union t w x) (from_on element (n + 1) m) f) first e) in
        (r.0, subst (λ k. Ends A (united t (default_of t) (from_on element 0 k) f) v r.0) (one_more n m) r.1)

    -- where the rest halts, the whole does
    pub joined_halts : {n : ℕ} {w : Value} → Joined A element f t n w → (m : ℕ) {i : Instance} {ds : List Instance} → Halts A (united t w (from_on element n m) f) i ds → (es : List Instance) × Halts A (united t (default_of t) (from_on element 0 (n + m)) f) i es
    joined_halts nothing m {i = i} {ds = ds} e = (ds, subst (λ k. Halts A (united t (default_of t) (from_on element 0 k) f) i ds) (none_more m) e)
    joined_halts (joined {n = n} {w = w} j first) m {i = i} e =
        let r = joined_halts j (suc m) (halts_next (λ x. united t (set_operate Union t w x) (from_on element (n + 1) m) f) first e) in
        (r.0, subst (λ k. Halts A (united t (default_of t) (from_on element 0 k) f) i r.0) (one_more n m) r.1)
