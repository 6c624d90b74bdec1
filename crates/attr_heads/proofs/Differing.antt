-- Parameters that are compared one by one.
use Rattle.std.proofs.Common.{◌≡◌, ◌≢◌, ℕ, zero, suc, ◌≤◌, Bool, true, false, ◌||◌, List, [], ◌∷◌, Option, Some, slice_get, drop, length, refl, ap, ◌∙◌}
use Rattle.std.proofs.Math.ListN.{drop_of_length-le}
use Rattle.ast_grammar.specs.Grammar.{Class}
use Rattle.attr_rules.specs.declared.kinds.Kind.{Kind}
use Rattle.aspect_items.specs.Items.{Parameter}
use Rattle.attr_heads.specs.Parameters.{differ, is_other_type}

-- what is left after the k-th
pub differ_step : (g : List Class) (ks : List (Option Kind)) (ps : List Parameter) (k : ℕ) (x : Option Kind) (p : Parameter) → slice_get ks k ≡ Some x → slice_get ps k ≡ Some p
    → differ g (drop k ks) (drop k ps) ≡ (is_other_type g x p.of || differ g (drop (suc k) ks) (drop (suc k) ps))
differ_step g [] ps k x p e f = cc
differ_step g (y ∷ ks) [] k x p e f = cc
differ_step g (y ∷ ks) (q ∷ ps) zero x p e f =
    let one : y ≡ x = cc in
    let two : q ≡ p = cc in
    (λ i. is_other_type g (one i) (two i).of || differ g ks ps)
differ_step g (y ∷ ks) (q ∷ ps) (suc k) x p e f = differ_step g ks ps k x p e f

-- not so many
pub differ_number : (g : List Class) (ks : List (Option Kind)) (ps : List Parameter) → length ks ≢ length ps → differ g ks ps ≡ true
differ_number g [] [] n = absurd (n refl)
differ_number g [] (p ∷ ps) n = refl
differ_number g (k ∷ ks) [] n = refl
differ_number g (k ∷ ks) (p ∷ ps) n = ap (λ b. is_other_type g k p.of || b) (differ_number g ks ps (λ e. n (ap suc e))) ∙ or_true (is_other_type g k p.of)
  where
    or_true : (b : Bool) → (b || true) ≡ true
    or_true true = refl
    or_true false = refl

-- none is left
pub differ_end : (g : List Class) (ks : List (Option Kind)) (ps : List Parameter) (k : ℕ) → length ks ≤ k → length ps ≤ k → differ g (drop k ks) (drop k ps) ≡ false
differ_end g ks ps k a b = λ i. differ g (drop_of_length-le ks a i) (drop_of_length-le ps b i)
