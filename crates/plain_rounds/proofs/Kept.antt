-- A map that has the first place of each code of a list.
use Rattle.std.proofs.Common.{◌≡◌, ℕ, suc, ◌+◌, Bool, true, false, cond, List, [], ◌∷◌, ◌++◌, length, Option, Some, None, is_some, refl, sym, ap, subst, ◌∙◌, arith, take, get_or, ◌<◌}
use Rattle.std.proofs.lemmas.List.{length-take, take_more}
use Rattle.std.specs.Option.{option_map}
use Rattle.std.specs.HashMap.{HashMap, Updates}
use Rattle.solutions.specs.Rounds.{or_else}
use Rattle.equation_law.specs.declared.coding.Instance.{Instance as CodedInstance}
use Rattle.equation_law.proofs.Keys.{key_is}
use Rattle.plain_rounds.specs.Places.{first_place, kept_place, same_code}
use Rattle.plain_rounds.proofs.Firsts.{first_put, not_there, or_none}

module _ {S : Type 0} (m : HashMap CodedInstance ℕ S) where
  -- what is kept of a code is kept of each that is equal to it
  kept_alike : (j q : CodedInstance) → same_code j q ≡ true → kept_place m q ≡ kept_place m j
  kept_alike j q e = ap (kept_place m) (sym (key_is j q e))

  -- the place that is put is kept
  pub kept_now : (n : HashMap CodedInstance ℕ S) (j : CodedInstance) (k : ℕ) (b : Bool) → b ≡ is_some (kept_place m j) → b ≡ false → Updates same_code m n j (Some k) → (q : CodedInstance) → kept_place n q ≡ or_else (kept_place m q) (cond (same_code j q) (Some k) None)
  kept_now n j k b is off u q = first_put same_code m n j k (λ r e. kept_alike j r e ∙ not_there (kept_place m j) b is off) u q

  -- something is there, and stays
  there : (o : Option ℕ) (k : ℕ) → is_some o ≡ true → o ≡ or_else o (Some k)
  there None k e = cc
  there (Some x) k e = refl

  -- where one is kept already, nothing changes
  pub kept_before : (j : CodedInstance) (k : ℕ) (b : Bool) → b ≡ is_some (kept_place m j) → b ≡ true → (q : CodedInstance) → kept_place m q ≡ or_else (kept_place m q) (cond (same_code j q) (Some k) None)
  kept_before j k b is on q =
      elim (same_code j q) as (λ x. same_code j q ≡ x → kept_place m q ≡ or_else (kept_place m q) (cond x (Some k) None)) [
        | true ↦ λ e. there (kept_place m q) k (ap is_some (kept_alike j q e) ∙ sym is ∙ on)
        | false ↦ λ e. or_none (kept_place m q)
      ] refl

-- one code more at the end
place_more : (names : List CodedInstance) (j q : CodedInstance) → first_place (names ++ j ∷ []) q ≡ or_else (first_place names q) (cond (same_code j q) (Some (length names)) None)
place_more [] j q = refl
place_more (n ∷ names) j q =
    elim (same_code n q) as (λ b. cond b (Some 0) (option_map suc (first_place (names ++ j ∷ []) q)) ≡ or_else (cond b (Some 0) (option_map suc (first_place names q))) (cond (same_code j q) (Some (length (n ∷ names))) None)) [
      | true ↦ refl
      | false ↦ ap (option_map suc) (place_more names j q) ∙ later (first_place names q) (same_code j q)
    ]
  where
    later : (o : Option ℕ) (b : Bool) → option_map suc (or_else o (cond b (Some (length names)) None)) ≡ or_else (option_map suc o) (cond b (Some (length (n ∷ names))) None)
    later None true = refl
    later None false = refl
    later (Some x) b = refl

-- the same through the first so many names
place_next : (names : List CodedInstance) (k : ℕ) (d : CodedInstance) → k < length names → (q : CodedInstance) → first_place (take (k + 1) names) q ≡ or_else (first_place (take k names) q) (cond (same_code (get_or names k d) q) (Some k) None)
place_next names k d h q =
    let l : length (take k names) ≡ k = omega (arith, length-take k names) in
    let m = place_more (take k names) (get_or names k d) q in
    ap (λ xs. first_place xs q) (take_more names k d h) ∙ subst (λ (n : ℕ). first_place (take k names ++ get_or names k d ∷ []) q ≡ or_else (first_place (take k names) q) (cond (same_code (get_or names k d) q) (Some n) None)) l m

-- a map that has the places in the first so many names, and the next one too
pub next_kept : (names : List CodedInstance) (k : ℕ) (d : CodedInstance) (f g : CodedInstance → Option ℕ) → k < length names → ((q : CodedInstance) → f q ≡ first_place (take k names) q) → ((q : CodedInstance) → g q ≡ or_else (f q) (cond (same_code (get_or names k d) q) (Some k) None)) → (q : CodedInstance) → g q ≡ first_place (take (k + 1) names) q
next_kept names k d f g h before here q =
    here q ∙ ap (λ o. or_else o (cond (same_code (get_or names k d) q) (Some k) None)) (before q) ∙ sym (place_next names k d h q)
