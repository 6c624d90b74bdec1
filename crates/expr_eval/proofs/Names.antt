-- The values of names.
use Rattle.std.proofs.Common.{◌≡◌, ℕ, zero, suc, ◌+◌, arith, Bool, true, false, List, [], ◌∷◌, length, map, Some, None, slice_get, refl, sym, ap, ◌∙◌}
use Rattle.equation_law.specs.declared.coding.Single.{Single as CodedSingle}
use Rattle.equation_law.specs.Codes.{IsNamingOf, Naming, reference_by, single_by}
use Rattle.equation_law.specs.Meaning.{named}
use Rattle.std.specs.List.{range_with_len}
use Rattle.equation_law.specs.Names.{Null, same_reference}
use Rattle.equation_law.specs.Program.{Program}
use Rattle.equation_law.specs.Values.{Node, Value}
use Rattle.equation_law.proofs.Codes.{one_reference}
use Rattle.equation_law.proofs.Names.{same_reference_is, same_reference_self}

module _ (n : Naming) where
  pub named_there : (names : List CodedSingle) (k : ℕ) (v : CodedSingle) → slice_get names k ≡ Some v → single_by n v ≡ named (map (single_by n) names) k
  named_there [] k v e = cc
  named_there (x ∷ names) zero v e = let same : x ≡ v = cc in ap (single_by n) (sym same)
  named_there (x ∷ names) (suc k) v e = named_there names k v e

  pub named_nowhere : (names : List CodedSingle) (k : ℕ) → slice_get names k ≡ None → Node Null ≡ named (map (single_by n) names) k
  named_nowhere [] k e = refl
  named_nowhere (x ∷ names) zero e = cc
  named_nowhere (x ∷ names) (suc k) e = named_nowhere names k e

-- what is asked from a place on, with one more in front, is what is asked one place earlier
shifted : (v : Value) (vs : List Value) (n m : ℕ) → map (named (v ∷ vs)) (range_with_len (suc n) m) ≡ map (named vs) (range_with_len n m)
shifted v vs n zero = refl
shifted v vs n (suc m) = let one : suc n + 1 ≡ suc (n + 1) = omega arith in ap (λ ws. named vs n ∷ ws) (ap (λ k. map (named (v ∷ vs)) (range_with_len k m)) one ∙ shifted v vs (n + 1) m)

-- those at all places are all
pub all_named : (vs : List Value) → map (named vs) (range_with_len 0 (length vs)) ≡ vs
all_named [] = refl
all_named (v ∷ vs) = ap (λ ws. v ∷ ws) (shifted v vs 0 (length vs) ∙ all_named vs)

-- by a naming for a program two codes stand for one node exactly where they are one
pub same_codes : {p : Program} {n : Naming} → IsNamingOf p n → (a b : ℕ) (t : Bool) → (t ≡ true → a ≡ b) → (t ≡ false → a ≡ b → ⊥) → t ≡ same_reference (reference_by n.node a) (reference_by n.node b)
same_codes {n = n} h a b true same other = sym (ap (λ c. same_reference (reference_by n.node c) (reference_by n.node b)) (same refl) ∙ same_reference_self (reference_by n.node b))
same_codes {n = n} h a b false same other = of (same_reference (reference_by n.node a) (reference_by n.node b)) refl
  where
    of : (u : Bool) → same_reference (reference_by n.node a) (reference_by n.node b) ≡ u → false ≡ same_reference (reference_by n.node a) (reference_by n.node b)
    of true e = absurd (other refl (one_reference h a b (same_reference_is (reference_by n.node a) (reference_by n.node b) e)))
    of false e = sym e
