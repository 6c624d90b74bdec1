-- Receivers by their codes, and by what these stand for.
use Rattle.std.proofs.Common.{◌≡◌, ◌≢◌, ℕ, zero, suc, true, false, [], refl, sym, ap, ◌∙◌, arith}
use Rattle.std.specs.Cmp.{tied_itself}
use Rattle.std.specs.Cmp.Lexicographic.{nat_list_cmp_total, slice_cmp}
use Rattle.std.specs.Ordering.{is_eq, nat_cmp}
use Rattle.equation_law.specs.Codes.{IsNamingOf, Naming, reference_by}
use Rattle.equation_law.specs.Names.{At, Null, Reference, node_key, reference_code, same_reference}
use Rattle.equation_law.specs.Program.{Program}
use Rattle.equation_law.proofs.Codes.{one_reference}
use Rattle.equation_law.proofs.Names.{code_anti, is_equal, node_anti}

same_self : (r : Reference) → same_reference r r ≡ true
same_self r = ap is_eq (tied_itself nat_list_cmp_total (reference_code r []))

code_is : (a b : Reference) → reference_code a [] ≡ reference_code b [] → a ≡ b
code_is Null Null e = refl
code_is Null (At n) e = let h : zero ≡ suc zero = cc in absurd (omega (arith, h))
code_is (At m) Null e = let h : suc zero ≡ zero = cc in absurd (omega (arith, h))
code_is (At m) (At n) e =
    let same : node_key m ≡ node_key n = cc in
    ap At (node_anti m n (ap (slice_cmp nat_cmp (node_key m)) (sym same) ∙ tied_itself nat_list_cmp_total (node_key m)))

same_is : (a b : Reference) → same_reference a b ≡ true → a ≡ b
same_is a b e = code_is a b (code_anti _ _ (is_equal _ e))

-- a receiver, by the code of another one, which stands for a node
module _ {p : Program} {names : Naming} (named : IsNamingOf p names) (r : ℕ) (n : Reference) (own : reference_by names.node r ≡ n) (x : ℕ) where
  pub receiver_own : x ≡ r → same_reference (reference_by names.node x) n ≡ true
  receiver_own e = ap (λ (m : Reference). same_reference m n) (ap (reference_by names.node) e ∙ own) ∙ same_self n

  pub receiver_is : same_reference (reference_by names.node x) n ≡ true → x ≡ r
  receiver_is e = one_reference named x r (same_is _ _ e ∙ sym own)

  pub receiver_other : x ≢ r → same_reference (reference_by names.node x) n ≡ false
  receiver_other off = elim (same_reference (reference_by names.node x) n) as (λ t. same_reference (reference_by names.node x) n ≡ t → t ≡ false) [
    | true ↦ λ e. absurd (off (receiver_is e))
    | false ↦ λ e. refl
  ] refl
