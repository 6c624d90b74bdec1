-- Which codes a set has, and what they stand for.
use Rattle.std.proofs.Common.{◌≡◌, ℕ, zero, suc, true, inl, inr, ⊎_elim, List, [], ◌∷◌, map, refl, sym, ap, ◌∙◌, subst, arith}
use Rattle.std.specs.Cmp.{IsTotalOrder, tied_itself}
use Rattle.std.specs.Cmp.Lexicographic.{nat_list_cmp_total}
use Rattle.std.specs.FinMap.{IsAntisymmetric, nat_cmp-IsAntisymmetric}
use Rattle.std.specs.Ordering.{eq_by_cmp, is_eq, nat_cmp}
use Rattle.std.specs.declared.cmp.Ordering.{Ordering}
use Rattle.std.proofs.lemmas.Cmp.{nat_cmp_total}
use Rattle.code_sets.specs.Members.{has_code}
use Rattle.equation_law.specs.Codes.{nodes_by, reference_by}
use Rattle.equation_law.specs.Names.{At, NodeName, node_cmp, text_cmp}
use Rattle.equation_law.specs.Sets.{has, set_of}
use Rattle.equation_law.proofs.Names.{code_anti, is_equal, node_anti}
use Rattle.equation_law.proofs.Orders.{node_total}
use Rattle.equation_law.proofs.Sets.{has-set_of}
use Rattle.memo_cells.specs.Views.{Has}
use Rattle.memo_cells.proofs.Counting.{any_has, has_any}

-- an element of a list stands in it
pub among : (cs : List ℕ) (c : ℕ) → has_code cs c ≡ true → Has cs c
among cs c e =
    let h = has_any (eq_by_cmp nat_cmp c) cs e in
    subst (Has cs) (sym (nat_cmp-IsAntisymmetric c h.0 (is_equal _ h.2))) h.1

pub is_among : (cs : List ℕ) (c : ℕ) → Has cs c → has_code cs c ≡ true
is_among cs c h = any_has (eq_by_cmp nat_cmp c) cs c h (ap is_eq (tied_itself nat_cmp_total c))

module _ {K : Type 0} {R : K → K → Ordering} (o : IsTotalOrder R) (same : IsAntisymmetric R) where
  -- so it does in the set of the list
  in_set : (xs : List K) (q : K) → Has xs q → has (set_of {R = R} xs) q ≡ true
  in_set xs q h = has-set_of {R = R} o xs q ∙ any_has (eq_by_cmp R q) xs q h (ap is_eq (tied_itself o q))

  set_in : (xs : List K) (q : K) → has (set_of {R = R} xs) q ≡ true → Has xs q
  set_in xs q e =
      let h = has_any (eq_by_cmp R q) xs (sym (has-set_of {R = R} o xs q) ∙ e) in
      subst (Has xs) (sym (same q h.0 (is_equal _ h.2))) h.1

has_map : {K : Type 0} (of : ℕ → K) (cs : List ℕ) (c : ℕ) → Has cs c → Has (map of cs) (of c)
has_map of [] c h = absurd h
has_map of (x ∷ cs) c h = ⊎_elim (λ e. inl (ap of e)) (λ r. inr (has_map of cs c r)) h

map_has : {K : Type 0} (of : ℕ → K) (cs : List ℕ) (q : K) → Has (map of cs) q → (c : ℕ) × Has cs c × (of c ≡ q)
map_has of [] q h = absurd h
map_has of (x ∷ cs) q h = ⊎_elim (λ e. (x, inl refl, sym e)) (λ r. let t = map_has of cs q r in (t.0, inr t.1, t.2)) h

has_nodes : (of : ℕ → NodeName) (cs : List ℕ) (c : ℕ) (n : NodeName) → reference_by of c ≡ At n → Has cs c → Has (nodes_by of cs) n
has_nodes of [] c n e h = absurd h
has_nodes of (x ∷ cs) zero n e h = cc
has_nodes of (zero ∷ cs) (suc k) n e h = ⊎_elim (λ z. absurd (omega (arith, z))) (λ r. has_nodes of cs (suc k) n e r) h
has_nodes of (suc x ∷ cs) (suc k) n e h = ⊎_elim (λ s. inl (let same : reference_by of (suc x) ≡ At n = ap (reference_by of) (sym s) ∙ e in cc)) (λ r. inr (has_nodes of cs (suc k) n e r)) h

nodes_have : (of : ℕ → NodeName) (cs : List ℕ) (n : NodeName) → Has (nodes_by of cs) n → (c : ℕ) × Has cs c × (reference_by of c ≡ At n)
nodes_have of [] n h = absurd h
nodes_have of (zero ∷ cs) n h = let t = nodes_have of cs n h in (t.0, inr t.1, t.2)
nodes_have of (suc x ∷ cs) n h = ⊎_elim (λ e. (suc x, inl refl, ap At (sym e))) (λ r. let t = nodes_have of cs n r in (t.0, inr t.1, t.2)) h

-- the text of a code is one of the set, and each text has a code
pub text_in : (of : ℕ → List ℕ) (cs : List ℕ) (c : ℕ) → has_code cs c ≡ true → has (set_of {R = text_cmp} (map of cs)) (of c) ≡ true
text_in of cs c e = in_set {R = text_cmp} nat_list_cmp_total code_anti (map of cs) (of c) (has_map of cs c (among cs c e))

pub text_code : (of : ℕ → List ℕ) (cs : List ℕ) (t : List ℕ) → has (set_of {R = text_cmp} (map of cs)) t ≡ true → (c : ℕ) × (has_code cs c ≡ true) × (of c ≡ t)
text_code of cs t e = let h = map_has of cs t (set_in {R = text_cmp} nat_list_cmp_total code_anti (map of cs) t e) in (h.0, is_among cs h.0 h.1, h.2)

-- and so it is with nodes
pub node_in : (of : ℕ → NodeName) (cs : List ℕ) (c : ℕ) (n : NodeName) → reference_by of c ≡ At n → has_code cs c ≡ true → has (set_of {R = node_cmp} (nodes_by of cs)) n ≡ true
node_in of cs c n at e = in_set {R = node_cmp} node_total node_anti (nodes_by of cs) n (has_nodes of cs c n at (among cs c e))

pub node_code : (of : ℕ → NodeName) (cs : List ℕ) (n : NodeName) → has (set_of {R = node_cmp} (nodes_by of cs)) n ≡ true → (c : ℕ) × (has_code cs c ≡ true) × (reference_by of c ≡ At n)
node_code of cs n e = let h = nodes_have of cs n (set_in {R = node_cmp} node_total node_anti (nodes_by of cs) n e) in (h.0, is_among cs h.0 h.1, h.2)
