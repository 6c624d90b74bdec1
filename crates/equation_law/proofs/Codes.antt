-- Namings, and codes of 32 bits that stand for integers.
use Rattle.std.proofs.Common.{◌≡◌, ℕ, zero, suc, ◌+◌, ◌<◌, ◌≤◌, ◌^◌, ℤ, pos, Option, Some, None, IfSome, length, unsigned_abs, arith, ap, ◌∙◌, refl, sym, inl, inr}
use Rattle.std.specs.Int.{cast_signed, int_wrap}
use Rattle.std.proofs.Math.Nat.{mod-eq_of_lt}
use Rattle.std.proofs.lemmas.Bool.{cases_lt}
use Rattle.std.proofs.lemmas.Int.{int_rem_euclid_is}
use mir.Syntax.{w32}
use Rattle.tree_arena.specs.Nodes.{most_nodes}
use Rattle.equation_law.specs.Codes.{IsNamingOf, Naming, reference_by, reference_of, source_names}
use Rattle.equation_law.specs.Equations.{source_or_null}
use Rattle.equation_law.specs.Names.{At, Made, NodeName, Null, Source}
use Rattle.equation_law.specs.Program.{Program, text_of}

-- a code wraps to its two's complement
pub signed : (v : ℕ) → v < 2 ^ 32 → cast_signed w32 v ≡ int_wrap w32 (pos v)
unfolding int_wrap
signed v h =
    let none : v + 0 ≡ v = omega arith in
    ap (λ (z : ℤ). cast_signed w32 (unsigned_abs z)) (sym (int_rem_euclid_is (pos v) (pos (2 ^ 32)) (2 ^ 32) 0 v (omega arith) refl (ap pos none) ∙ ap pos (mod-eq_of_lt h)))

-- no two numbers are of one source node
pub one_source : (j k : ℕ) → Source j ≡ Source k → j ≡ k
one_source j k same = cc

-- a program has a naming where nothing was made
pub sources_named : (p : Program) → IsNamingOf p (source_names (text_of p))
sources_named p = record { texts = refl; sources = λ k l. refl; trees = λ k a r xs q e. absurd (cc); one_code = one_source }

-- by a naming for a program a node has one code, and so has null
pub one_reference : {p : Program} {n : Naming} → IsNamingOf p n → (a b : ℕ) → reference_by n.node a ≡ reference_by n.node b → a ≡ b
one_reference h zero zero same = refl
one_reference h zero (suc b) same = cc
one_reference h (suc a) zero same = cc
one_reference {n = n} h (suc a) (suc b) same = ap suc (h.one_code a b (at_node same))
  where
    at_node : At (n.node a) ≡ At (n.node b) → n.node a ≡ n.node b
    at_node e = cc

-- and no source node of the program is made
pub sources_named_by : {p : Program} {n : Naming} → IsNamingOf p n → (k : ℕ) → k < most_nodes → reference_by n.node (suc k) ≡ At (Source k)
sources_named_by h k within = ap At (h.sources k within)

-- no source node of the program, if it is a source node
abbrev pub IsPast : Program → NodeName → Type 0
IsPast p (Source j) = length p.tree ≤ j
IsPast p (Made a r xs q) = Unit {0}

-- a code past the tree stands for no source node of the program
pub past_tree : {p : Program} {n : Naming} → IsNamingOf p n → length p.tree ≤ most_nodes → (k : ℕ) → length p.tree ≤ k → IsPast p (n.node k)
past_tree {p} {n} h few k past = of (n.node k) refl
  where
    of : (x : NodeName) → n.node k ≡ x → IsPast p x
    of (Source j) e = elim (cases_lt j (length p.tree)) [
      | inl w ↦ absurd (let same = h.one_code k j (e ∙ sym (h.sources j (omega (arith, w, few)))) in omega (arith, same, w, past))
      | inr w ↦ w
    ]
    of (Made a r xs q) e = tt

-- the code of a source node, or of null, stands for it by each naming for the program
pub source_by : {p : Program} {n : Naming} → IsNamingOf p n → (o : Option ℕ) → IfSome o (λ k. k < most_nodes) → (c : ℕ) → reference_of c ≡ source_or_null o → reference_by n.node c ≡ source_or_null o
source_by h None within zero e = refl
source_by h None within (suc c) e = cc
source_by h (Some k) within zero e = cc
source_by {n = n} h (Some k) within (suc c) e = let same : c ≡ k = cc in ap (λ j. At (n.node j)) same ∙ ap At (h.sources k within)

-- the node of a code by a naming, from the number that it has as a source node
pub null_by : (nodes : ℕ → NodeName) (c : ℕ) → Null ≡ reference_of c → reference_by nodes c ≡ Null
null_by nodes zero e = refl
null_by nodes (suc c) e = cc

pub node_by : (nodes : ℕ → NodeName) (k c : ℕ) → At (Source k) ≡ reference_of c → reference_by nodes c ≡ At (nodes k)
node_by nodes k zero e = cc
node_by nodes k (suc c) e = let same : c ≡ k = cc in ap (λ j. At (nodes j)) same
