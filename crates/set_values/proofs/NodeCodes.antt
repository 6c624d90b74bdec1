-- Sets of nodes, by the codes of the nodes: no two codes stand for one node.
use Rattle.std.proofs.Common.{◌≡◌, ℕ, zero, suc, ◌+◌, ◌<◌, false, List, [], ◌∷◌, length, map, get_or, arith, refl, sym, ap, ◌∙◌}
use Rattle.std.specs.declared.cmp.Ordering.TheVariants.{Less}
use Rattle.std.specs.Cmp.{nat_cmp_is, tied_itself}
use Rattle.std.specs.List.{All}
use Rattle.std.specs.List.Sorted.{IsPermutation, IsSortedByKey}
use Rattle.std.specs.FinMap.{nat_cmp-IsAntisymmetric}
use Rattle.std.specs.Ordering.{eq_by_cmp, is_eq, is_lt, nat_cmp, ordering_reverse}
use Rattle.std.proofs.lemmas.Cmp.{nat_cmp_total}
use Rattle.std.proofs.lemmas.List.Elements.{All-get_or, All-head, All-tail, All-weaker}
use Rattle.std.proofs.lemmas.List.Folds.{list_any_none}
use Rattle.std.proofs.lemmas.List.Sorted.{All-permutation, IsPermutation-refl}
use Rattle.std.proofs.lemmas.Map.Keys.{below_from_sorted}
use Rattle.code_sets.specs.Members.{AreMade, Rises, has_code}
use Rattle.attr_rules.specs.declared.expression.SetOperator.{SetOperator}
use Rattle.equation_law.specs.Codes.{nodes_by, reference_by, reference_of}
use Rattle.equation_law.specs.Names.{NodeName, Source, node_cmp}
use Rattle.equation_law.specs.Reading.{reference_cmp}
use Rattle.equation_law.specs.Sets.{elements, has, set_of, size}
use Rattle.equation_law.specs.Values.{combined, has_node}
use Rattle.equation_law.proofs.Codes.{one_source}
use Rattle.equation_law.proofs.Keys.{both_ways}
use Rattle.equation_law.proofs.Names.{is_equal, node_anti}
use Rattle.equation_law.proofs.Orders.{node_total}
use Rattle.set_values.specs.CodedSets.{node_set, nodes_set, with_operator}
use Rattle.set_values.proofs.Coded.{elements_coded, has_coded, holds_made, made_coded, size_coded}

-- a code that isn't null's
abbrev pub IsNode : ℕ → Type 0
IsNode c = 0 < c

-- no two codes stand for one node
abbrev pub AreApart : (ℕ → NodeName) → Type 0
AreApart nodes = (j k : ℕ) → nodes j ≡ nodes k → j ≡ k

-- the node of such a code
abbrev pub node_named : (ℕ → NodeName) → ℕ → NodeName
node_named nodes zero = nodes zero
node_named nodes (suc k) = nodes k

-- some codes of nodes stand for these nodes
nodes_named : (nodes : ℕ → NodeName) (cs : List ℕ) → All IsNode cs → nodes_by nodes cs ≡ map (node_named nodes) cs
nodes_named nodes [] a = refl
nodes_named nodes (zero ∷ cs) a = absurd (omega (arith, All-head IsNode zero cs a))
nodes_named nodes (suc k ∷ cs) a = ap (λ ns. nodes k ∷ ns) (nodes_named nodes cs (All-tail IsNode (suc k) cs a))

module _ (nodes : ℕ → NodeName) (apart : AreApart nodes) where
  -- two codes of nodes are equal where the nodes are
  nodes_tied : (m n : ℕ) → IsNode m → IsNode n → eq_by_cmp nat_cmp m n ≡ eq_by_cmp node_cmp (node_named nodes m) (node_named nodes n)
  nodes_tied zero n h k = absurd (omega (arith, h))
  nodes_tied (suc m) zero h k = absurd (omega (arith, k))
  nodes_tied (suc m) (suc n) h k =
      both_ways
      (eq_by_cmp nat_cmp (suc m) (suc n))
      (eq_by_cmp node_cmp (nodes m) (nodes n))
      (λ e. let same : m ≡ n = omega (arith, nat_cmp-IsAntisymmetric (suc m) (suc n) (is_equal _ e)) in ap (λ j. is_eq (node_cmp (nodes m) (nodes j))) (sym same) ∙ ap is_eq (tied_itself node_total (nodes m)))
      (λ e. ap (λ j. is_eq (nat_cmp (suc m) (suc j))) (sym (apart m n (node_anti (nodes m) (nodes n) (is_equal _ e)))) ∙ ap is_eq (tied_itself nat_cmp_total (suc m)))

  -- a node is one of some exactly where its code is one of theirs; null is never
  pub has_node_by : (n : ℕ) (cs : List ℕ) → All IsNode cs → has_node (nodes_set nodes cs) (reference_by nodes n) ≡ has_code cs n
  has_node_by zero cs a = sym (list_any_none (eq_by_cmp nat_cmp zero) cs (All-weaker IsNode (λ c. eq_by_cmp nat_cmp zero c ≡ false) not_null cs a))
    where
      not_null : (c : ℕ) → IsNode c → eq_by_cmp nat_cmp zero c ≡ false
      not_null zero h = absurd (omega (arith, h))
      not_null (suc c) h = ap is_eq (sym (nat_cmp_is zero (suc c) Less (omega arith)))
  has_node_by (suc k) cs a = ap (λ ns. has (set_of {R = node_cmp} ns) (nodes k)) (nodes_named nodes cs a) ∙ has_coded node_total node_anti (node_named nodes) IsNode nodes_tied (suc k) (omega arith) cs a

  pub made_nodes : (p : SetOperator) (xs ys zs : List ℕ) → All IsNode xs → All IsNode ys → AreMade (with_operator p) xs ys zs → nodes_set nodes zs ≡ combined p (nodes_set nodes xs) (nodes_set nodes ys)
  made_nodes p xs ys zs a b m =
      let left = sym (nodes_named nodes xs a) in
      let right = sym (nodes_named nodes ys b) in
      ap (λ ns. set_of {R = node_cmp} ns) (nodes_named nodes zs (holds_made IsNode p xs ys zs a b m))
      ∙ made_coded node_total node_anti (node_named nodes) IsNode nodes_tied p xs ys zs a b m
      ∙ (λ i. combined p (set_of {R = node_cmp} (left i)) (set_of {R = node_cmp} (right i)))

  pub size_nodes : (cs : List ℕ) → Rises cs → All IsNode cs → size (nodes_set nodes cs) ≡ length cs
  size_nodes cs r a = ap (λ ns. size (set_of {R = node_cmp} ns)) (nodes_named nodes cs a) ∙ size_coded node_total node_anti (node_named nodes) IsNode nodes_tied cs r a

-- a source node is one of some exactly where its code is one of theirs
pub has_node_code : (n : ℕ) (cs : List ℕ) → All IsNode cs → has_node (node_set cs) (reference_of n) ≡ has_code cs n
has_node_code = has_node_by Source one_source

-- codes in the order of names are in that of their nodes
pub named_order : (nodes : ℕ → NodeName) (cs : List ℕ) → All IsNode cs → IsSortedByKey (reference_by nodes) reference_cmp cs → IsSortedByKey (node_named nodes) node_cmp cs
named_order nodes cs a s k d l m = as_named (get_or cs k d) (get_or cs (k + 1) d) (All-get_or IsNode cs k d (omega (arith, m)) a) (All-get_or IsNode cs (k + 1) d m a) (s k d l m)
  where
    as_named : (x y : ℕ) → IsNode x → IsNode y → is_lt (reference_cmp (reference_by nodes y) (reference_by nodes x)) ≡ false → is_lt (node_cmp (node_named nodes y) (node_named nodes x)) ≡ false
    as_named zero y h g e = absurd (omega (arith, h))
    as_named (suc x) zero h g e = absurd (omega (arith, g))
    as_named (suc x) (suc y) h g e = e

-- the elements of a set of nodes, by its codes in the order of their nodes
pub elements_ordered : (nodes : ℕ → NodeName) → AreApart nodes → (cs ns : List ℕ) → Rises cs → All IsNode cs → IsPermutation cs ns → IsSortedByKey (node_named nodes) node_cmp ns → elements (nodes_set nodes cs) ≡ nodes_by nodes ns
elements_ordered nodes apart cs ns r a moved s =
    ap (λ xs. elements (set_of {R = node_cmp} xs)) (nodes_named nodes cs a)
    ∙ elements_coded node_total node_anti (node_named nodes) IsNode (nodes_tied nodes apart) cs ns r a moved s
    ∙ sym (nodes_named nodes ns (All-permutation IsNode cs ns moved a))

-- the codes of a set of nodes are in the order of the nodes where all codes are
module _ (nodes : ℕ → NodeName) (apart : AreApart nodes) (rise : (j k : ℕ) → j < k → node_cmp (nodes j) (nodes k) ≡ Less) where
  in_order : (cs : List ℕ) → Rises cs → All IsNode cs → IsSortedByKey (node_named nodes) node_cmp cs
  in_order cs r a k d l m = not_below (get_or cs k d) (get_or cs (k + 1) d) (All-get_or IsNode cs k d (omega (arith, m)) a) (All-get_or IsNode cs (k + 1) d m a) (below_from_sorted cs k (k + 1) d r (omega arith) m)
    where
      not_below : (x y : ℕ) → IsNode x → IsNode y → x < y → is_lt (node_cmp (node_named nodes y) (node_named nodes x)) ≡ false
      not_below zero y h g w = absurd (omega (arith, h))
      not_below (suc x) zero h g w = absurd (omega (arith, g))
      not_below (suc x) (suc y) h g w = ap is_lt (node_total.antisymm (nodes y) (nodes x) ∙ ap ordering_reverse (rise x y (omega (arith, w))))

  pub nodes_in_order : (cs : List ℕ) → Rises cs → All IsNode cs → elements (nodes_set nodes cs) ≡ nodes_by nodes cs
  nodes_in_order cs r a = elements_ordered nodes apart cs cs r a (IsPermutation-refl cs) (in_order cs r a)
