-- How high the values of instances in a list are at most: a set has texts of the program, or nodes that are source nodes or stand inside the
-- instances.
use Rattle.std.proofs.Common.{◌≡◌, ℕ, ◌+◌, ◌≤◌, true, false, List, [], ◌∷◌, length, Contains, sym, ap, ◌∙◌, inl, inr, arith}
use Rattle.std.specs.declared.cmp.Ordering.{Ordering}
use Rattle.std.specs.Cmp.{IsTotalOrder, tied_itself}
use Rattle.std.specs.Cmp.Lexicographic.{nat_list_cmp_total}
use Rattle.std.specs.List.{list_any}
use Rattle.std.specs.Ordering.{eq_by_cmp, is_eq}
use Rattle.std.proofs.lemmas.Bool.{or_right}
use Rattle.attr_rules.specs.declared.kinds.Kind.{Kind}
use Rattle.solutions.proofs.Runs.{or_left}
use Rattle.equation_law.specs.Checked.{IsProgram, IsValue, int, node, nodes, text, texts, tree, truth}
use Rattle.equation_law.specs.Names.{Instance, NodeName, node_cmp, text_cmp}
use Rattle.equation_law.specs.Program.{Program}
use Rattle.equation_law.specs.Sets.{SetBy, elements, has, set_of}
use Rattle.equation_law.specs.Values.{Value}
use Rattle.equation_law.proofs.Demanded.{among_nodes}
use Rattle.equation_law.proofs.Finite.{In, at_place}
use Rattle.equation_law.proofs.Heights.{height_of, set_length}
use Rattle.equation_law.proofs.Inside.{names_inside}
use Rattle.equation_law.proofs.Names.{code_anti, node_anti}
use Rattle.equation_law.proofs.Orders.{node_total}
use Rattle.equation_law.proofs.Sets.{has-set_of}
use Rattle.equation_law.proofs.TypedValues.{HasNodes, IsValueIn}

-- an element is found
in_any : {K : Type 0} {R : K → K → Ordering} → IsTotalOrder R → (xs : List K) (q : K) → In xs q → list_any (eq_by_cmp R q) xs ≡ true
in_any o [] q h = absurd h
in_any {R = R} o (x ∷ xs) q h = elim h [
  | inl e ↦ or_left (eq_by_cmp R q x) _ (ap (λ y. eq_by_cmp R q y) (sym e) ∙ ap is_eq (tied_itself o q))
  | inr k ↦ or_right (eq_by_cmp R q x) _ (in_any o xs q k)
]

module _ (p : Program) (good : IsProgram p) (list : List Instance) where
  -- the texts of the program, and these nodes
  all_texts : SetBy text_cmp
  all_texts = set_of p.texts

  all_nodes : SetBy node_cmp
  all_nodes = set_of (names_inside p list)

  text_among : (t : List ℕ) → Contains p.texts t → has all_texts t ≡ true
  unfolding all_texts
  text_among t h = has-set_of nat_list_cmp_total p.texts t ∙ in_any nat_list_cmp_total p.texts t (at_place p.texts h.0 t h.1 h.2)

  node_among : (n : NodeName) → In (names_inside p list) n → has all_nodes n ≡ true
  unfolding all_nodes
  node_among n h = has-set_of node_total (names_inside p list) n ∙ in_any node_total (names_inside p list) n h

  -- no value is higher
  pub most : ℕ
  most = 1 + (length (elements all_texts) + length (elements all_nodes))

  value_bounded : (k : Kind) (v : Value) → IsValue p k v → HasNodes p (among_nodes p good (In (names_inside p list))) v → height_of k v ≤ most
  unfolding most
  value_bounded _ _ (truth true) i = omega arith
  value_bounded _ _ (truth false) i = omega arith
  value_bounded _ _ (int z e) i = omega arith
  value_bounded _ _ (text t e) i = omega arith
  value_bounded _ _ (node c r h) i = omega arith
  value_bounded _ _ (texts s h) i = let l = set_length nat_list_cmp_total code_anti s all_texts (λ t e. text_among t (h t e)) in omega (arith, l)
  value_bounded _ _ (tree c r ts h) i = omega arith
  value_bounded _ _ (nodes c s h) i = let l = set_length node_total node_anti s all_nodes (λ n e. node_among n (i n e)) in omega (arith, l)

  pub value_within : (k : Kind) (v : Value) → IsValueIn p (among_nodes p good (In (names_inside p list))) k v → height_of k v ≤ most
  value_within k v h = value_bounded k v h.0 h.1
