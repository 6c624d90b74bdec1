-- How many codes the nodes of a tree have.
use Rattle.std.proofs.Common.{◌≡◌, ℕ, zero, suc, ◌+◌, ◌*◌, ◌<◌, ◌≤◌, ◌^◌, Bool, true, nat_le, List, [], ◌∷◌, ◌++◌, All, length, ap, arith, length-append}
use Rattle.std.specs.List.{list_all}
use Rattle.std.proofs.lemmas.Bool.{and_parts, leb-true}
use Rattle.std.proofs.lemmas.List.Concat.{flat_map-append}
use Rattle.std.proofs.lemmas.List.Elements.{All-cons, All-head, All-nil, All-tail}
use Rattle.ast_grammar.specs.declared.grammar.ClassId.{ClassId}
use Rattle.ast_grammar.specs.Grammar.{Class, Component, components_of, most_components}
use Rattle.tree_arena.specs.Nodes.{Node, most_nodes}
use Rattle.tree_arena.specs.Parts.{codes_of, tokens_in}
use Rattle.tree_arena.specs.Terms.{Forest, Empty, Tree, HasFew, Hangs, over, token, one, none, element, IsTerm, root, IsTree, size, nodes_from, nodes_of}
use Rattle.tree_arena.proofs.Grown.{length-codes, length-nodes_from}

-- a class of some has few components where each of them has
few_components : (g : List Class) (k : ℕ) → All HasFew g → length (components_of g k) ≤ most_components
few_components [] k all = omega arith
few_components (c ∷ g) zero all = All-head HasFew c g all
few_components (c ∷ g) (suc k) all = few_components g k (All-tail HasFew c g all)

-- a tree and those beside it
codes_both : (parent n k : ℕ) (c : ClassId) (tokens : List ℕ) (below beside : Forest) → length tokens ≤ most_components
    → length (codes_of (nodes_from n (suc n) below)) ≤ most_components * size below → length (codes_of (nodes_from parent (suc n + size below) beside)) ≤ most_components * size beside
    → length (codes_of (nodes_from parent n (Tree c k tokens below beside))) ≤ most_components * size (Tree c k tokens below beside)
codes_both parent n k c tokens below beside few first rest =
    let inner = nodes_from n (suc n) below in
    let outer = nodes_from parent (suc n + size below) beside in
    omega (
      arith,
      length-append tokens (codes_of (inner ++ outer)),
      ap length (flat_map-append tokens_in inner outer),
      length-append (codes_of inner) (codes_of outer),
    )

-- a class has few components, as a test
abbrev pub has_few : Class → Bool
has_few c = nat_le (length c.components) most_components

-- each class has few where each passes the test
pub few_tested : (g : List Class) → list_all has_few g ≡ true → All HasFew g
few_tested [] e = All-nil HasFew
few_tested (c ∷ g) e =
    let parts = and_parts (has_few c) (list_all has_few g) e in
    All-cons HasFew c g (leb-true (length c.components) most_components parts.0) (few_tested g parts.1)

module _ {g : List Class} (short : All HasFew g) where
  -- the codes at the components of a node
  few_tokens : (c : ClassId) {texts : ℕ} {below : Forest} {tokens : List ℕ} → Hangs g texts (components_of g c.0) 0 below tokens → length tokens ≤ most_components
  few_tokens c h = omega (arith, length-codes h, few_components g c.0 short)

  -- trees that hang at components of a node
  codes_from : {texts k : ℕ} {xs : List Component} {trees : Forest} {codes : List ℕ} (parent n : ℕ) → Hangs g texts xs k trees codes
      → length (codes_of (nodes_from parent n trees)) ≤ most_components * size trees
  codes_from parent n over = omega arith
  codes_from parent n (token is h) = codes_from parent n h
  codes_from {k = k} parent n (one {c = c} {tokens = tokens} {below = inner} {beside = outer} may fits below beside) =
      codes_both parent n k c tokens inner outer (few_tokens c below) (codes_from n (suc n) below) (codes_from parent (suc n + size inner) beside)
  codes_from parent n (none may h) = codes_from parent n h
  codes_from {k = k} parent n (element {c = c} {tokens = tokens} {below = inner} {beside = outer} is fits below beside) =
      codes_both parent n k c tokens inner outer (few_tokens c below) (codes_from n (suc n) below) (codes_from parent (suc n + size inner) beside)

  -- a whole tree
  codes_in : {texts : ℕ} {tree : Forest} → IsTerm g texts tree → length (codes_of (nodes_of tree)) ≤ most_components * size tree
  codes_in (root {c = c} {tokens = tokens} {below = below} fits h) = codes_both 0 0 0 c tokens below Empty (few_tokens c h) (codes_from 0 1 h) (omega arith)

-- the nodes of a tree have at most so many codes
pub codes_few : (nodes : List Node) → IsTree nodes → length (codes_of nodes) ≤ most_components * most_nodes
codes_few nodes t =
    let few = t.tree.few in
    omega (arith, ap length t.tree.are, ap (λ (xs : List Node). length (codes_of xs)) t.tree.are, length-nodes_from 0 0 t.tree.term, codes_in t.short t.tree.grown)

-- so that they can be numbered
pub codes_numbered : (nodes : List Node) → IsTree nodes → length (codes_of nodes) < 2 ^ 32
codes_numbered nodes t = omega (arith, codes_few nodes t)
