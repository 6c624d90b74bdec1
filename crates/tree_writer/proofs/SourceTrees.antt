-- The nodes of a source tree: by their numbers they show its subtrees.
use Rattle.std.proofs.Common.{◌≡◌, ℕ, zero, suc, ◌+◌, ◌-◌, ◌<◌, ◌==◌, true, false, if◌then◌else◌, List, [], ◌∷◌, ◌++◌, Some, None, length, map, slice_get, refl, sym, ap, subst, ◌∙◌, arith}
use Rattle.std.specs.Option.{option_map}
use Rattle.std.proofs.lemmas.Bool.{le-ltb}
use Rattle.std.proofs.lemmas.List.{length-map}
use Rattle.std.proofs.lemmas.Option.{slice_get-map}
use Rattle.ast_grammar.specs.declared.grammar.ClassId.{ClassId}
use Rattle.ast_grammar.specs.Grammar.{Class}
use Rattle.tree_arena.specs.Nodes.{Node, child_in, class_in, count_in, token_in, tokens_at}
use Rattle.tree_arena.specs.Terms.{Forest, Empty, Tree, IsTerm, IsTreeOf, nodes_of, root, roots_at, size, tree_at}
use Rattle.tree_arena.specs.Accessors.{HasNode, IsNode, IsOneTree, alone}
use Rattle.tree_arena.proofs.AccessorsLaws.{term_node}
use Rattle.tree_arena.proofs.AccessorsPreorder.{length_nodes}
use Rattle.tree_arena.proofs.AccessorsTrees.{term_alone, tree_alone, tree_there, trees_follow}
use Rattle.tree_writer.specs.Canonical.{IsCanonicalOf}
use Rattle.tree_writer.specs.Parts.{AddsSubtree, HasSubtree}
use Rattle.tree_writer.specs.Showing.{HasChild, HasToken, IsShown, IsSubtree, IsSubtreeAt, hung_at, root_class, root_codes, subtree, trees_at}
use Rattle.tree_writer.proofs.Subtrees.{term_grown}

-- behind a tree and those below it come the trees beside it
outside : (c : ClassId) (j : ℕ) (tokens : List ℕ) (below beside : Forest) (d : ℕ) → tree_at (Tree c j tokens below beside) (suc (size below + d)) ≡ tree_at beside d
outside c j tokens below beside d =
    let number : size below + d - size below ≡ d = omega arith in
    ap (λ b. if b then tree_at below (size below + d) else tree_at beside (size below + d - size below)) (le-ltb (size below + d) (size below) (omega arith))
    ∙ ap (tree_at beside) number

-- the numbers of the trees that hang at a component are those of trees of the whole, where the first of all has the number i
roots_are : (term : Forest) (k : ℕ) (trees : Forest) (i : ℕ) → ((d m : ℕ) → d < size trees → i + d ≡ m → tree_at term m ≡ tree_at trees d)
    → map (tree_at term) (roots_at i trees k) ≡ map Some (trees_at k trees)
roots_are term k Empty i same = refl
roots_are term k (Tree c j tokens below beside) i same =
    let later : map (tree_at term) (roots_at (suc i + size below) beside k) ≡ map Some (trees_at k beside) =
    roots_are term k beside (suc i + size below)
    (λ d m l e. same (suc (size below + d)) m (omega (arith, l)) (omega (arith, e)) ∙ outside c j tokens below beside d)
    in
    elim (j == k) as (λ b. map (tree_at term) (if b then i ∷ roots_at (suc i + size below) beside k else roots_at (suc i + size below) beside k)
    ≡ map Some (if b then Tree c j tokens below Empty ∷ trees_at k beside else trees_at k beside)) [
      | true ↦
          ap (λ t. t ∷ map (tree_at term) (roots_at (suc i + size below) beside k)) (same 0 i (omega arith) (omega arith))
          ∙ ap (λ ts. Some (Tree c j tokens below Empty) ∷ ts) later
      | false ↦ later
    ]

-- What a node shows of a term, and what the accessors answer of it.
record Found (nodes : List Node) (term : Forest) (n : ℕ) (tree : Forest) : Type 0 where
  pub class : ClassId
  pub component : ℕ
  pub tokens : List ℕ
  pub below : Forest
  pub is : tree ≡ Tree class component tokens below Empty
  pub node : IsNode nodes n class component tokens below
  pub roots : (k : ℕ) → map (tree_at term) (roots_at (suc n) below k) ≡ map Some (trees_at k below)

found : {nodes : List Node} {n : ℕ} {tree : Forest} (s : IsSubtreeAt nodes n tree) → Found nodes s.term n tree
found {nodes} {n} {tree} s = of_tree tree (tree_alone s.term n tree s.at) s.at (subst (λ ns. HasNode ns n tree) (sym s.are) (term_node s.term n tree s.one s.at))
  where
    of_tree : (sub : Forest) → IsOneTree sub → tree_at s.term n ≡ Some sub → HasNode nodes n sub → Found nodes s.term n sub
    of_tree _ (alone {c} {k} {tokens} {below}) e h = record {
      class = c;
      component = k;
      tokens = tokens;
      below = below;
      is = refl;
      node = h;
      roots = λ j. roots_are s.term j below (suc n) (λ d m l f. trees_follow s.term n (Tree c k tokens below Empty) d m e l f);
    }

module _ {nodes : List Node} {n : ℕ} where
  -- the node is there
  pub source_there : IsShown (IsSubtreeAt nodes) n → n < length nodes
  source_there shown = (found shown.1).node.there

  -- its class
  pub source_class : (c : ClassId) → class_in nodes n ≡ Some c → (tree : Forest) → IsSubtreeAt nodes n tree → root_class tree ≡ Some c
  source_class c e tree s = let f = found s in ap root_class f.is ∙ sym f.node.class ∙ e

  -- what hangs at a component
  hung_is : (k : ℕ) {tree : Forest} (s : IsSubtreeAt nodes n tree) → trees_at k (found s).below ≡ hung_at tree k
  hung_is k s = ap (λ t. hung_at t k) (sym (found s).is)

  pub source_count : (k count : ℕ) → count ≡ count_in nodes n k → (tree : Forest) → IsSubtreeAt nodes n tree → count ≡ length (hung_at tree k)
  source_count k count e tree s =
      let f = found s in
      e ∙ f.node.count k ∙ sym (length-map (roots_at (suc n) f.below k) (tree_at s.term)) ∙ ap length (f.roots k) ∙ length-map (trees_at k f.below) Some ∙ ap length (hung_is k s)

  pub source_child : (k i m : ℕ) → child_in nodes n k i ≡ Some m → (tree child : Forest) → IsSubtreeAt nodes n tree → slice_get (hung_at tree k) i ≡ Some child
      → IsSubtreeAt nodes m child
  source_child k i m e tree child s at = record { term = s.term; one = s.one; are = s.are; at = there }
    where
      f : Found nodes s.term n tree
      f = found s

      number : slice_get (roots_at (suc n) f.below k) i ≡ Some m
      number = sym (f.node.child k i) ∙ e

      here : slice_get (trees_at k f.below) i ≡ Some child
      here = ap (λ ts. slice_get ts i) (hung_is k s) ∙ at

      both : Some (tree_at s.term m) ≡ Some (Some child)
      both =
          sym (slice_get-map (tree_at s.term) (roots_at (suc n) f.below k) i ∙ ap (option_map (tree_at s.term)) number)
          ∙ ap (λ ts. slice_get ts i) (f.roots k) ∙ slice_get-map Some (trees_at k f.below) i ∙ ap (option_map Some) here

      there : tree_at s.term m ≡ Some child
      there = let e : Some (tree_at s.term m) ≡ Some (Some child) = both in cc

  -- there is one
  pub source_child_there : (k i : ℕ) → HasChild (IsSubtreeAt nodes) n k i → child_in nodes n k i ≡ None → ⊥
  source_child_there k i h e =
      let many : length (roots_at (suc n) (found h.1).below k) ≡ length (hung_at h.0 k) = sym ((found h.1).node.count k) ∙ source_count k (count_in nodes n k) refl h.0 h.1 in
      none_past (roots_at (suc n) (found h.1).below k) i (let l = h.2 in omega (arith, many, l)) (sym ((found h.1).node.child k i) ∙ e)
    where
      none_past : (ms : List ℕ) (i : ℕ) → i < length ms → slice_get ms i ≡ None → ⊥
      none_past [] i l e = omega (arith, l)
      none_past (m ∷ ms) zero l e = cc
      none_past (m ∷ ms) (suc i) l e = none_past ms i (omega (arith, l)) e

  -- the code of a token
  pub source_codes : {tree : Forest} → IsSubtreeAt nodes n tree → tokens_at nodes n ≡ root_codes tree
  source_codes s = let f = found s in f.node.tokens ∙ ap root_codes (sym f.is)

  pub source_token_there : (k : ℕ) → HasToken (IsSubtreeAt nodes) n k → k < length (tokens_at nodes n)
  source_token_there k h = let many = ap length (source_codes h.1) in let l = h.2.there in omega (arith, many, l)

  pub source_token : (k code : ℕ) → token_in nodes n k ≡ Some code → (tree : Forest) → IsSubtreeAt nodes n tree → slice_get (root_codes tree) k ≡ Some code
  source_token k code e tree s = ap (λ ts. slice_get ts k) (sym (source_codes s)) ∙ e

-- A whole tree of a grammar is a subtree at its root.
pub record IsRoot (g : List Class) (texts : ℕ) (term : Forest) : Type 0 where
  pub at : tree_at term 0 ≡ Some term
  pub grown : IsSubtree g texts term

pub term_root : {g : List Class} {texts : ℕ} {term : Forest} → IsTerm g texts term → IsRoot g texts term
term_root (root fits hangs) = record { at = refl; grown = subtree fits.concrete hangs }

module _ {g : List Class} {texts : ℕ} {nodes : List Node} where
  pub source_root : {term : Forest} → IsTerm g texts term → nodes ≡ nodes_of term → IsSubtreeAt nodes 0 term
  source_root {term} grown are = record { term = term; one = term_alone g texts term grown; are = are; at = (term_root grown).at }

  -- each node of a tree of a grammar is the root of a subtree of it
  pub source_node : IsTreeOf g texts nodes → (n : ℕ) → n < length nodes → HasSubtree g texts (IsSubtreeAt nodes) n
  source_node t n l =
      let many = length_nodes t.term 0 0 in
      let number = ap length t.are in
      let there = tree_there t.term n (omega (arith, l, many, number)) in
      (there.0, record { term = t.term; one = term_alone g texts t.term t.grown; are = t.are; at = there.1 }, term_grown t.grown n there.0 there.1)

  -- a tree has a root
  pub source_some : IsTreeOf g texts nodes → 0 < length nodes
  source_some t = let number = ap length t.are in let some = some_nodes t.grown in omega (arith, number, some)
    where
      some_nodes : {term : Forest} → IsTerm g texts term → 0 < length (nodes_of term)
      some_nodes (root fits hangs) = omega arith

-- the text of the subtree of the root, with a line feed, is the canonical one
pub whole_text : (g : List Class) (pool : List (List ℕ)) (nodes : List Node) (text new : List ℕ) → AddsSubtree g pool (IsSubtreeAt nodes) 0 [] text
    → new ≡ text ++ 10 ∷ [] → IsCanonicalOf g pool nodes new
whole_text g pool nodes text new adds line term grown are =
    line ∙ ap (λ t. t ++ 10 ∷ []) (adds term (source_root grown are) (term_root grown).grown)
