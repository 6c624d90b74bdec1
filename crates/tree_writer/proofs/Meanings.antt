-- What is written is read as trees, and breaks nothing.
use Rattle.std.proofs.Common.{◌≡◌, ℕ, suc, ◌+◌, ◌≤◌, List, [], ◌++◌, Bool, true, false, not, ◌==◌, if◌then◌else◌, Option, Some, length, refl, ap, ◌∙◌, arith}
use Rattle.std.proofs.lemmas.Bool.Decides.{nat_tests}
use Rattle.broken_rules.specs.declared.broken.Broken.{Broken}
use Rattle.broken_rules.specs.declared.rule.Rule.TheVariants.{N2, N3, N7}
use Rattle.broken_rules.specs.Notes.{at, broken_if}
use Rattle.rag_io.specs.declared.token.Place.{Place}
use Rattle.ast_grammar.specs.declared.grammar.ClassId.{ClassId}
use Rattle.ast_grammar.specs.Grammar.{Class, Component, class_named, components_of}
use Rattle.tree_arena.specs.Nodes.{most_nodes}
use Rattle.tree_arena.specs.Terms.{Forest, Empty, Tree, size}
use Rattle.tree_syntax.specs.Written.{Leaf, Written, Nothing, Node, Brackets, Valued}
use Rattle.tree_reader.specs.Breaking.{count, nodes_in, is_concrete, miscounts, name_broken, node_misplaced, brackets_misplaced, value_misplaced, arguments_broken}
use Rattle.tree_reader.specs.Grown as grows
use Rattle.tree_reader.specs.Grown.{class_or_first, code_of, codes_of, beside_each}
use Rattle.tree_reader.specs.Wants.{Wants, Components, next_of, wanted_by, inside, arguments_of}

-- Some arguments break nothing where this is wanted of them, and are read as these trees.
pub record Means (g : List Class) (pool : List (List ℕ)) (wants : Wants) (bracketed : Bool) (k : ℕ) (w : Written) (trees : Forest) : Type 0 where
  pub clean : (n : ℕ) → n + size trees ≤ most_nodes → arguments_broken g wants n w ≡ []
  pub sized : nodes_in w ≡ size trees
  pub grown : grows.grown g pool bracketed k w ≡ trees

-- And where they are those of some components, there is one for each, and they have these codes.
pub record MeansAll (g : List Class) (pool : List (List ℕ)) (xs : List Component) (k : ℕ) (w : Written) (trees : Forest) (codes : List ℕ) : Type 0 where
  pub means : Means g pool (Components xs) false k w trees
  pub counted : count w ≡ length xs
  pub coded : codes_of pool w ≡ codes

-- two parts that break nothing
none_both : {fs gs : List Broken} → fs ≡ [] → gs ≡ [] → fs ++ gs ≡ []
none_both p q = λ i. p i ++ q i

-- the trees of both
size-beside : (first second : Forest) → size (beside_each first second) ≡ size first + size second
size-beside Empty second = let e : size second ≡ 0 + size second = omega arith in e
size-beside (Tree c k tokens below beside) second = let e = size-beside beside second in omega arith

module _ (g : List Class) (pool : List (List ℕ)) (wants : Wants) where
  -- no arguments are no trees
  pub means_nothing : (bracketed : Bool) (k : ℕ) → Means g pool wants bracketed k Nothing Empty
  means_nothing bracketed k = record { clean = λ n few. refl; sized = refl; grown = refl }

  -- the value of a token, and what stands behind it
  pub means_value : (k : ℕ) (leaf : Leaf) (p : Place) (behind : Written) (trees : Forest) → value_misplaced (wanted_by wants) leaf p ≡ []
      → Means g pool (next_of wants) false (suc k) behind trees → Means g pool wants false k (Valued leaf p behind) trees
  means_value k leaf p behind trees fits rest = record { clean = λ n few. none_both fits (rest.clean n few); sized = rest.sized; grown = rest.grown }

  -- nodes in brackets, and what stands behind them
  pub means_brackets : (k : ℕ) (p : Place) (nodes behind : Written) (inner trees : Forest) → brackets_misplaced (wanted_by wants) p ≡ []
      → Means g pool (inside (wanted_by wants)) true k nodes inner → Means g pool (next_of wants) false (suc k) behind trees
      → Means g pool wants false k (Brackets p nodes behind) (beside_each inner trees)
  means_brackets k p nodes behind inner trees fits these rest = record {
    clean = λ n few.
        let both = size-beside inner trees in
        let same = these.sized in
        none_both fits (none_both (these.clean n (omega arith)) (rest.clean (n + nodes_in nodes) (omega arith)));
    sized = let both = size-beside inner trees in let a = these.sized in let b = rest.sized in omega arith;
    grown = λ i. beside_each (these.grown i) (rest.grown i);
  }

  module _ (bracketed : Bool) (k : ℕ) (c : ClassId) (name : List ℕ) (p : Place) (arguments behind : Written) (tokens : List ℕ) (below trees : Forest) where
    -- what the node breaks, by its class
    node_parts : Option ℕ → ℕ → List Broken
    node_parts class n =
        (name_broken g class n p ++ node_misplaced g (wanted_by wants) class p)
        ++ (arguments_broken g (arguments_of g class) (suc n) arguments
        ++ (broken_if (miscounts g class (count arguments)) (at p N3)
        ++ arguments_broken g (next_of wants) (suc n + nodes_in arguments) behind))

    -- a node, and what stands behind it
    pub means_node : class_named g name ≡ Some c.0 → is_concrete g (Some c.0) ≡ true → node_misplaced g (wanted_by wants) (Some c.0) p ≡ []
        → MeansAll g pool (components_of g c.0) 0 arguments below tokens → Means g pool (next_of wants) bracketed (if bracketed then k else suc k) behind trees
        → Means g pool wants bracketed k (Node name p arguments behind) (Tree c k tokens below trees)
    unfolding node_parts
    means_node named concrete fits all rest = record {
      clean = λ n few.
          let same = all.means.sized in
          let before : (n == most_nodes) ≡ false = grind (arith, nat_tests) in
          let exact : not (count arguments == length (components_of g c.0)) ≡ false = let e = all.counted in grind (arith, nat_tests) in
          ap (λ (class : Option ℕ). node_parts class n) named
          ∙ none_both (none_both (λ i. broken_if (not (concrete i)) (at p N2) ++ broken_if (before i) (at p N7)) fits)
          (none_both (all.means.clean (suc n) (omega arith)) (none_both (ap (λ (wrong : Bool). broken_if wrong (at p N3)) exact)
          (rest.clean (suc n + nodes_in arguments) (omega arith))));
      sized = let a = all.means.sized in let b = rest.sized in omega arith;
      grown = λ i. Tree (class_or_first (named i)) k (all.coded i) (all.means.grown i) (rest.grown i);
    }
