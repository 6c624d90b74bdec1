-- What some arguments that break nothing say of their parts.
use Rattle.std.proofs.Common.{◌≡◌, ℕ, suc, ◌+◌, ◌≤◌, List, [], ◌++◌, Bool, true, false, not, ◌==◌, Option, refl, arith}
use Rattle.std.proofs.lemmas.Bool.Decides.{nat_tests}
use Rattle.broken_rules.proofs.Clean.{append_none, not_broken}
use Rattle.broken_rules.specs.Notes.{at, broken_if}
use Rattle.broken_rules.specs.declared.rule.Rule.TheVariants.{N2, N3, N7}
use Rattle.rag_io.specs.declared.token.Place.{Place}
use Rattle.ast_grammar.specs.Grammar.{Class, class_named}
use Rattle.tree_arena.specs.Nodes.{most_nodes}
use Rattle.tree_syntax.specs.Written.{Leaf, Written, Nothing, Node, Brackets, Valued}
use Rattle.tree_reader.specs.Breaking.{arguments_broken, brackets_misplaced, count, is_concrete, miscounts, name_broken, node_misplaced, nodes_in, value_misplaced}
use Rattle.tree_reader.specs.Wants.{Wants, arguments_of, inside, next_of, wanted_by}

-- A node that breaks nothing, with its arguments and what stands behind it.
pub record CleanNode (g : List Class) (wants : Wants) (n : ℕ) (class : Option ℕ) (p : Place) (arguments behind : Written) : Type 0 where
  pub concrete : is_concrete g class ≡ true
  pub few : (n == most_nodes) ≡ false
  pub placed : node_misplaced g (wanted_by wants) class p ≡ []
  pub inner : arguments_broken g (arguments_of g class) (suc n) arguments ≡ []
  pub counted : miscounts g class (count arguments) ≡ false
  pub rest : arguments_broken g (next_of wants) (suc n + nodes_in arguments) behind ≡ []

-- what is not false is true
pub not_not : (b : Bool) → not b ≡ false → b ≡ true
not_not true h = refl
not_not false h = cc

-- the parts of a node
pub clean_node : (g : List Class) (wants : Wants) (n : ℕ) (name : List ℕ) (p : Place) (arguments behind : Written) → arguments_broken g wants n (Node name p arguments behind) ≡ []
    → CleanNode g wants n (class_named g name) p arguments behind
clean_node g wants n name p arguments behind clean =
    let class = class_named g name in
    let inner = arguments_broken g (arguments_of g class) (suc n) arguments in
    let counted = broken_if (miscounts g class (count arguments)) (at p N3) in
    let rest = arguments_broken g (next_of wants) (suc n + nodes_in arguments) behind in
    let parts = append_none (name_broken g class n p ++ node_misplaced g (wanted_by wants) class p) (inner ++ (counted ++ rest)) clean in
    let here = append_none (name_broken g class n p) (node_misplaced g (wanted_by wants) class p) parts.0 in
    let named = append_none (broken_if (not (is_concrete g class)) (at p N2)) (broken_if (n == most_nodes) (at p N7)) here.0 in
    let more = append_none inner (counted ++ rest) parts.1 in
    let last = append_none counted rest more.1 in
    record {
      concrete = not_not (is_concrete g class) (not_broken (not (is_concrete g class)) (at p N2) named.0);
      few = not_broken (n == most_nodes) (at p N7) named.1;
      placed = here.1;
      inner = more.0;
      counted = not_broken (miscounts g class (count arguments)) (at p N3) last.0;
      rest = last.1;
    }

-- Brackets that break nothing.
pub record CleanBrackets (g : List Class) (wants : Wants) (n : ℕ) (p : Place) (nodes behind : Written) : Type 0 where
  pub placed : brackets_misplaced (wanted_by wants) p ≡ []
  pub inner : arguments_broken g (inside (wanted_by wants)) n nodes ≡ []
  pub rest : arguments_broken g (next_of wants) (n + nodes_in nodes) behind ≡ []

-- the parts of brackets
pub clean_brackets : (g : List Class) (wants : Wants) (n : ℕ) (p : Place) (nodes behind : Written) → arguments_broken g wants n (Brackets p nodes behind) ≡ [] → CleanBrackets g wants n p nodes behind
clean_brackets g wants n p nodes behind clean =
    let inner = arguments_broken g (inside (wanted_by wants)) n nodes in
    let rest = arguments_broken g (next_of wants) (n + nodes_in nodes) behind in
    let parts = append_none (brackets_misplaced (wanted_by wants) p) (inner ++ rest) clean in
    let more = append_none inner rest parts.1 in
    record { placed = parts.0; inner = more.0; rest = more.1 }

-- A value that breaks nothing.
pub record CleanValue (g : List Class) (wants : Wants) (n : ℕ) (leaf : Leaf) (p : Place) (behind : Written) : Type 0 where
  pub placed : value_misplaced (wanted_by wants) leaf p ≡ []
  pub rest : arguments_broken g (next_of wants) n behind ≡ []

-- the parts of a value
pub clean_value : (g : List Class) (wants : Wants) (n : ℕ) (leaf : Leaf) (p : Place) (behind : Written) → arguments_broken g wants n (Valued leaf p behind) ≡ [] → CleanValue g wants n leaf p behind
clean_value g wants n leaf p behind clean =
    let parts = append_none (value_misplaced (wanted_by wants) leaf p) (arguments_broken g (next_of wants) n behind) clean in
    record { placed = parts.0; rest = parts.1 }

-- a number that is not the most is below it
below_most : (n : ℕ) → n ≤ most_nodes → (n == most_nodes) ≡ false → suc n ≤ most_nodes
below_most n le other = grind (arith, nat_tests)

-- where nothing is broken, the nodes are not too many
pub few_nodes : (g : List Class) (w : Written) (wants : Wants) (n : ℕ) → n ≤ most_nodes → arguments_broken g wants n w ≡ [] → n + nodes_in w ≤ most_nodes
few_nodes g Nothing wants n le clean = omega (arith, le)
few_nodes g (Node name p arguments behind) wants n le clean =
    let parts = clean_node g wants n name p arguments behind clean in
    let inner = few_nodes g arguments (arguments_of g (class_named g name)) (suc n) (below_most n le parts.few) parts.inner in
    let rest = few_nodes g behind (next_of wants) (suc n + nodes_in arguments) inner parts.rest in
    omega (arith, rest)
few_nodes g (Brackets p nodes behind) wants n le clean =
    let parts = clean_brackets g wants n p nodes behind clean in
    let inner = few_nodes g nodes (inside (wanted_by wants)) n le parts.inner in
    let rest = few_nodes g behind (next_of wants) (n + nodes_in nodes) inner parts.rest in
    omega (arith, rest)
few_nodes g (Valued leaf p behind) wants n le clean = few_nodes g behind (next_of wants) n le (clean_value g wants n leaf p behind clean).rest
