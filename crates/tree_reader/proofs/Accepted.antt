-- What breaks nothing hangs right.
use Rattle.std.proofs.Common.{◌≡◌, ℕ, suc, ◌-◌, ◌<◌, ◌≤◌, List, [], ◌∷◌, Bool, true, false, not, nat_le, ◌==◌, if◌then◌else◌, length, Option, Some, None, option_map, slice_get, refl, ap, sym, subst, ◌∙◌, arith}
use Rattle.std.proofs.lemmas.Bool.{eqb-true}
use Rattle.std.proofs.lemmas.Bool.Decides.{nat_tests}
use Rattle.std.proofs.lemmas.List.Quantifiers.{position-Some}
use Rattle.std.specs.Str.{bytes_eq}
use Rattle.broken_rules.proofs.Clean.{not_broken}
use Rattle.broken_rules.specs.Notes.{at}
use Rattle.broken_rules.specs.declared.rule.Rule.TheVariants.{N4, N5, N6}
use Rattle.rag_io.specs.Decimal.{decimal}
use Rattle.rag_io.specs.Pool.{number_of}
use Rattle.rag_io.specs.Unquoted.{meant}
use Rattle.rag_io.specs.declared.token.Place.{Place}
use Rattle.ast_grammar.specs.declared.grammar.ClassId.{ClassId}
use Rattle.ast_grammar.specs.declared.grammar.Shape.{Shape}
use Rattle.ast_grammar.specs.declared.grammar.Shape.TheVariants as shapes
use Rattle.ast_grammar.specs.Grammar.{Class, Component, abstract_in, class_named, components_of, is_sub}
use Rattle.tree_arena.specs.Terms.{Forest, Tree, Fits, Hangs, over, token, one, none, element, IsCode, IsTerm, IsTreeOf, MayHaveNone, MayHaveOne, nodes_of, root, first_class}
use Rattle.tree_syntax.specs.Written.{Leaf, WritesText, WritesInt, WritesTruth, Written, Nothing, Node, Brackets, Valued, AreNodes, IsNode}
use Rattle.tree_reader.specs.Breaking.{arguments_broken, brackets_at_shape, count, is_apart, is_concrete, is_concrete_class, miscounts, most_of, node_at_shape, root_broken, value_at_shape}
use Rattle.tree_reader.specs.Grown.{beside_each, class_or_first, code_of, codes_of, grown, int_code, small_code, tree_written, truth_code}
use Rattle.tree_reader.specs.Wants.{Wants, Components, Elements, Perhaps, NoMore, Unknown, arguments_of, inside, inside_shape, next_of, wanted_by}
use Rattle.token_texts.specs.Texts.{or_zero}
use Rattle.token_texts.proofs.Pooled.{IsThere}
use Rattle.tree_reader.proofs.Sizes.{length_nodes, size_grown}
use Rattle.tree_reader.proofs.Clean.{CleanNode, CleanBrackets, CleanValue, clean_brackets, clean_node, clean_value, few_nodes, not_not}

-- a text that is written is in the pool
abbrev pub IsLeafThere : List (List ℕ) → Leaf → Type 0
IsLeafThere pool (WritesText quoted) = IsThere pool (meant quoted)
IsLeafThere pool (WritesInt negative digits) = Unit {0}
IsLeafThere pool (WritesTruth b) = Unit {0}

-- The texts of some arguments are in the pool, and in brackets stand nodes alone.
pub data AreThere (pool : List (List ℕ)) : Written → Type 0 where
  nothing : AreThere pool Nothing
  node : {name : List ℕ} {p : Place} {arguments behind : Written} → AreThere pool arguments → AreThere pool behind → AreThere pool (Node name p arguments behind)
  brackets : {p : Place} {nodes behind : Written} → AreNodes nodes → AreThere pool nodes → AreThere pool behind → AreThere pool (Brackets p nodes behind)
  valued : {leaf : Leaf} {p : Place} {behind : Written} → IsLeafThere pool leaf → AreThere pool behind → AreThere pool (Valued leaf p behind)

-- the number of a text that is there is below their number
text_within : (pool : List (List ℕ)) (text : List ℕ) → IsThere pool text → or_zero (number_of pool text) < length pool
text_within pool text there =
    let found = position-Some (bytes_eq text) pool there.number [] there.is in
    subst (λ n. n < length pool) (sym (ap or_zero there.is)) found.0

-- the code of a small integer fits into 32 bits
code_fits : (negative : Bool) (n : ℕ) → nat_le n (most_of negative) ≡ true → int_code negative n < 4294967296
code_fits false n small = grind (arith, nat_tests)
code_fits true n small = go (n == 0) refl
  where
    go : (b : Bool) → (n == 0) ≡ b → (if b then 0 else 4294967296 - n) < 4294967296
    go true e = omega arith
    go false e = some (grind (arith, nat_tests))
      where
        some : 0 < n → 4294967296 - n < 4294967296
        some lt = omega (arith, lt)

-- and that of any, which is 0 where the integer is too large
int_within : (negative : Bool) (n : ℕ) → nat_le n (most_of negative) ≡ true → small_code negative n < 4294967296
int_within negative n small = subst (λ b. (if b then int_code negative n else 0) < 4294967296) (sym small) (code_fits negative n small)

-- the code of a truth value
truth_within : (b : Bool) → truth_code b ≤ 1
truth_within true = omega arith
truth_within false = omega arith

module _ (g : List Class) (pool : List (List ℕ)) where
  -- a value that breaks nothing where it stands has a code of the component's shape
  is_code : (leaf : Leaf) (p : Place) (s : Shape) → IsLeafThere pool leaf → value_at_shape leaf p s ≡ [] → IsCode (length pool) s (code_of pool leaf)
  is_code leaf p shapes.Child there clean = absurd (cc)
  is_code leaf p shapes.List there clean = absurd (cc)
  is_code leaf p shapes.Optional there clean = absurd (cc)
  is_code (WritesText quoted) p shapes.Text there clean = text_within pool (meant quoted) there
  is_code (WritesInt negative digits) p shapes.Text there clean = absurd (cc)
  is_code (WritesTruth b) p shapes.Text there clean = absurd (cc)
  is_code (WritesText quoted) p shapes.Int there clean = absurd (cc)
  is_code (WritesInt negative digits) p shapes.Int there clean =
      int_within negative (decimal digits) (not_not (nat_le (decimal digits) (most_of negative)) (not_broken (not (nat_le (decimal digits) (most_of negative))) (at p N5) clean))
  is_code (WritesTruth b) p shapes.Int there clean = absurd (cc)
  is_code (WritesText quoted) p shapes.Truth there clean = absurd (cc)
  is_code (WritesInt negative digits) p shapes.Truth there clean = absurd (cc)
  is_code (WritesTruth b) p shapes.Truth there clean = truth_within b

  -- whether a class is abstract
  is_plain : (class : Option Class) → is_concrete_class class ≡ true → option_map abstract_in class ≡ Some false
  is_plain None concrete = cc
  is_plain (Some c) concrete = ap Some (not_so c.abstract concrete)
    where
      not_so : (b : Bool) → not b ≡ true → b ≡ false
      not_so true h = cc
      not_so false h = refl

  -- a class that is known, not abstract and not apart fits
  fits : (class : Option ℕ) (wanted : ClassId) → is_concrete g class ≡ true → is_apart g class wanted ≡ false → Fits g wanted (class_or_first class)
  fits None wanted concrete near = cc
  fits (Some c) wanted concrete near = record { below = not_not (is_sub g c wanted.0) near; concrete = is_plain (slice_get g c) concrete }

  -- some trees and codes at some components
  abbrev Hung : List Component → ℕ → Forest → List ℕ → Type 0
  Hung = Hangs g (length pool)

  -- What arguments that break nothing come to, by what is wanted: as many as there are components hang at these; those in brackets hang
  -- at one component, before further trees.
  abbrev Comes : Wants → Written → Type 0
  Comes (Components xs) w = (k : ℕ) → count w ≡ length xs → Hung xs k (grown g pool false k w) (codes_of pool w)
  Comes (Elements c) w =
      AreNodes w → (x : Component) (xs : List Component) (k : ℕ) (trees : Forest) (codes : List ℕ) → x.shape ≡ shapes.List → x.class ≡ c → Hung xs (suc k) trees codes
      → Hung (x ∷ xs) k (beside_each (grown g pool true k w) trees) (0 ∷ codes)
  Comes (Perhaps c) w =
      AreNodes w → (x : Component) (xs : List Component) (k : ℕ) (trees : Forest) (codes : List ℕ) → x.shape ≡ shapes.Optional → x.class ≡ c → Hung xs (suc k) trees codes
      → Hung (x ∷ xs) k (beside_each (grown g pool true k w) trees) (0 ∷ codes)
  Comes NoMore w = AreNodes w → w ≡ Nothing
  Comes Unknown w = Unit {0}

  -- the arguments of a node hang at the components of its class
  arguments_hang : (class : Option ℕ) (arguments : Written) → is_concrete g class ≡ true → miscounts g class (count arguments) ≡ false → Comes (arguments_of g class) arguments
      → Hung (components_of g (class_or_first class).0) 0 (grown g pool false 0 arguments) (codes_of pool arguments)
  arguments_hang None arguments concrete counted inner = cc
  arguments_hang (Some c) arguments concrete counted inner =
      inner 0 (eqb-true (count arguments) (length (components_of g c)) (not_not (count arguments == length (components_of g c)) counted))

  -- the arguments left are as many as the components left
  count_rest : (a b : ℕ) → suc a ≡ suc b → a ≡ b
  count_rest a b e = omega (arith, e)

  -- where a node stands at a component and breaks nothing, this is a child
  at_child : (class : Option ℕ) (p : Place) (wanted : ClassId) (s : Shape) → node_at_shape g class p s wanted ≡ [] → MayHaveOne s × (is_apart g class wanted ≡ false)
  at_child class p wanted shapes.Child clean = (tt, not_broken (is_apart g class wanted) (at p N4) clean)
  at_child class p wanted shapes.List clean = absurd (cc)
  at_child class p wanted shapes.Optional clean = absurd (cc)
  at_child class p wanted shapes.Text clean = absurd (cc)
  at_child class p wanted shapes.Int clean = absurd (cc)
  at_child class p wanted shapes.Truth clean = absurd (cc)

  -- a node, with what its arguments and what stands behind it come to
  node_comes : (wants : Wants) (n : ℕ) (name : List ℕ) (p : Place) (arguments behind : Written) → CleanNode g wants n (class_named g name) p arguments behind
      → Comes (arguments_of g (class_named g name)) arguments → Comes (next_of wants) behind → Comes wants (Node name p arguments behind)
  node_comes (Components []) n name p arguments behind clean inner rest = λ k e. absurd (cc)
  node_comes (Components (x ∷ xs)) n name p arguments behind clean inner rest =
      λ k e.
      let class = class_named g name in
      let stands = at_child class p x.class x.shape clean.placed in
      one stands.0 (fits class x.class clean.concrete stands.1) (arguments_hang class arguments clean.concrete clean.counted inner) (rest (suc k) (count_rest (count behind) (length xs) e))
  node_comes (Elements c) n name p arguments behind clean inner rest =
      λ are x xs k trees codes is of more.
      let class = class_named g name in
      let near = ap (is_apart g class) of ∙ not_broken (is_apart g class c) (at p N4) clean.placed in
      element is (fits class x.class clean.concrete near) (arguments_hang class arguments clean.concrete clean.counted inner) (rest are x xs k trees codes is of more)
  node_comes (Perhaps c) n name p arguments behind clean inner rest =
      λ are x xs k trees codes is of more.
      let class = class_named g name in
      let near = ap (is_apart g class) of ∙ not_broken (is_apart g class c) (at p N4) clean.placed in
      let hung : Hung (x ∷ xs) k (Tree (class_or_first class) k (codes_of pool arguments) (grown g pool false 0 arguments) trees) (0 ∷ codes) =
      one (subst MayHaveOne (sym is) tt) (fits class x.class clean.concrete near) (arguments_hang class arguments clean.concrete clean.counted inner) more in
      subst (λ (b : Written). Hung (x ∷ xs) k (Tree (class_or_first class) k (codes_of pool arguments) (grown g pool false 0 arguments) (beside_each (grown g pool true k b) trees)) (0 ∷ codes))
      (sym (rest are)) hung
  node_comes NoMore n name p arguments behind clean inner rest = let placed = clean.placed in absurd (cc)
  node_comes Unknown n name p arguments behind clean inner rest = tt

  -- nodes in brackets
  brackets_come : (wants : Wants) (n : ℕ) (p : Place) (nodes behind : Written) → CleanBrackets g wants n p nodes behind → AreNodes nodes
      → Comes (inside (wanted_by wants)) nodes → Comes (next_of wants) behind → Comes wants (Brackets p nodes behind)
  brackets_come (Components []) n p nodes behind clean are inner rest = λ k e. absurd (cc)
  brackets_come (Components (x ∷ xs)) n p nodes behind clean are inner rest = λ k e. go k x.shape refl clean.placed inner (rest (suc k) (count_rest (count behind) (length xs) e))
    where
      go : (k : ℕ) (s : Shape) → x.shape ≡ s → brackets_at_shape p s ≡ [] → Comes (inside_shape s x.class) nodes → Hung xs (suc k) (grown g pool false (suc k) behind) (codes_of pool behind)
          → Hung (x ∷ xs) k (beside_each (grown g pool true k nodes) (grown g pool false (suc k) behind)) (0 ∷ codes_of pool behind)
      go k shapes.Child is placed inner more = absurd (cc)
      go k shapes.List is placed inner more = inner are x xs k (grown g pool false (suc k) behind) (codes_of pool behind) is refl more
      go k shapes.Optional is placed inner more = inner are x xs k (grown g pool false (suc k) behind) (codes_of pool behind) is refl more
      go k shapes.Text is placed inner more = absurd (cc)
      go k shapes.Int is placed inner more = absurd (cc)
      go k shapes.Truth is placed inner more = absurd (cc)
  brackets_come (Elements c) n p nodes behind clean are inner rest = λ none. absurd none
  brackets_come (Perhaps c) n p nodes behind clean are inner rest = λ none. absurd none
  brackets_come NoMore n p nodes behind clean are inner rest = λ none. absurd none
  brackets_come Unknown n p nodes behind clean are inner rest = tt

  -- the value of a token
  value_comes : (wants : Wants) (n : ℕ) (leaf : Leaf) (p : Place) (behind : Written) → CleanValue g wants n leaf p behind → IsLeafThere pool leaf → Comes (next_of wants) behind
      → Comes wants (Valued leaf p behind)
  value_comes (Components []) n leaf p behind clean there rest = λ k e. absurd (cc)
  value_comes (Components (x ∷ xs)) n leaf p behind clean there rest =
      λ k e. token (is_code leaf p x.shape there clean.placed) (rest (suc k) (count_rest (count behind) (length xs) e))
  value_comes (Elements c) n leaf p behind clean there rest = λ none. absurd none
  value_comes (Perhaps c) n leaf p behind clean there rest = λ none. absurd none
  value_comes NoMore n leaf p behind clean there rest = λ none. absurd none
  value_comes Unknown n leaf p behind clean there rest = tt

  -- what arguments come to that break nothing
  comes : (w : Written) → AreThere pool w → (wants : Wants) (n : ℕ) → arguments_broken g wants n w ≡ [] → Comes wants w
  comes Nothing there (Components []) n clean = λ k e. over
  comes Nothing there (Components (x ∷ xs)) n clean = λ k e. absurd (cc)
  comes Nothing there (Elements c) n clean = λ are x xs k trees codes is of more. none (subst MayHaveNone (sym is) tt) more
  comes Nothing there (Perhaps c) n clean = λ are x xs k trees codes is of more. none (subst MayHaveNone (sym is) tt) more
  comes Nothing there NoMore n clean = λ are. refl
  comes Nothing there Unknown n clean = tt
  comes (Node name p arguments behind) (node inner rest) wants n clean =
      let parts = clean_node g wants n name p arguments behind clean in
      node_comes wants n name p arguments behind parts (comes arguments inner (arguments_of g (class_named g name)) _ parts.inner) (comes behind rest (next_of wants) _ parts.rest)
  comes (Brackets p nodes behind) (brackets are inner rest) wants n clean =
      let parts = clean_brackets g wants n p nodes behind clean in
      brackets_come wants n p nodes behind parts are (comes nodes inner (inside (wanted_by wants)) _ parts.inner) (comes behind rest (next_of wants) _ parts.rest)
  comes (Valued leaf p behind) (valued there rest) wants n clean =
      let parts = clean_value g wants n leaf p behind clean in
      value_comes wants n leaf p behind parts there (comes behind rest (next_of wants) _ parts.rest)

  -- a node that breaks nothing is a whole tree
  term : (w : Written) → IsNode w → AreThere pool w → root_broken g w ≡ [] → arguments_broken g Unknown 0 w ≡ [] → IsTerm g (length pool) (tree_written g pool w)
  term Nothing is there at_root clean = absurd is
  term (Node name p arguments Nothing) is (node inner rest) at_root clean =
      let parts = clean_node g Unknown 0 name p arguments Nothing clean in
      let class = class_named g name in
      root (fits class first_class parts.concrete (not_broken (is_apart g class first_class) (at p N6) at_root))
      (arguments_hang class arguments parts.concrete parts.counted (comes arguments inner (arguments_of g class) _ parts.inner))
  term (Node name p arguments (Node a b c d)) is there at_root clean = absurd is
  term (Node name p arguments (Brackets a b c)) is there at_root clean = absurd is
  term (Node name p arguments (Valued a b c)) is there at_root clean = absurd is
  term (Brackets p nodes behind) is there at_root clean = absurd is
  term (Valued leaf p behind) is there at_root clean = absurd is

  -- so are its nodes
  pub accepted_tree : (w : Written) → IsNode w → AreThere pool w → root_broken g w ≡ [] → arguments_broken g Unknown 0 w ≡ [] → IsTreeOf g (length pool) (nodes_of (tree_written g pool w))
  accepted_tree w is there at_root clean = record {
    term = tree_written g pool w;
    grown = term w is there at_root clean;
    are = refl;
    few = omega (arith, length_nodes 0 0 (tree_written g pool w), size_grown g pool w false 0, few_nodes g w Unknown 0 (omega arith) clean);
  }
