-- What accessors answer of a node by its code, by each naming: past the tree no source node has anything.
use Rattle.std.proofs.Common.{◌≡◌, ℕ, zero, suc, ◌<◌, ◌≤◌, Bool, true, false, cond, Option, Some, None, IfSome, is_some, pos, length, refl, sym, ap, ◌∙◌, arith}
use Rattle.ast_grammar.specs.declared.grammar.ClassId.{ClassId}
use Rattle.attr_rules.specs.declared.kinds.Kind.{Kind}
use Rattle.attr_rules.specs.declared.kinds.Kind.TheVariants as kinds
use Rattle.solutions.specs.Asking.{Gives}
use Rattle.tree_arena.specs.Nodes.{child_in, count_in, most_nodes, token_in}
use Rattle.tree_arena.specs.Terms.{IsTree}
use Rattle.equation_law.specs.Codes.{IsNamingOf, Naming, reference_by, reference_of, value_coded}
use Rattle.equation_law.specs.Equations.{count_of, decoded, element_of, source_or_null, token_of, world_of}
use Rattle.equation_law.specs.Meaning.{cast_to, child_at, element_at, is_instance, is_there}
use Rattle.equation_law.specs.Names.{At, Made, NodeName, Null, Reference, Source}
use Rattle.equation_law.specs.Program.{Program, text_of}
use Rattle.equation_law.specs.Values.{default_of}
use Rattle.equation_law.proofs.Codes.{IsPast, node_by, null_by, past_tree, source_by}
use Rattle.equation_law.proofs.Preordered.{none_counted, none_past}
use Rattle.expr_eval.specs.Elements.{node_kind}
use Rattle.expr_eval.proofs.Hanging.{child_sourced, none_behind}

-- no node has a place past all nodes
pub element_behind : (p : Program) (x : NodeName) (k i : ℕ) → length p.tree ≤ i → element_of p x k (pos i) ≡ Null
element_behind p (Source n) k i past = ap source_or_null (none_behind p.tree n k i past)
element_behind p (Made a r xs q) k i past = refl

-- whether there is a node, by its code
pub there_by : (nodes : ℕ → NodeName) (o : Option ℕ) (c : ℕ) → source_or_null o ≡ reference_of c → is_some o ≡ is_there (reference_by nodes c)
there_by nodes None zero e = refl
there_by nodes None (suc c) e = cc
there_by nodes (Some k) zero e = cc
there_by nodes (Some k) (suc c) e = refl

-- a node is cast to a class by whether it is of that class
pub cast_by : (p : Program) (class : ClassId) (r : Reference) (b : Bool) → b ≡ is_instance (world_of p) class r → cond b r Null ≡ cast_to (world_of p) class r
cast_by p class Null true e = refl
cast_by p class Null false e = refl
cast_by p class (At x) b e = ap (λ t. cond t (At x) Null) e

-- a code that is none of nodes that were made is null or that of a source node
pub source_within : (m c : ℕ) → c ≤ most_nodes → At (Source m) ≡ reference_of c → m < most_nodes
source_within m zero few is = cc
source_within m (suc c) few is = let same : m ≡ c = cc in omega (arith, same, few)

-- and the code of a source node, or of null, is none of theirs
pub code_within : (o : Option ℕ) → IfSome o (λ m. m < most_nodes) → (c : ℕ) → reference_of c ≡ source_or_null o → c ≤ most_nodes
code_within o within zero is = omega arith
code_within None within (suc c) is = cc
code_within (Some m) within (suc c) is = let same : c ≡ m = cc in omega (arith, same, within)

module _ {p : Program} {n : Naming} (h : IsNamingOf p n) where
  -- past the tree no node has elements
  pub no_element : IsTree p.tree → length p.tree ≤ most_nodes → (m k i : ℕ) → length p.tree ≤ m → element_of p (n.node m) k (pos i) ≡ Null
  no_element tree few m k i past = of (n.node m) (past_tree h few m past)
    where
      of : (x : NodeName) → IsPast p x → element_of p x k (pos i) ≡ Null
      of (Source j) far = ap source_or_null (none_past p.tree tree j k i far)
      of (Made a r xs q) far = refl

  pub no_count : IsTree p.tree → length p.tree ≤ most_nodes → (m k : ℕ) → length p.tree ≤ m → count_of p (n.node m) k ≡ 0
  no_count tree few m k past = of (n.node m) (past_tree h few m past)
    where
      of : (x : NodeName) → IsPast p x → count_of p x k ≡ 0
      of (Source j) far = none_counted p.tree tree j k far
      of (Made a r xs q) far = refl

  -- what hangs at a node of the tree
  pub element_by : length p.tree ≤ most_nodes → (m k i : ℕ) (o : Option ℕ) (c : ℕ) → m < length p.tree → o ≡ child_in p.tree m k i → reference_of c ≡ source_or_null o → reference_by n.node c ≡ element_of p (n.node m) k (pos i)
  element_by few m k i o c within is code =
      source_by h o (child_sourced p.tree m k i o few is) c code ∙ ap source_or_null is ∙ sym (ap (λ x. element_of p x k (pos i)) (h.sources m (omega (arith, within, few))))

  -- how many hang at a component of a node of the tree
  pub count_by : length p.tree ≤ most_nodes → (m k c : ℕ) → m < length p.tree → c ≡ count_in p.tree m k → c ≡ count_of p (n.node m) k
  count_by few m k c within is = is ∙ sym (ap (λ x. count_of p x k) (h.sources m (omega (arith, within, few))))

  -- the accessors of a receiver, by its code
  pub child_by : (m k c : ℕ) (r : Reference) → c ≤ most_nodes → At (Source m) ≡ reference_of c → r ≡ element_of p (n.node m) k (pos 0) → r ≡ child_at (world_of p) k (reference_by n.node c)
  child_by m k c r few is e =
      let source : n.node m ≡ Source m = h.sources m (source_within m c few is) in
      e ∙ ap (λ x. element_of p x k (pos 0)) source ∙ sym (ap (λ x. child_at (world_of p) k (At x)) source) ∙ ap (child_at (world_of p) k) (sym (node_by n.node m c is))

  pub element_of_code : (m k i c : ℕ) (r : Reference) → At (Source m) ≡ reference_of c → r ≡ element_of p (n.node m) k (pos i) → r ≡ element_at (world_of p) k (reference_by n.node c) (pos i)
  element_of_code m k i c r is e = e ∙ ap (λ x. element_at (world_of p) k x (pos i)) (sym (node_by n.node m c is))

  pub on_null : {A : Type 0} (f : Reference → A) (c : ℕ) → Null ≡ reference_of c → f Null ≡ f (reference_by n.node c)
  on_null f c is = ap f (sym (null_by n.node c is))

  pub on_node : {A : Type 0} (f : Reference → A) (m c : ℕ) → At (Source m) ≡ reference_of c → f (At (n.node m)) ≡ f (reference_by n.node c)
  on_node f m c is = ap f (sym (node_by n.node m c is))

  -- the token of a source node
  pub token_by : (t : Kind) (m k : ℕ) → m < most_nodes → Gives (decoded (text_of p) t (token_in p.tree m k)) ≡ token_of p t (n.node m) k
  token_by t m k within = sym (ap (λ x. token_of p t x k) (h.sources m within))

-- a code is decoded to what it stands for by each naming, if it is no node's
pub decoded_by : (n : Naming) (t : Kind) (c : ℕ) → node_kind t ≡ false → value_coded n t c ≡ decoded n.text t (Some c)
decoded_by n kinds.Truth c e = refl
decoded_by n kinds.Int c e = refl
decoded_by n kinds.Text c e = refl
decoded_by n (kinds.Node d) c e = cc
decoded_by n kinds.Texts c e = refl
decoded_by n (kinds.Nodes d) c e = refl

-- and else to the default of the type
pub undecoded : (n : Naming) (t : Kind) (o : Option ℕ) → ((c : ℕ) → o ≡ Some c → node_kind t ≡ true) → default_of t ≡ decoded n.text t o
undecoded n t None e = refl
undecoded n kinds.Truth (Some c) e = let none = e c refl in cc
undecoded n kinds.Int (Some c) e = let none = e c refl in cc
undecoded n kinds.Text (Some c) e = let none = e c refl in cc
undecoded n (kinds.Node d) (Some c) e = refl
undecoded n kinds.Texts (Some c) e = let none = e c refl in cc
undecoded n (kinds.Nodes d) (Some c) e = let none = e c refl in cc
