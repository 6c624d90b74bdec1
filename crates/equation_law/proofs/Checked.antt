-- What is a value of a type, and what is an instance of a program, by its form.
use Rattle.std.proofs.Common.{◌≡◌, ℕ, ◌<◌, true, List, Contains, Option, Some, None, length, slice_get, ap, ◌∙◌}
use Rattle.std.specs.Int.{int_wrap}
use Rattle.std.proofs.lemmas.Option.{slice_get_within}
use mir.Syntax.{w32}
use Rattle.ast_grammar.specs.declared.grammar.ClassId.{ClassId}
use Rattle.attr_rules.specs.declared.kinds.Attr.{Attr}
use Rattle.attr_rules.specs.declared.kinds.Kind.{Kind}
use Rattle.attr_rules.specs.declared.kinds.Kind.TheVariants as kinds
use Rattle.attr_rules.specs.Queries.{Query as Asked}
use Rattle.attr_rules.specs.Types.{is_below, parameter_kinds}
use Rattle.tree_arena.specs.Nodes.{Node as TreeNode}
use Rattle.equation_law.specs.Checked.{AreArguments, IsAt, IsInstance, IsMade, IsNodeAt, IsNodeOf, IsValue, int, node, nodes, of_attribute, of_query, text, texts, tree, truth}
use Rattle.equation_law.specs.Names.{At, Attribute, Instance, NodeName, Null, Query, Source}
use Rattle.equation_law.specs.Program.{Program, class_of, declared_of}
use Rattle.equation_law.specs.Sets.{has as is_element}
use Rattle.equation_law.specs.Values.{Int, Node, Nodes, Text, Texts, Tree, Truth, Value}
use Rattle.equation_law.proofs.Lists.{some_of}

module _ (p : Program) where
  -- whether there is a source node of a class, by the class of what is there
  pub below_of_class : (k : ℕ) (c : ClassId) → IsAt p k c → is_below p.grammar (class_of p k) c ≡ true
  below_of_class k c h = ap (λ (o : Option ClassId). is_below p.grammar o c) h.of ∙ h.below

  pub at_of_class : (k : ℕ) (c : ClassId) (o : Option ClassId) → class_of p k ≡ o → is_below p.grammar o c ≡ true → IsAt p k c
  at_of_class k c None e h = cc
  at_of_class k c (Some d) e h = record { class = d; of = e; below = h }

  -- it is one of the tree
  pub place_within : (k : ℕ) (c : ClassId) → IsAt p k c → k < length p.tree
  place_within k c h = let there = some_of (λ (n : TreeNode). n.class) (slice_get p.tree k) h.class h.of in slice_get_within p.tree k there.0 there.1

  -- a source node of a class is a node of it
  pub source_at : (k : ℕ) (c : ClassId) → IsAt p k c → IsNodeAt p (Source k) c
  source_at k c h = record { there = place_within k c h; class = h.class; of = h.of; below = h.below }

  pub at_source_node : (k : ℕ) (c : ClassId) → IsNodeAt p (Source k) c → IsAt p k c
  at_source_node k c h = record { class = h.class; of = h.of; below = h.below }

  -- what is a value of a type
  abbrev pub OfKind : Kind → Value → Type 0
  OfKind kinds.Truth (Truth b) = Unit {0}
  OfKind kinds.Truth (Int z) = ⊥
  OfKind kinds.Truth (Text t) = ⊥
  OfKind kinds.Truth (Node r) = ⊥
  OfKind kinds.Truth (Texts s) = ⊥
  OfKind kinds.Truth (Nodes s) = ⊥
  OfKind kinds.Truth (Tree r ts) = ⊥
  OfKind kinds.Int (Truth b) = ⊥
  OfKind kinds.Int (Int z) = int_wrap w32 z ≡ z
  OfKind kinds.Int (Text t) = ⊥
  OfKind kinds.Int (Node r) = ⊥
  OfKind kinds.Int (Texts s) = ⊥
  OfKind kinds.Int (Nodes s) = ⊥
  OfKind kinds.Int (Tree r ts) = ⊥
  OfKind kinds.Text (Truth b) = ⊥
  OfKind kinds.Text (Int z) = ⊥
  OfKind kinds.Text (Text t) = Contains p.texts t
  OfKind kinds.Text (Node r) = ⊥
  OfKind kinds.Text (Texts s) = ⊥
  OfKind kinds.Text (Nodes s) = ⊥
  OfKind kinds.Text (Tree r ts) = ⊥
  OfKind (kinds.Node c) (Truth b) = ⊥
  OfKind (kinds.Node c) (Int z) = ⊥
  OfKind (kinds.Node c) (Text t) = ⊥
  OfKind (kinds.Node c) (Node r) = IsNodeOf p c r
  OfKind (kinds.Node c) (Texts s) = ⊥
  OfKind (kinds.Node c) (Nodes s) = ⊥
  OfKind (kinds.Node c) (Tree r ts) = IsMade p c r ts
  OfKind kinds.Texts (Truth b) = ⊥
  OfKind kinds.Texts (Int z) = ⊥
  OfKind kinds.Texts (Text t) = ⊥
  OfKind kinds.Texts (Node r) = ⊥
  OfKind kinds.Texts (Texts s) = (t : List ℕ) → is_element s t ≡ true → Contains p.texts t
  OfKind kinds.Texts (Nodes s) = ⊥
  OfKind kinds.Texts (Tree r ts) = ⊥
  OfKind (kinds.Nodes c) (Truth b) = ⊥
  OfKind (kinds.Nodes c) (Int z) = ⊥
  OfKind (kinds.Nodes c) (Text t) = ⊥
  OfKind (kinds.Nodes c) (Node r) = ⊥
  OfKind (kinds.Nodes c) (Texts s) = ⊥
  OfKind (kinds.Nodes c) (Nodes s) = (n : NodeName) → is_element s n ≡ true → IsNodeOf p c (At n)
  OfKind (kinds.Nodes c) (Tree r ts) = ⊥

  pub of_kind : (k : Kind) (v : Value) → IsValue p k v → OfKind k v
  of_kind _ _ (truth b) = tt
  of_kind _ _ (int z e) = e
  of_kind _ _ (text t e) = e
  of_kind _ _ (node c r h) = h
  of_kind _ _ (texts s h) = h
  of_kind _ _ (tree c r ts h) = h
  of_kind _ _ (nodes c s h) = h

  -- what is an instance
  abbrev pub Has : Instance → Type 0
  Has (Attribute a Null xs) = ⊥
  Has (Attribute a (At n) xs) = (d : Attr) × (declared_of p a ≡ Some d) × IsNodeAt p n d.class × AreArguments p (parameter_kinds d.params) xs
  Has (Query q) = (e : Asked) × (slice_get p.queries q ≡ Some e)

  pub has : (i : Instance) → IsInstance p i → Has i
  has _ (of_attribute d e h q) = (d, e, h, q)
  has _ (of_query e o) = (e, o)
