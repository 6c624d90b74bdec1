-- What stands above a node that was made.
use Rattle.std.proofs.Common.{◌≡◌, ℕ, zero, suc, ◌+◌, ◌-◌, ◌*◌, ◌<◌, Option, Some, None, IsSome, length, slice_get, arith, refl, sym, ap, subst, ◌∙◌}
use Rattle.std.specs.Option.{option_map}
use Rattle.tree_arena.specs.Nodes.{most_nodes, parent_in}
use Rattle.equation_law.specs.declared.coding.NodeRef.{NodeRef}
use Rattle.equation_law.specs.declared.coding.Up.{Up}
use Rattle.equation_law.specs.declared.coding.Up.TheVariants as up
use Rattle.equation_law.specs.declared.coding.Instance.{Instance as CodedInstance}
use Rattle.equation_law.specs.declared.coding.Instance.TheVariants as coded
use Rattle.equation_law.specs.Codes.{instance_by, most_made}
use Rattle.equation_law.specs.Created.{Making, tree_or_none}
use Rattle.equation_law.specs.Names.{At, Instance, Made, NodeName, Reference, made_by, row_of}
use Rattle.equation_law.specs.Equations.{number_or_zero}
use Rattle.equation_law.specs.Program.{making_of}
use Rattle.equation_law.specs.Reading.{code_above, IsHigher, Parent, class_behind, higher_than, parent_or_maker}
use Rattle.made_trees.specs.declared.spots.Spot.{Spot}
use Rattle.made_trees.specs.declared.news.Stand.{Stand as FoundNode}
use Rattle.made_trees.specs.Made.{CanMake, maker_at, node_of}
use Rattle.made_trees.specs.Makers.{AreTrees, IsOwnerOf, IsSpotOf, IsStandAt, Trees, naming_of, program_for, stands_for}
use Rattle.made_trees.specs.Stands.{Stand, stand_of, stands_or_none}
use Rattle.made_trees.proofs.Naming.{node_there}
use Rattle.made_trees.proofs.Nodes.{at_spot, class_told, few_there, maker_told, none_told, stand_there}
use Rattle.made_trees.proofs.Stands.{component_is, parent_is}

module _ (T : Trees) (trees : AreTrees T) where
  above_there : (name : ℕ → NodeName) (r : Reference) (a : ℕ) (o : Option Making) (q : ℕ) (s : Stand) → 0 < q → slice_get (stands_or_none o) q ≡ Some s → parent_or_maker name r a (tree_or_none o) q (parent_in (tree_or_none o) q) ≡ Parent (name s.parent) s.component
  above_there name r a None q s l e = absurd (cc)
  above_there name r a (Some m) zero s l e = absurd (omega (arith, l))
  above_there name r a (Some m) (suc q) s l e =
      ap (parent_or_maker name r a (tree_or_none (Some m)) (suc q)) (parent_is m q s e) ∙ ap (λ (k : Option ℕ). Parent (name s.parent) (number_or_zero k)) (component_is m (suc q) s e)

  -- the parent
  pub parent_told : (c : ℕ) (s : Spot) (o : FoundNode) (n : NodeRef) → IsSpotOf (length T.makers) c (Some s) → IsStandAt T s (Some o) → 0 < s.position → n.0 ≡ c - (s.position - o.parent)
      → IsHigher (naming_of T) (up.Inside n o.component) (higher_than (program_for T) (stands_for T c))
  parent_told c s o n spot found some code =
      let h = at_spot T trees c s spot in
      let above : higher_than (program_for T) (stands_for T c) ≡ Parent (Made h.attribute h.owner (row_of h.arguments) o.parent) o.component =
      ap (higher_than (program_for T)) h.stands ∙ above_there (Made h.attribute h.owner (row_of h.arguments)) h.owner h.attribute (making_of (program_for T) h.attribute h.owner) s.position (stand_of o) some (stand_there T trees c s (Some o) h found)
      in
      let front = (few_there T trees c s o spot found).2 some in
      let at = spot.0 in
      let few = spot.1 in
      let place : n.0 ≡ suc (most_nodes + (most_made * s.tree + o.parent)) = omega (arith, code, at, front) in
      let node = node_there (program_for T) T.makers trees.makers s.tree o.parent h.maker (omega (arith, front, few)) h.there ∙ ap (λ (i : Instance). node_of i o.parent (most_nodes + (most_made * s.tree + o.parent))) h.is in
      subst (IsHigher (naming_of T) (up.Inside n o.component)) (sym above) (ap (stands_for T) place ∙ ap At node, refl)

  pub parent_falls : (c : ℕ) (s : Spot) (o : FoundNode) → IsSpotOf (length T.makers) c (Some s) → IsStandAt T s (Some o) → 0 < s.position → (o.parent < s.position) × (s.position < c)
  parent_falls c s o spot found some = let front = (few_there T trees c s o spot found).2 some in let at = spot.0 in (front, omega (arith, at))

  pub nothing_there : {A : Type 0} (c : ℕ) (s : Spot) → IsSpotOf (length T.makers) c (Some s) → IsStandAt T s None → IsSome (class_behind (program_for T) (stands_for T c)) → A
  nothing_there c s spot found some = absurd (let wrong : IsSome (option_map (λ (x : Stand). x.class) (option_map stand_of None)) = subst IsSome (class_told T trees c s None spot found) some in cc)

  -- the owner
  pub owner_told : (c : ℕ) (s : Spot) (u : Up) → IsSpotOf (length T.makers) c (Some s) → s.position ≡ 0 → IsOwnerOf T s.tree u → IsHigher (naming_of T) u (higher_than (program_for T) (stands_for T c)) × (code_above u < c)
  owner_told c s u spot root owner = let h = at_spot T trees c s spot in of h.maker h.there h.can
    where
      of : (x : CodedInstance) → maker_at T.makers s.tree ≡ Some x → CanMake (program_for T) s.tree x → IsHigher (naming_of T) u (higher_than (program_for T) (stands_for T c)) × (code_above u < c)
      of (coded.Attr a n xs) there can =
          let stands = (maker_told T trees c s (coded.Attr a n xs) spot there).1 ∙ ap (made_by (instance_by (program_for T) (naming_of T) (coded.Attr a n xs))) root in
          let low = can.owner in
          let at = spot.0 in
          subst (λ (y : Up). IsHigher (naming_of T) y (higher_than (program_for T) (stands_for T c)) × (code_above y < c)) (sym (owner a n xs there))
          (subst (λ (y : Reference). IsHigher (naming_of T) (up.Owner n a) (higher_than (program_for T) y)) (sym stands) (refl, refl), omega (arith, low, at))
      of (coded.Query q) there can = absurd can

  pub none_above : {A : Type 0} (c : ℕ) → most_nodes < c → IsSpotOf (length T.makers) c None → IsSome (class_behind (program_for T) (stands_for T c)) → A
  none_above c high spot some = absurd (let wrong : IsSome (option_map (λ (x : Stand). x.class) None) = subst IsSome (none_told T trees c high spot) some in cc)
