-- What is told of a node, from the spot at which its code stands and what is found there.
use Rattle.std.proofs.Common.{◌≡◌, inl, inr, ℕ, zero, suc, ◌+◌, ◌-◌, ◌*◌, ◌/◌, ◌%◌, ◌<◌, ◌≤◌, ◌==◌, nat_lt, false, ◌∷◌, List, Option, Some, None, IfSome, length, slice_get, arith, refl, sym, ap, subst, ◌∙◌}
use Rattle.std.specs.Option.{option_and_then, option_map}
use Rattle.std.proofs.lemmas.Bool.{cond-true, eq-eqb, ltb-false}
use Rattle.std.proofs.lemmas.Option.{same_Some, slice_get_past}
use Rattle.tree_arena.specs.Nodes.{Node, child_in, most_nodes}
use Rattle.tree_arena.specs.Terms.{IsTree}
use Rattle.equation_law.proofs.Preordered.{none_past}
use Rattle.made_trees.proofs.Kept.{few_makers}
use Rattle.equation_law.specs.declared.coding.Instance.{Instance as CodedInstance}
use Rattle.equation_law.specs.Codes.{IsCoded, instance_by, most_made, reference_of}
use Rattle.attr_rules.specs.Typing.{nodes_below, tokens_made}
use Rattle.equation_law.specs.Meaning.{child_at}
use Rattle.equation_law.specs.Created.{Making, own_tokens, tree_or_none}
use Rattle.equation_law.specs.Equations.{child_of, made_or_null, source_or_null, token_place, world_of}
use Rattle.equation_law.specs.Names.{At, Instance, Made, NodeName, Null, Source, made_by, row_of}
use Rattle.equation_law.specs.Program.{making_of}
use Rattle.equation_law.specs.Reading.{class_behind}
use Rattle.made_trees.specs.declared.spots.Spot.{Spot}
use Rattle.made_trees.specs.declared.news.Stand.{Stand as FoundNode}
use Rattle.equation_law.specs.Keys.{IsMade}
use Rattle.made_trees.specs.Made.{last_code, maker_at, node_of}
use Rattle.made_trees.specs.Makers.{child_code, AreTrees, IsMakerOf, IsSpotOf, IsStandAt, IsTokenAt, Trees, making_for, naming_of, program_for, stands_for}
use Rattle.made_trees.specs.Stands.{Stand, child_place, stand_of, stands_or_none}
use Rattle.made_trees.proofs.Naming.{node_past, node_there, number_below, past_sources}
use Rattle.made_trees.proofs.Stands.{bounds_of, child_is, no_child, no_token, token_is}
use Rattle.made_trees.proofs.Told.{IsAtSpot, spot_class, spot_is}

module _ (T : Trees) (trees : AreTrees T) where
  pub at_spot : (c : ℕ) (s : Spot) → IsSpotOf (length T.makers) c (Some s) → IsAtSpot (program_for T) T.makers trees.makers c s.tree s.position
  at_spot c s h = spot_is (program_for T) T.makers trees.makers c s.tree s.position h.0 h.1 h.2

  pub stand_there : (c : ℕ) (s : Spot) (o : Option FoundNode) (h : IsAtSpot (program_for T) T.makers trees.makers c s.tree s.position) → IsStandAt T s o
      → slice_get (stands_or_none (making_of (program_for T) h.attribute h.owner)) s.position ≡ option_map stand_of o
  stand_there c s o h found = ap (λ (i : Instance). slice_get (stands_or_none (making_for (program_for T) i)) s.position) (sym h.is) ∙ found h.maker h.there

  -- the class
  pub class_told : (c : ℕ) (s : Spot) (o : Option FoundNode) → IsSpotOf (length T.makers) c (Some s) → IsStandAt T s o → class_behind (program_for T) (stands_for T c) ≡ option_map (λ (x : Stand). x.class) (option_map stand_of o)
  class_told c s o spot found =
      let h = at_spot c s spot in
      spot_class (program_for T) T.makers trees.makers c s.tree s.position h (option_map stand_of o) (stand_there c s o h found)

  past_class : (k : ℕ) → most_nodes ≤ k → class_behind (program_for T) (At (Source k)) ≡ None
  past_class k high = let few = trees.few in ap (option_map (λ (x : Node). x.class)) (slice_get_past (program_for T).tree k (omega (arith, few, high)))

  pub none_told : (c : ℕ) → most_nodes < c → IsSpotOf (length T.makers) c None → class_behind (program_for T) (stands_for T c) ≡ None
  none_told zero high spot = absurd (omega (arith, high))
  none_told (suc k) high (inl low) = absurd (omega (arith, high, low))
  none_told (suc k) high (inr past) = ap (λ (n : NodeName). class_behind (program_for T) (At n)) (node_past (program_for T) T.makers k (omega (arith, past))) ∙ past_class k (omega (arith, high))

  -- a code of a source node
  pub source_told : (c : ℕ) (o : Option ℕ) → source_or_null o ≡ reference_of c → c ≤ most_nodes → stands_for T c ≡ source_or_null o
  source_told zero o e low = sym e
  source_told (suc k) o e low = ap At (past_sources (program_for T) T.makers k (omega (arith, low))) ∙ sym e

  pub spot_at : (n c : ℕ) (o : Option Spot) → n ≡ length T.makers → IsSpotOf n c o → IsSpotOf (length T.makers) c o
  spot_at n c o same h = subst (λ (k : ℕ). IsSpotOf k c o) same h

  -- who made it
  pub maker_told : (c : ℕ) (s : Spot) (x : CodedInstance) → IsSpotOf (length T.makers) c (Some s) → maker_at T.makers s.tree ≡ Some x → IsMakerOf T c (Some (x, s.position))
  maker_told c s x spot there =
      let h = at_spot c s spot in
      let same : h.maker ≡ x = same_Some h.maker x (sym h.there ∙ there) in
      (subst (IsCoded (program_for T)) same h.coded, h.stands ∙ ap (λ (i : Instance). made_by i s.position) (sym h.is) ∙ ap (λ (y : CodedInstance). made_by (instance_by (program_for T) (naming_of T) y) s.position) same)

  pub no_maker : (c : ℕ) → IsSpotOf (length T.makers) c None → IsMakerOf T c None
  no_maker zero spot a q r xs e = absurd (cc)
  no_maker (suc k) (inl low) a q r xs e = absurd (let source = ap At (past_sources (program_for T) T.makers k (omega (arith, low))) in let wrong : At (Source k) ≡ At (Made a r xs q) = sym source ∙ e in cc)
  no_maker (suc k) (inr past) a q r xs e = absurd (let source = ap At (node_past (program_for T) T.makers k (omega (arith, past))) in let wrong : At (Source k) ≡ At (Made a r xs q) = sym source ∙ e in cc)

  -- the place of a token
  place_there : (o : Option Making) (q k : ℕ) (s : Option Stand) → slice_get (stands_or_none o) q ≡ s → token_place o q k ≡ option_and_then (λ (x : Stand). option_and_then (λ (y : Option ℕ). y) (slice_get (own_tokens x.arguments x.tokens) k)) s
  place_there None q k s e = ap (option_and_then (λ (x : Stand). option_and_then (λ (y : Option ℕ). y) (slice_get (own_tokens x.arguments x.tokens) k))) e
  place_there (Some m) q k (Some s) e = token_is m q k s e
  place_there (Some m) q k None e = no_token m q k e

  pub token_told : (c k : ℕ) (s : Spot) (o : Option FoundNode) (result : Option ℕ) → IsSpotOf (length T.makers) c (Some s) → IsStandAt T s o
      → option_and_then (λ (x : Stand). option_and_then (λ (y : Option ℕ). y) (slice_get (own_tokens x.arguments x.tokens) k)) (option_map stand_of o) ≡ result → IsTokenAt T c k result
  token_told c k s o result spot found last a q r xs e =
      let h = at_spot c s spot in
      let there = place_there (making_of (program_for T) h.attribute h.owner) s.position k (option_map stand_of o) (stand_there c s o h found) in
      let one : At (Made h.attribute h.owner (row_of h.arguments) s.position) ≡ At (Made a r xs q) = sym h.stands ∙ e in
      let attribute : h.attribute ≡ a = cc in
      let owner : h.owner ≡ r = cc in
      let position : s.position ≡ q = cc in
      (λ i. token_place (making_of (program_for T) (sym attribute i) (sym owner i)) (sym position i) k) ∙ there ∙ last

  -- the parts of a node that is found are few
  pub few_there : (c : ℕ) (s : Spot) (o : FoundNode) → IsSpotOf (length T.makers) c (Some s) → IsStandAt T s (Some o)
      → (s.position + suc (nodes_below (stand_of o).arguments) ≤ most_made) × (o.tokens + tokens_made (stand_of o).arguments ≤ most_made) × (0 < s.position → o.parent < s.position)
  few_there c s o spot found = of (making_of (program_for T) h.attribute h.owner) refl (stand_there c s (Some o) h found)
    where
      h : IsAtSpot (program_for T) T.makers trees.makers c s.tree s.position
      h = at_spot c s spot

      of : (m : Option Making) → making_of (program_for T) h.attribute h.owner ≡ m → slice_get (stands_or_none (making_of (program_for T) h.attribute h.owner)) s.position ≡ Some (stand_of o)
          → (s.position + suc (nodes_below (stand_of o).arguments) ≤ most_made) × (o.tokens + tokens_made (stand_of o).arguments ≤ most_made) × (0 < s.position → o.parent < s.position)
      of None is e = absurd (let e' = ap (λ (y : Option Making). slice_get (stands_or_none y) s.position) (sym is) ∙ e in let wrong : None ≡ Some (stand_of o) = e' in cc)
      of (Some m) is e =
          let small = trees.small h.attribute h.owner m is in
          let b = bounds_of m s.position (stand_of o) (ap (λ (y : Option Making). slice_get (stands_or_none y) s.position) (sym is) ∙ e) in
          let x = b.0 in
          let y = b.1 in
          let v = small.0 in
          let w = small.1 in
          (omega (arith, x, v), omega (arith, y, w), b.2)

  -- each spot has a maker
  pub maker_missing : (c : ℕ) (s : Spot) → IsSpotOf (length T.makers) c (Some s) → maker_at T.makers s.tree ≡ None → ⊥
  maker_missing c s spot none = let h = at_spot c s spot in let there = h.there in let wrong : None ≡ Some h.maker = sym none ∙ there in cc

  child_there : (c k : ℕ) (s : Spot) (h : IsAtSpot (program_for T) T.makers trees.makers c s.tree s.position) (m : Option Making) (o : Option Stand) → making_of (program_for T) h.attribute h.owner ≡ m → slice_get (stands_or_none m) s.position ≡ o
      → child_at (world_of (program_for T)) k (stands_for T c) ≡ made_or_null (Made h.attribute h.owner (row_of h.arguments)) (option_and_then (λ (x : Stand). child_place x.arguments (suc s.position) k) o)
  child_there c k s h m o is e = ap (child_at (world_of (program_for T)) k) h.stands ∙ ap (made_or_null (Made h.attribute h.owner (row_of h.arguments))) (ap (λ (y : Option Making). child_in (tree_or_none y) s.position k 0) is ∙ of m o e)
    where
      of : (m : Option Making) (o : Option Stand) → slice_get (stands_or_none m) s.position ≡ o → child_in (tree_or_none m) s.position k 0 ≡ option_and_then (λ (x : Stand). child_place x.arguments (suc s.position) k) o
      of None o e = ap (option_and_then (λ (x : Stand). child_place x.arguments (suc s.position) k)) e
      of (Some m) (Some x) e = child_is m s.position k x e
      of (Some m) None e = no_child m s.position k e

  -- the child, by its position
  pub child_told : (c k : ℕ) (s : Spot) (o : Option FoundNode) (place : Option ℕ) → IsSpotOf (length T.makers) c (Some s) → IsStandAt T s o → place ≡ option_and_then (λ (x : Stand). child_place x.arguments (suc s.position) k) (option_map stand_of o)
      → IfSome place (λ j. j < most_made) → stands_for T (child_code s place) ≡ child_at (world_of (program_for T)) k (stands_for T c)
  child_told c k s o place spot found is few = of place few ∙ ap (made_or_null (Made h.attribute h.owner (row_of h.arguments))) is ∙ sym (child_there c k s h (making_of (program_for T) h.attribute h.owner) (option_map stand_of o) refl (stand_there c s o h found))
    where
      h : IsAtSpot (program_for T) T.makers trees.makers c s.tree s.position
      h = at_spot c s spot

      of : (place : Option ℕ) → IfSome place (λ j. j < most_made) → stands_for T (child_code s place) ≡ made_or_null (Made h.attribute h.owner (row_of h.arguments)) place
      of None few = refl
      of (Some j) few = ap At (node_there (program_for T) T.makers trees.makers s.tree j h.maker few h.there ∙ ap (λ (i : Instance). node_of i j (most_nodes + (most_made * s.tree + j))) h.is)

  -- past all trees there is no child
  pub past_child : (c k : ℕ) → IsTree (program_for T).tree → most_nodes < c → IsSpotOf (length T.makers) c None → Null ≡ child_at (world_of (program_for T)) k (stands_for T c)
  past_child zero k tree high spot = absurd (omega (arith, high))
  past_child (suc n) k tree high (inl low) = absurd (omega (arith, high, low))
  past_child (suc n) k tree high (inr past) =
      let few = trees.few in
      sym (ap (λ (x : NodeName). child_of (program_for T) x k) (node_past (program_for T) T.makers n (omega (arith, past))) ∙ ap source_or_null (none_past (program_for T).tree tree n k 0 (omega (arith, few, high))))

  pub few_trees : (c : ℕ) (s : Spot) → IsSpotOf (length T.makers) c (Some s) → s.tree < 268431359
  few_trees c s spot = let few = few_makers (program_for T) T.makers trees.makers in let low = spot.2 in omega (arith, few, low)

  -- the root of the tree of a maker
  pub root_told : (c t : ℕ) (x : CodedInstance) → c ≡ suc (most_nodes + (most_made * t + 0)) → maker_at T.makers t ≡ Some x → stands_for T c ≡ made_by (instance_by (program_for T) (naming_of T) x) 0
  root_told c t x e there = (maker_told c (record { tree = t; position = 0 }) x (e, omega arith, number_below (program_for T) T.makers t x there) there).1

  pub few_numbers : (t : ℕ) (x : CodedInstance) → maker_at T.makers t ≡ Some x → t < 268431359
  few_numbers t x there = let few = few_makers (program_for T) T.makers trees.makers in let low = number_below (program_for T) T.makers t x there in omega (arith, few, low)

-- a code of a source node
pub source_by : (T : Trees) (c n : ℕ) → source_or_null (Some n) ≡ reference_of c → nat_lt most_nodes c ≡ false → stands_for T c ≡ At (Source n)
source_by T zero n e low = absurd (cc)
source_by T (suc k) n e low = let few = ltb-false most_nodes (suc k) low in ap At (past_sources (program_for T) T.makers k (omega (arith, few))) ∙ sym e

pub last_maker : (x : CodedInstance) (before ms : List CodedInstance) (n : ℕ) → ms ≡ x ∷ before → n ≡ length before → maker_at ms n ≡ Some x
last_maker x before ms n is same = ap (λ (l : List CodedInstance). maker_at l n) is ∙ cond-true (length before == n) _ _ (eq-eqb (length before) n (sym same))

-- a code of these trees stands for a node that was made
pub made_known : (T : Trees) → AreTrees T → (c : ℕ) → most_nodes < c → c ≤ last_code (length T.makers) → (m : NodeName) × (stands_for T c ≡ At m) × IsMade m
made_known T trees c past known =
    let s : Spot = record { tree = (c - suc most_nodes) / most_made; position = (c - suc most_nodes) % most_made } in
    let h = at_spot T trees c s (omega (arith, past), omega arith, omega (arith, past, known)) in
    (Made h.attribute h.owner (row_of h.arguments) s.position, h.stands, tt)
