-- What is told of the node at a spot.
use Rattle.std.proofs.Common.{◌≡◌, ℕ, suc, ◌+◌, ◌*◌, ◌<◌, List, Option, Some, None, length, slice_get, refl, ap, ◌∙◌}
use Rattle.std.specs.Option.{option_map}
use Rattle.tree_arena.specs.Nodes.{class_in, most_nodes}
use Rattle.equation_law.specs.declared.coding.Instance.{Instance as CodedInstance}
use Rattle.equation_law.specs.declared.coding.Instance.TheVariants as coded
use Rattle.equation_law.specs.Codes.{IsCoded, instance_by, most_made, reference_by}
use Rattle.equation_law.specs.Created.{Making, tree_or_none}
use Rattle.equation_law.specs.Names.{Argument, At, Attribute, Made, Reference, row_of}
use Rattle.equation_law.specs.Program.{Program, making_of}
use Rattle.equation_law.specs.Reading.{class_behind}
use Rattle.made_trees.specs.Made.{AreMakers, CanMake, maker_at, naming_by_makers, node_by_makers}
use Rattle.made_trees.specs.Stands.{Stand, stands_or_none}
use Rattle.made_trees.proofs.Kept.{maker_below}
use Rattle.made_trees.proofs.Naming.{maker_coded, maker_makes, node_there}
use Rattle.made_trees.proofs.Stands.{class_is}

module _ (p : Program) (ms : List CodedInstance) (all : AreMakers p ms) where
  -- a code at a spot stands for a node that a maker made
  pub record IsAtSpot (c t q : ℕ) : Type 0 where
    pub maker : CodedInstance
    pub attribute : ℕ
    pub owner : Reference
    pub arguments : List Argument
    pub there : maker_at ms t ≡ Some maker
    pub is : instance_by p (naming_by_makers p ms) maker ≡ Attribute attribute owner arguments
    pub stands : reference_by (node_by_makers p ms) c ≡ At (Made attribute owner (row_of arguments) q)
    pub coded : IsCoded p maker
    pub can : CanMake p t maker

  pub spot_is : (c t q : ℕ) → c ≡ suc (most_nodes + (most_made * t + q)) → q < most_made → t < length ms → IsAtSpot c t q
  spot_is c t q code few low = let m = maker_below ms t low in of m.0 m.1 (maker_makes p ms all t m.0 m.1)
    where
      of : (x : CodedInstance) → maker_at ms t ≡ Some x → CanMake p t x → IsAtSpot c t q
      of (coded.Attr a n xs) there can = record {
        maker = coded.Attr a n xs;
        attribute = a.0;
        owner = reference_by (node_by_makers p ms) n.0;
        arguments = _;
        there = there;
        is = refl;
        stands = ap (reference_by (node_by_makers p ms)) code ∙ ap At (node_there p ms all t q (coded.Attr a n xs) few there);
        coded = maker_coded p ms all t (coded.Attr a n xs) there;
        can = can;
      }
      of (coded.Query k) there can = absurd can

  -- where it stands in the tree
  pub class_there : (a q : ℕ) (o : Option Making) → class_in (tree_or_none o) q ≡ option_map (λ (s : Stand). s.class) (slice_get (stands_or_none o) q)
  class_there a q None = refl
  class_there a q (Some m) = class_is m q

  pub spot_class : (c t q : ℕ) (h : IsAtSpot c t q) (o : Option Stand) → slice_get (stands_or_none (making_of p h.attribute h.owner)) q ≡ o → class_behind p (reference_by (node_by_makers p ms) c) ≡ option_map (λ (s : Stand). s.class) o
  spot_class c t q h o e = ap (class_behind p) h.stands ∙ class_there h.attribute q (making_of p h.attribute h.owner) ∙ ap (option_map (λ (s : Stand). s.class)) e
