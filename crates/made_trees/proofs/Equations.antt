-- What the equation says by which a tree was made.
use Rattle.std.proofs.Common.{◌≡◌, ℕ, ◌<◌, Option, Some, None, IfSome, length, slice_get, ap, ◌∙◌}
use Rattle.std.specs.Option.{option_map}
use Rattle.attr_rules.specs.declared.kinds.EqId.{EqId}
use Rattle.equation_law.specs.Codes.{instance_by}
use Rattle.equation_law.specs.Created.{Making}
use Rattle.equation_law.specs.Names.{Attribute, Instance, Query}
use Rattle.made_trees.specs.declared.news.Stand.{Stand as FoundNode}
use Rattle.made_trees.specs.declared.spots.Spot.{Spot}
use Rattle.made_trees.specs.Makers.{AreTrees, IsEquationAt, IsStandAt, Trees, making_by, making_for, naming_of, program_for}
use Rattle.made_trees.specs.Stands.{IsSmall, stand_of, stands_or_none}
use Rattle.made_trees.proofs.Kept.{maker_below}

-- the node at a spot is found by it
pub stand_by : (T : Trees) (spot : Spot) (e : Option EqId) (o : Option FoundNode) → IsEquationAt T spot.tree e → slice_get (stands_or_none (making_by (program_for T) e)) spot.position ≡ option_map stand_of o → IsStandAt T spot o
stand_by T spot e o by found x there = ap (λ (y : Option Making). slice_get (stands_or_none y) spot.position) (by.making x there) ∙ found

-- what it makes is small
pub small_by : (T : Trees) → AreTrees T → (t : ℕ) → t < length T.makers → (e : Option EqId) → IsEquationAt T t e → IfSome (making_by (program_for T) e) IsSmall
small_by T trees t low e by =
    let maker = maker_below T.makers t low in
    of (instance_by (program_for T) (naming_of T) maker.0) (making_by (program_for T) e) (by.making maker.0 maker.1)
  where
    of : (i : Instance) (o : Option Making) → making_for (program_for T) i ≡ o → IfSome o IsSmall
    of (Attribute a r xs) (Some m) is = trees.small a r m is
    of (Query q) (Some m) is = absurd (cc)
    of i None is = tt
