use Rattle.std.proofs.Common.{◌≡◌, ◌+◌, ◌<◌, IfSome, None, Option, Some, arith, ℕ, suc, sym, ap, subst, ◌∙◌}
use Rattle.attr_rules.specs.Expression.{new_arguments_of}
use Rattle.attr_rules.specs.Typing.{nodes_below}
use Rattle.equation_law.specs.Codes.{most_made}
use Rattle.made_trees.specs.Stands.{child_place}
use Rattle.made_trees.proofs.Nodes.{child_told, few_there, few_trees}
use Rattle.made_trees.proofs.Stands.{below_more, child_below}
use Rattle.made_trees.proofs.keeping.child_position.Goals as goal

pub returns-in_err-stand-clause-child : goal.returns-in_err-stand-clause-child
returns-in_err-stand-clause-child g c =
    child_told (g.K.KeepsMakers.trees c.args.keeper.now) c.requires.trees c.args.node.0 c.args.component c.args.spot None c.from_residual.result c.requires.spot c.in_err-stand.ensures.stand c.from_residual.ensures (subst (λ (o : Option ℕ). IfSome o (λ j. j < most_made)) (sym c.from_residual.ensures) tt)

pub returns-in_err-stand-clause-few : goal.returns-in_err-stand-clause-few
returns-in_err-stand-clause-few g c = subst (λ (o : Option ℕ). IfSome o (λ j. j < most_made)) (sym c.from_residual.ensures) tt

pub returns-in_err-stand-clause-trees : goal.returns-in_err-stand-clause-trees
returns-in_err-stand-clause-trees g c = few_trees (g.K.KeepsMakers.trees c.args.keeper.now) c.requires.trees c.args.node.0 c.args.spot c.requires.spot

pub child_place-requires : goal.child_place-requires
child_place-requires g c = let few = (few_there (g.K.KeepsMakers.trees c.args.keeper.now) c.requires.trees c.args.node.0 c.args.spot c.in_ok-stand.stand c.requires.spot c.in_ok-stand.ensures.stand).0 in omega (arith, few)

pub returns-clause-child : goal.returns-clause-child
returns-clause-child g c =
    let parts = new_arguments_of c.in_ok-stand.stand.parts.now in
    let next : c.args.spot.position + 1 ≡ suc c.args.spot.position = omega arith in
    let few = (few_there (g.K.KeepsMakers.trees c.args.keeper.now) c.requires.trees c.args.node.0 c.args.spot c.in_ok-stand.stand c.requires.spot c.in_ok-stand.ensures.stand).0 in
    child_told (g.K.KeepsMakers.trees c.args.keeper.now) c.requires.trees c.args.node.0 c.args.component c.args.spot (Some c.in_ok-stand.stand) c.child_place.result c.requires.spot c.in_ok-stand.ensures.stand (c.child_place.ensures ∙ ap (λ (n : ℕ). child_place parts n c.args.component) next)
    (subst (λ (o : Option ℕ). IfSome o (λ j. j < most_made)) (sym c.child_place.ensures) (below_more (child_place parts (c.args.spot.position + 1) c.args.component) (c.args.spot.position + 1 + nodes_below parts) most_made (omega (arith, few)) (child_below parts (c.args.spot.position + 1) c.args.component)))

pub returns-clause-few : goal.returns-clause-few
returns-clause-few g c =
    let parts = new_arguments_of c.in_ok-stand.stand.parts.now in
    let few = (few_there (g.K.KeepsMakers.trees c.args.keeper.now) c.requires.trees c.args.node.0 c.args.spot c.in_ok-stand.stand c.requires.spot c.in_ok-stand.ensures.stand).0 in
    subst (λ (o : Option ℕ). IfSome o (λ j. j < most_made)) (sym c.child_place.ensures) (below_more (child_place parts (c.args.spot.position + 1) c.args.component) (c.args.spot.position + 1 + nodes_below parts) most_made (omega (arith, few)) (child_below parts (c.args.spot.position + 1) c.args.component))

pub returns-clause-trees : goal.returns-clause-trees
returns-clause-trees g c = few_trees (g.K.KeepsMakers.trees c.args.keeper.now) c.requires.trees c.args.node.0 c.args.spot c.requires.spot
