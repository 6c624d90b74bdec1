use Rattle.std.proofs.Common.{Some, subst}
use Rattle.made_trees.specs.Makers.{Trees}
use Rattle.made_trees.specs.Ordered.{IsCreation}
use Rattle.made_trees.proofs.Ordered.{made_leads}
use Rattle.made_trees.proofs.order.compare.Goals as goal

pub returns-in-Some-Some-clause-leads : goal.returns-in-Some-Some-clause-leads
returns-in-Some-Some-clause-leads g c =
    let T = g.K.KeepsMakers.trees c.args.keeper.now in
    let same = g.met.K.KeepsMakers.still c.args.keeper.now c.creation_of.new.keeper c.creation_of.ensures.kept in
    let at = c.in-Some-Some in
    made_leads T c.creation_of.ensures.trees c.args.system.now c.requires c.args.left.0 c.args.right.0 at.x at.y c.by_creation.result at.ensures.creation
    (subst (λ (x : Trees). IsCreation x c.args.right.0 (Some at.y)) same at.ensures'.creation) c.by_creation.ensures
