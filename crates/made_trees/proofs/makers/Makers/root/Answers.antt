use Rattle.made_trees.proofs.Nodes.{few_numbers, root_told}
use Rattle.made_trees.proofs.makers.Makers.root.Goals as goal

pub root_of-requires : goal.root_of-requires
root_of-requires c = few_numbers c.args.self.now c.len-trees.ensures.trees c.in_ok-number.number c.args.i.now c.in_ok-number.ensures

pub returns : goal.returns
returns c = root_told c.args.self.now c.len-trees.ensures.trees c.root_of.result.0 c.in_ok-number.number c.args.i.now c.root_of.ensures c.in_ok-number.ensures
