use Rattle.made_trees.proofs.Nodes.{few_numbers, last_maker, root_told}
use Rattle.made_trees.proofs.makers.Makers.add.Goals as goal

pub root_of-requires : goal.root_of-requires
root_of-requires c = few_numbers c.args.self.now c.len-number.ensures.trees c.in-Some.known c.args.instance c.in-Some.ensures

pub returns-in-Some-clause-root : goal.returns-in-Some-clause-root
returns-in-Some-clause-root c = root_told c.args.self.now c.len-number.ensures.trees c.root_of.result.0 c.in-Some.known c.args.instance c.root_of.ensures c.in-Some.ensures

pub returns-clause-root : goal.returns-clause-root
returns-clause-root c =
    root_told c.push.new.self c.push.ensures.trees c.root_of-2.result.0 c.len-number.result c.args.instance c.root_of-2.ensures (last_maker c.args.instance c.args.self.now.makers c.push.new.self.makers c.len-number.result c.in_ok-push.ensures.ok c.len-number.ensures.number)
