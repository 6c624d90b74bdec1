use Rattle.std.proofs.Common.{sym}
use Rattle.made_trees.proofs.Arguments.{argument_told, no_argument}
use Rattle.made_trees.proofs.keeping.argument_of.Goals as goal

pub returns-in-Some-clause-argument : goal.returns-in-Some-clause-argument
returns-in-Some-clause-argument g c =
    let made = c.in-Some-Attr-default in
    argument_told (g.K.KeepsMakers.trees c.args.keeper.now) c.args.node.0 made.field-0-1 made.field-0-0 made.field-0-0-0 made.field-0-0-1 made.args made.field-0-0-is made.ensures.maker c.args.k c.in-Some.code (sym c.in-Some.ensures)

pub returns-in-None-clause-argument : goal.returns-in-None-clause-argument
returns-in-None-clause-argument g c =
    let made = c.in-Some-Attr-default in
    no_argument (g.K.KeepsMakers.trees c.args.keeper.now) c.args.node.0 made.field-0-1 made.field-0-0 made.field-0-0-0 made.field-0-0-1 made.args made.field-0-0-is made.ensures.maker c.args.k 0 (sym c.in-None.ensures)
