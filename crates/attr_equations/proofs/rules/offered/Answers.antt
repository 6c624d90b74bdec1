use Rattle.std.proofs.Common.{◌≡◌, ◌%◌, arith}
use Rattle.attr_equations.proofs.Numbering.{offered_here}
use Rattle.attr_equations.proofs.rules.offered.Goals as goal

pub returns-in-0 : goal.returns-in-0
returns-in-0 c = offered_here c.args.contributions.now c.args.place 0 c.index-contributions-place.result c.index-contributions-place.is c.requires c.in-0.is (omega arith)

pub returns-in-1 : goal.returns-in-1
returns-in-1 c = offered_here c.args.contributions.now c.args.place 1 c.index-contributions-place.result c.index-contributions-place.is c.requires c.in-1.is (omega arith)

pub returns-in_default : goal.returns-in_default
returns-in_default c =
    let last : c.args.place % 3 ≡ 2 = omega (arith, c.in_default) in
    offered_here c.args.contributions.now c.args.place 2 c.index-contributions-place.result c.index-contributions-place.is c.requires last (omega arith)
