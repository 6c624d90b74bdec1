use Rattle.std.proofs.Common.{arith}
use Rattle.code_sets.proofs.Merging.{first_of_both, first_of_ours, first_of_theirs, empty}
use Rattle.code_sets.proofs.merges.first_number.Goals as goal

pub returns-in-Some-Some-clause-some : goal.returns-in-Some-Some-clause-some
returns-in-Some-Some-clause-some c =
    first_of_both c.args.ours.now c.args.theirs.now c.requires.ours c.requires.theirs c.in-Some-Some.our.now c.in-Some-Some.their.now _ _ c.min.result
    c.in-Some-Some.ensures.cases.0 c.in-Some-Some.ensures'.cases.0 (grind (arith, c.min.ensures)) (grind (arith, c.min.ensures)) (grind (arith, c.min.ensures))

pub returns-in-Some-None-clause-some : goal.returns-in-Some-None-clause-some
returns-in-Some-None-clause-some c =
    first_of_ours c.args.ours.now c.args.theirs.now c.requires.ours c.requires.theirs c.in-Some-None.our.now _ c.in-Some-None.ensures.cases.0 (empty _ c.in-Some-None.ensures'.cases)

pub returns-in-None-Some-clause-some : goal.returns-in-None-Some-clause-some
returns-in-None-Some-clause-some c =
    first_of_theirs c.args.ours.now c.args.theirs.now c.requires.ours c.requires.theirs c.in-None-Some.their.now _ (empty _ c.in-None-Some.ensures.cases) c.in-None-Some.ensures'.cases.0
