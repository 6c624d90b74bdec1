use Rattle.worklists.proofs.Numbers.{ordered_in, ordered_within}
use Rattle.worklists.proofs.due.insert.Goals as goal

pub returns-clause-has : goal.returns-clause-has
returns-clause-has c = ordered_in c.args.numbers.now c.insert.new.self c.args.number c.in-Ok.ensures.updates

pub returns-clause-kept : goal.returns-clause-kept
returns-clause-kept c = ordered_within c.args.numbers.now c.insert.new.self c.args.number c.in-Ok.ensures.updates
