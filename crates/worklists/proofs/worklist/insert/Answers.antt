use Rattle.worklists.proofs.Numbers.{put_in, put_within}
use Rattle.worklists.proofs.worklist.insert.Goals as goal

pub returns-clause-has : goal.returns-clause-has
returns-clause-has c = put_in c.args.numbers.now c.insert.new.self c.args.number c.in-Ok.ensures.updates

pub returns-clause-kept : goal.returns-clause-kept
returns-clause-kept c = put_within c.args.numbers.now c.insert.new.self c.args.number c.in-Ok.ensures.updates
