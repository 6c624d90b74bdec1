use Rattle.caller_pass.proofs.desk.Desk.new.Goals as goal

pub invariant_of-result : goal.invariant_of-result
invariant_of-result c = ((c.requires.own, c.new.ensures c.args.pass.now), c.requires.same)
