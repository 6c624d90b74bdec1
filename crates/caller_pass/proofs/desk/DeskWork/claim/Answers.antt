use Rattle.caller_pass.proofs.Keeping.{notes_later}
use Rattle.caller_pass.proofs.desk.DeskWork.claim.Goals as goal

pub invariant_of-self : goal.invariant_of-self
invariant_of-self c = ((c.claim.ensures.own, notes_later c.self.inside.system.now c.self.inside.pass.now c.claim.new.pass c.self.inside.notes c.claim.ensures.kept c.self.invariant.0.1), c.self.invariant.1)
