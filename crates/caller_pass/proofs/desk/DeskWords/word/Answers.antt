use Rattle.caller_pass.proofs.Keeping.{notes_later}
use Rattle.caller_pass.proofs.desk.DeskWords.word.Goals as goal

pub invariant_of-self : goal.invariant_of-self
invariant_of-self c = ((c.word.ensures.own, notes_later c.self.inside.system.now c.self.inside.pass.now c.word.new.pass c.self.inside.notes c.word.ensures.kept c.self.invariant.0.1), c.self.invariant.1)
