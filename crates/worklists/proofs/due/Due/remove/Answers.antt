use Rattle.std.proofs.Common.{inl, inr, ⊎_elim}
use Rattle.worklists.proofs.Numbers.{ordered_gone, ordered_kept}
use Rattle.worklists.proofs.due.Due.remove.Goals as goal

pub returns-clause-others : goal.returns-clause-others
returns-clause-others c k other h = ⊎_elim (λ a. inl (ordered_kept c.args.self.now.sweep c.remove.new.self c.args.number k c.remove.ensures.updates other a)) inr h

pub returns-clause-gone : goal.returns-clause-gone
returns-clause-gone c h = ordered_gone c.args.self.now.sweep c.remove.new.self c.args.number c.remove.ensures.updates h
