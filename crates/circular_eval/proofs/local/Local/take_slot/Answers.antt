use Rattle.std.proofs.Common.{sym}
use Rattle.circular_eval.proofs.Finding.{shut_none, shut_with}
use Rattle.circular_eval.proofs.local.Local.take_slot.Goals as goal

pub returns-in-Some-clause-members : goal.returns-in-Some-clause-members
returns-in-Some-clause-members c = shut_with c.args.self.now.members.entries c.args.number c.in-Some.member.now (sym c.in-Some.ensures.value)

pub returns-in_default-clause-members : goal.returns-in_default-clause-members
returns-in_default-clause-members c = shut_none c.args.self.now.members.entries c.args.number c.in_default.ensures.value
