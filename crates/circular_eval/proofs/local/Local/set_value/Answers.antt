use Rattle.std.proofs.Common.{sym}
use Rattle.circular_eval.proofs.Finding.{set_with, with_none}
use Rattle.circular_eval.proofs.local.Local.set_value.Goals as goal

pub returns-in-Some-clause-members : goal.returns-in-Some-clause-members
returns-in-Some-clause-members c = set_with c.args.self.now.members.entries c.args.number c.in-Some.member.now c.args.value (sym c.in-Some.ensures.value)

pub returns-in_default-clause-members : goal.returns-in_default-clause-members
returns-in_default-clause-members c = with_none c.args.self.now.members.entries c.args.number c.args.value c.in_default.ensures.value
