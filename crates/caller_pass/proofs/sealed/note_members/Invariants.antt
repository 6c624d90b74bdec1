-- Nothing changed but what is noted.
use Rattle.std.proofs.Common.{◌≡◌}
use Rattle.caller_pass.proofs.sealed.note_members.Given as goal

abbrev pub invariant-loop-number : goal.invariant-loop-number
invariant-loop-number l = l.desk ≡ l.initial.desk
