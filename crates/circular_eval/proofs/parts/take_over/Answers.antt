use Rattle.std.proofs.Common.{arith}
use Rattle.circular_eval.proofs.Parting.{takes_none, takes_then}
use Rattle.circular_eval.proofs.Sealing.{taken_all, taken_more, taken_none}
use Rattle.circular_eval.proofs.parts.take_over.Goals as goal

pub loop-number-init : goal.loop-number-init
loop-number-init c = record { takes = takes_none c.args.part.now c.args.local.now; taken = taken_none c.args.part.now c.args.local.now }

pub returns-in_err-take_member-clause-takes : goal.returns-in_err-take_member-clause-takes
returns-in_err-take_member-clause-takes c = takes_then c.args.part.now c.args.local.now c.loop-number.local c.take_member.new.local c.loop-number.invariant.takes c.take_member.ensures.takes

pub loop-number-preserved : goal.loop-number-preserved
loop-number-preserved c = record {
  takes = takes_then c.args.part.now c.args.local.now c.loop-number.local c.take_member.new.local c.loop-number.invariant.takes c.take_member.ensures.takes;
  taken = taken_more c.args.part.now c.args.local.now c.loop-number.local c.take_member.new.local c.loop-number.number c.loop-number.invariant.takes c.take_member.ensures.takes c.loop-number.invariant.taken c.in_ok-take_member.ensures.sealed;
}

pub returns-clause-takes : goal.returns-clause-takes
returns-clause-takes c = c.loop-number.invariant.takes

pub returns-clause-sealed : goal.returns-clause-sealed
returns-clause-sealed c = taken_all c.args.part.now c.args.local.now c.loop-number.local c.loop-number.number (omega (arith, c.loop-number.auto.number-end, c.loop-number-test.false, c.len-number-end.ensures.len)) c.loop-number.invariant.taken
