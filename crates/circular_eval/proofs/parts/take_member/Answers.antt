use Rattle.circular_eval.proofs.Parting.{takes_none, takes_settled}
use Rattle.circular_eval.proofs.Sealing.{member_absent, member_past, member_settled_ok}
use Rattle.circular_eval.proofs.parts.take_member.Goals as goal

pub returns-in_default-clause-takes : goal.returns-in_default-clause-takes
returns-in_default-clause-takes c = takes_none c.args.part.now c.args.local.now

pub returns-in_default-clause-sealed : goal.returns-in_default-clause-sealed
returns-in_default-clause-sealed c = member_past c.args.part.now c.args.local.now c.args.number c.in_default.ensures.none

pub returns-in_default-find-clause-takes : goal.returns-in_default-find-clause-takes
returns-in_default-find-clause-takes c = takes_none c.args.part.now c.args.local.now

pub returns-in_default-find-clause-sealed : goal.returns-in_default-find-clause-sealed
returns-in_default-find-clause-sealed c = member_absent c.args.part.now c.args.local.now c.args.number c.in-Some.i c.in-Some.value.now c.in-Some.ensures.some c.in_default-find.ensures.absent

pub returns-clause-takes : goal.returns-clause-takes
returns-clause-takes c =
    takes_settled c.args.part.now c.args.local.now c.settle.new.local c.args.number c.in-Some-find.there c.in-Some.i c.in-Some.value.now c.in-Some-find.field-0-1.now c.in-Some.ensures.some c.in-Some-find.ensures.at c.settle.ensures.settles

pub returns-clause-sealed : goal.returns-clause-sealed
returns-clause-sealed c =
    member_settled_ok c.settle.result c.args.part.now c.args.local.now c.settle.new.local c.args.number c.in-Some-find.there c.in-Some.i c.in-Some.value.now c.in-Some-find.field-0-1.now c.in-Some.ensures.some c.in-Some-find.ensures.at c.settle.ensures.settles.members c.settle.ensures.sealed
