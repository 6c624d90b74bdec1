use Rattle.std.proofs.Common.{inl, inr, slice_index_or, arith}
use Rattle.circular_eval.proofs.Going.{ready_then, with_itself, with_then}
use Rattle.worklists.proofs.Numbers.{number_within}
use Rattle.circular_eval.proofs.Parting.{parts_stop}
use Rattle.circular_eval.proofs.Raised.{err_is}
use Rattle.circular_eval.proofs.Sealing.{is_sealed, same_itself, same_then, sealed_more, waits_before, was_waiting}
use Rattle.circular_eval.proofs.parts.seal_closed.Goals as goal

pub returns-then-not-branch-clause-parts : goal.returns-then-not-branch-clause-parts
returns-then-not-branch-clause-parts g c = record {
  goes = with_then (g.W.Words.held c.args.work.now) (g.W.Words.held c.loop-number.work) (g.W.Words.held c.seal_part.new.work) c.args.local.now c.loop-number.local c.seal_part.new.local c.loop-number.invariant.goes c.seal_part.ensures.part.goes;
  members = same_then c.args.local.now.members.entries c.loop-number.local.members.entries c.seal_part.new.local.members.entries c.loop-number.invariant.members c.seal_part.ensures.part.members;
  fault = tt;
}

pub returns-then-not-branch-clause-sealed : goal.returns-then-not-branch-clause-sealed
returns-then-not-branch-clause-sealed g c =
    let n = slice_index_or c.args.closed.now c.loop-number.number-index 0 in
    inr (
      n,
      (c.loop-number.number-index, c.loop-number-test.true, number_within c.args.closed.now c.loop-number.number-index n 0 c.loop-number-test.true),
      waits_before (g.W.Words.held c.args.work.now) (g.W.Words.held c.loop-number.work) (g.W.Words.held c.seal_part.new.work) c.args.local.now.members.entries c.loop-number.local.members.entries c.seal_part.new.local.members.entries c.seal_part.new.local.members.entries n c.loop-number.invariant.members c.loop-number.invariant.goes.on (was_waiting c.in_ok-seal_part.field-0 (g.W.Words.held c.loop-number.work) (g.W.Words.held c.seal_part.new.work) c.loop-number.local.members.entries c.seal_part.new.local.members.entries n c.in_ok-seal_part.ensures.answer c.if-not-branch.true),
    )

pub loop-number-preserved : goal.loop-number-preserved
loop-number-preserved g c =
    let n = slice_index_or c.args.closed.now c.loop-number.number-index 0 in
    record {
      goes = with_then (g.W.Words.held c.args.work.now) (g.W.Words.held c.loop-number.work) (g.W.Words.held c.seal_part.new.work) c.args.local.now c.loop-number.local c.seal_part.new.local c.loop-number.invariant.goes c.seal_part.ensures.part.goes;
      members = same_then c.args.local.now.members.entries c.loop-number.local.members.entries c.seal_part.new.local.members.entries c.loop-number.invariant.members c.seal_part.ensures.part.members;
      sealed = sealed_more c.loop-number.local.members.entries c.seal_part.new.local.members.entries c.args.closed.now c.loop-number.number-index c.loop-number-test.true c.seal_part.ensures.part.members (is_sealed c.in_ok-seal_part.field-0 (g.W.Words.held c.loop-number.work) (g.W.Words.held c.seal_part.new.work) c.loop-number.local.members.entries c.seal_part.new.local.members.entries n c.in_ok-seal_part.ensures.answer c.if-not-branch.false) c.loop-number.invariant.sealed;
    }

pub returns-in_err-seal_part-clause-parts : goal.returns-in_err-seal_part-clause-parts
returns-in_err-seal_part-clause-parts g c =
    parts_stop (g.W.Words.held c.args.work.now) (g.W.Words.held c.loop-number.work) (g.W.Words.held c.seal_part.new.work) c.args.local.now c.loop-number.local c.seal_part.new.local c.loop-number.invariant.goes c.loop-number.invariant.members c.in_err-seal_part.field-0.0 c.in_err-seal_part.ensures.part c.from_residual.result (err_is c.from_residual.result c.in_err-seal_part.field-0.0 c.from_residual.ensures)

pub returns-clause-parts : goal.returns-clause-parts
returns-clause-parts g c = record { goes = c.loop-number.invariant.goes; members = c.loop-number.invariant.members; fault = tt }

pub returns-clause-sealed : goal.returns-clause-sealed
returns-clause-sealed g c = inl (λ k h. c.loop-number.invariant.sealed h.0 k (omega (arith, h.1, c.loop-number.auto.number-index-end, c.loop-number-test.false)) h.2)

pub loop-number-init : goal.loop-number-init
loop-number-init g c = record {
  goes = with_itself c.args.system.now (g.W.Words.held c.args.work.now) c.args.local.now c.requires.ready;
  members = same_itself c.args.local.now.members.entries;
  sealed = λ i k low. absurd (omega (arith, low));
}

pub seal_part-requires : goal.seal_part-requires
seal_part-requires g c =
    record { ready = ready_then c.args.system.now (g.W.Words.held c.args.work.now) (g.W.Words.held c.loop-number.work) c.args.local.now c.loop-number.local c.requires.ready c.loop-number.invariant.goes }
