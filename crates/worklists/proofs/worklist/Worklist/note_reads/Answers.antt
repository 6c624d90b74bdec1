use Rattle.std.proofs.Common.{◌+◌, refl, sym, ap, subst, arith}
use Rattle.worklists.specs.declared.worklist.Worklist.{Worklist}
use Rattle.worklists.proofs.Marks.{read_at}
use Rattle.worklists.proofs.Noting.{AreNoted, noted_all, noted_more, noted_none, noted_past, readers_kept}
use Rattle.worklists.proofs.worklist.Worklist.note_reads.Goals as goal
use Rattle.worklists.proofs.worklist.Worklist.note_reads.Goals.{in-Some+in_ok-insert, in_default}

pub loop-number-init : goal.loop-number-init
loop-number-init c = noted_none c.note_evaluated.new.self c.args.reader c.args.read.now c.note_evaluated.ensures.evaluated

pub returns-in_err-insert-clause-kept : goal.returns-in_err-insert-clause-kept
returns-in_err-insert-clause-kept c k other r =
    readers_kept c.loop-number.self _ _ _ c.in-Some.noted.now (read_at c.loop-number.self.noted.items c.loop-number.self.noted.items _ c.in-Some.noted.now refl c.in-Some.ensures.item.0 c.in-Some.ensures.item.1) refl c.insert.ensures.kept k other (c.loop-number.invariant.kept k other (c.note_evaluated.ensures.readers k other (record { of = r.of; noted = r.noted; has = r.has })))

pub loop-number-preserved : goal.loop-number-preserved
loop-number-preserved c =
    elim c.match-get_mut.branch [
      | in-Some+in_ok-insert w ↦
          noted_more c.note_evaluated.new.self c.loop-number.self c.match-get_mut.self c.args.reader c.args.read.now c.loop-number.number-index _ w.in-Some.noted.now c.loop-number-test.true c.loop-number.invariant
          (read_at c.loop-number.self.noted.items c.loop-number.self.noted.items _ w.in-Some.noted.now refl w.in-Some.ensures.item.0 w.in-Some.ensures.item.1)
          (ap (λ (u : Worklist). u.due) w.self-is) (ap (λ (u : Worklist). u.noted.items) w.self-is) refl w.insert.ensures.kept w.in_ok-insert.ensures.has
      | in_default w ↦
          subst (λ (u : Worklist). AreNoted c.note_evaluated.new.self c.args.reader c.args.read.now (c.loop-number.number-index + 1) u) (sym w.self-is)
          (noted_past c.note_evaluated.new.self c.loop-number.self c.args.reader c.args.read.now c.loop-number.number-index c.loop-number-test.true c.loop-number.invariant w.in_default.ensures.item.3)
    ]

pub returns-clause-noted : goal.returns-clause-noted
returns-clause-noted c k h low =
    noted_all c.note_evaluated.new.self c.loop-number.self c.args.reader c.args.read.now c.loop-number.number-index (omega (arith, c.loop-number.auto.number-index-end, c.loop-number-test.false)) c.loop-number.invariant k h (omega (arith, low, c.note_evaluated.ensures.len))

pub returns-clause-kept : goal.returns-clause-kept
returns-clause-kept c k other r = c.loop-number.invariant.kept k other (c.note_evaluated.ensures.readers k other (record { of = r.of; noted = r.noted; has = r.has }))
