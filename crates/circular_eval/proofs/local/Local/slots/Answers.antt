use Rattle.std.proofs.Common.{List, ◌+◌, sym, subst, arith}
use Rattle.memo_cells.specs.declared.keys.Slot.{Slot}
use Rattle.circular_eval.proofs.Slots.{AreFirstSlots, first_all, first_next}
use Rattle.circular_eval.proofs.local.Local.slots.Goals as goal

pub loop-number-preserved : goal.loop-number-preserved
loop-number-preserved c =
    subst (λ (l : List Slot). AreFirstSlots c.args.self.now.members.entries (c.loop-number.number + 1) l) (sym c.in_ok-push_slot.ensures)
    (first_next c.args.self.now.members.entries c.loop-number.number c.loop-number.slots.items c.slot_at.result c.slot_at.ensures c.loop-number.invariant)

pub returns : goal.returns
returns c = first_all c.args.self.now.members.entries c.loop-number.number c.loop-number.slots.items (omega (arith, c.loop-number.auto.number-end, c.loop-number-test.false, c.len-number-end.ensures.len)) c.loop-number.invariant
