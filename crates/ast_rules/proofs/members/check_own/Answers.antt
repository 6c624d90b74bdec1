use Rattle.std.proofs.Common.{arith, ap, ◌==◌}
use Rattle.ast_rules.proofs.Inheriting.{adds_item, member_item}
use Rattle.ast_rules.proofs.members.check_own.Goals as goal

pub loop-i-preserved : goal.loop-i-preserved
loop-i-preserved c =
    let i = c.loop-i.i in
    let items = c.args.components.now in
    let old = c.args.names.now in
    record {
      names = adds_item old items i c.loop-i.names _ c.in_ok-is_new.ensures.names c.loop-i.invariant.names (omega arith);
      noted = member_item old c.loop-i.names c.args.count items i _ c.in_ok-is_new.ensures.added c.loop-i.invariant.names (omega arith) c.loop-i.invariant.noted c.note_if.ensures (ap (λ x. x == 16) c.saturating_add-is_many.ensures) c.note_if-in-loop-i.ensures;
    }
