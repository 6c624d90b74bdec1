use Rattle.std.proofs.Common.{[], sym, subst, ◌∙◌}
use Rattle.memo_cells.specs.Working.{Held, IsOwn, program_at}
use Rattle.memo_cells.proofs.Agreeing.{own_open}
use Rattle.caller_pass.specs.Noting.{IsNoted}
use Rattle.caller_pass.proofs.Members.{member_noted}
use Rattle.caller_pass.proofs.sealed.note_members.Goals as goal

pub note_set-requires : goal.note_set-requires
note_set-requires c =
    let d = c.args.desk.now in
    let own : IsOwn d = subst (λ (h : Held). IsOwn h) (c.desk.view_is ∙ c.loop-number.invariant) c.desk.invariant.0.0 in
    subst (λ (h : Held). IsNoted (program_at h) h.view.made c.in-Some.i c.in-Some.value.now) (sym c.loop-number.invariant)
    (member_noted (program_at d) own.bare d.frame d.view c.args.local.now (own_open d.frame d.view [] own) c.requires.program c.requires.local c.requires.sealed c.loop-number.number c.in-Some.i c.in-Some.value.now c.in-Some.ensures.some)
