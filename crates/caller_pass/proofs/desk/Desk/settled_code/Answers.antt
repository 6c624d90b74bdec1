use Rattle.std.proofs.Common.{ℕ, ◌<◌, inl, Option, sym, ap, subst, ◌∙◌}
use Rattle.equation_law.specs.Codes.{instance_by}
use Rattle.memo_cells.specs.declared.keys.Slot.{Slot}
use Rattle.memo_cells.specs.declared.view.Frame.{Frame}
use Rattle.memo_cells.specs.Naming.{IsCellOf}
use Rattle.memo_cells.proofs.Ways.{if_none}
use Rattle.memo_cells.specs.Views.{IsPlain}
use Rattle.memo_cells.specs.Working.{HasCell, Held, IsCellAt, ReadsOn, program_at}
use Rattle.memo_cells.proofs.Agreeing.{agrees_before}
use Rattle.memo_cells.proofs.Holding.{own_then}
use Rattle.caller_pass.specs.Knowing.{FindsCode}
use Rattle.caller_pass.proofs.Knowing.{unknown_nowhere}
use Rattle.caller_pass.proofs.Seeking.{finds_code, finds_its, finds_none, found_cell, looked_on, why_unknown}
use Rattle.caller_pass.proofs.Keeping.{notes_later}
use Rattle.caller_pass.proofs.desk.Desk.settled_code.Goals as goal

pub invariant_of-self : goal.invariant_of-self
invariant_of-self c = ((c.settled.ensures.own, notes_later c.self.inside.system.now c.self.inside.pass.now c.settled.new.pass c.self.inside.notes c.settled.ensures.kept c.self.invariant.0.1), c.self.invariant.1)

pub invariant_of-self-2 : goal.invariant_of-self-2
invariant_of-self-2 c = ((c.settled.ensures.own, notes_later c.self.inside.system.now c.self.inside.pass.now c.settled.new.pass c.self.inside.notes c.settled.ensures.kept c.self.invariant.0.1), c.self.invariant.1)

pub returns-in_err-slot-clause-known : goal.returns-in_err-slot-clause-known
returns-in_err-slot-clause-known c = λ good known names named.
    let d = c.args.self.now in
    let e = c.seek_instance.new.work in
    let i = instance_by (program_at d) names c.args.i in
    subst (λ (o : Option (Slot × ℕ)). FindsCode (program_at d) e.frame e.view i o) (sym c.from_residual.ensures)
    (unknown_nowhere (program_at d) d.frame e.view i (own_then d e c.seek_instance.ensures.on.on) (λ s. c.in_err-slot.ensures.none good known s names named))

pub settled-requires-clause-slot : goal.settled-requires-clause-slot
settled-requires-clause-slot c = subst (λ (f : Frame). c.in_ok-slot.slot.0 < f.cells) (sym (ap (λ (h : Held). h.frame) c.self.view_is ∙ c.seek_instance.ensures.on.on.cells)) c.in_ok-slot.ensures.place

pub settled-requires-clause-plain : goal.settled-requires-clause-plain
settled-requires-clause-plain c = subst (λ (h : Held). IsPlain h.view c.in_ok-slot.slot.0) (sym c.self.view_is) c.in_ok-slot.ensures.plain

pub returns-in_err-code-clause-on : goal.returns-in_err-code-clause-on
returns-in_err-code-clause-on c =
    let d = c.args.self.now in
    let x = c.self.inside in
    let on = subst (λ (h : Held). ReadsOn d h) (sym c.self.view_is) c.seek_instance.ensures.on in
    looked_on d x.cells.now x.pass.now c.settled.new.pass x.pass.ghost_name on c.settled.ensures.own c.settled.ensures.kept c.settled.ensures.log c.settled.ensures.claims

pub returns-in_err-code-clause-known : goal.returns-in_err-code-clause-known
returns-in_err-code-clause-known c = λ good known names named.
    let d = c.args.self.now in
    let x = c.self.inside in
    let i = instance_by (program_at d) names c.args.i in
    let on = subst (λ (h : Held). ReadsOn d h) (sym c.self.view_is) c.seek_instance.ensures.on in
    let cell = subst (λ (h : Held). IsCellAt d h c.args.i c.in_ok-slot.slot.0) (sym c.self.view_is) (c.in_ok-slot.ensures.slot good known) names (agrees_before (program_at d) c.settled.ensures.kept.made named) in
    subst (λ (o : Option (Slot × ℕ)). FindsCode (program_at d) x.cells.now c.settled.new.pass i o) (sym c.from_residual-in_err-code.ensures)
    (finds_none d x.cells.now x.pass.now c.settled.new.pass x.pass.ghost_name on c.settled.ensures.own c.settled.ensures.kept c.settled.ensures.log c.settled.ensures.claims i c.in_ok-slot.slot.0 cell c.in_err-code.ensures.none)

pub returns-clause-on : goal.returns-clause-on
returns-clause-on c =
    let d = c.args.self.now in
    let x = c.self.inside in
    let on = subst (λ (h : Held). ReadsOn d h) (sym c.self.view_is) c.seek_instance.ensures.on in
    looked_on d x.cells.now x.pass.now c.settled.new.pass x.pass.ghost_name on c.settled.ensures.own c.settled.ensures.kept c.settled.ensures.log c.settled.ensures.claims

pub returns-clause-known : goal.returns-clause-known
returns-clause-known c = λ good known names named.
    let d = c.args.self.now in
    let x = c.self.inside in
    let i = instance_by (program_at d) names c.args.i in
    let on = subst (λ (h : Held). ReadsOn d h) (sym c.self.view_is) c.seek_instance.ensures.on in
    let cell = subst (λ (h : Held). IsCellAt d h c.args.i c.in_ok-slot.slot.0) (sym c.self.view_is) (c.in_ok-slot.ensures.slot good known) names (agrees_before (program_at d) c.settled.ensures.kept.made named) in
    finds_code d x.cells.now x.pass.now c.settled.new.pass x.pass.ghost_name on c.settled.ensures.own c.settled.ensures.kept c.settled.ensures.log c.settled.ensures.claims i c.in_ok-slot.slot.0 cell c.in_ok-code.code c.in_ok-code.ensures.known

pub returns-clause-cell : goal.returns-clause-cell
returns-clause-cell c =
    let d = c.args.self.now in
    let x = c.self.inside in
    let on = subst (λ (h : Held). ReadsOn d h) (sym c.self.view_is) c.seek_instance.ensures.on in
    let has = subst (λ (h : Held). HasCell h c.in_ok-slot.slot.0) (sym c.self.view_is) c.in_ok-slot.ensures.cell in
    found_cell d x.cells.now x.pass.now c.settled.new.pass x.pass.ghost_name on c.settled.ensures.own c.settled.ensures.kept c.settled.ensures.log c.settled.ensures.claims c.in_ok-slot.slot.0 has

pub returns-in_err-slot-clause-cause : goal.returns-in_err-slot-clause-cause
returns-in_err-slot-clause-cause c = if_none c.from_residual.result (λ good known. inl c.in_err-slot.ensures.cause)

pub returns-in_err-code-clause-cause : goal.returns-in_err-code-clause-cause
returns-in_err-code-clause-cause c = if_none c.from_residual-in_err-code.result (λ good known.
    let d = c.args.self.now in
    let x = c.self.inside in
    let on = subst (λ (h : Held). ReadsOn d h) (sym c.self.view_is) c.seek_instance.ensures.on in
    let cell = subst (λ (h : Held). IsCellAt d h c.args.i c.in_ok-slot.slot.0) (sym c.self.view_is) (c.in_ok-slot.ensures.slot good known) in
    why_unknown d x.cells.now x.pass.now c.settled.new.pass x.pass.ghost_name on c.settled.ensures.own c.settled.ensures.kept c.settled.ensures.log c.settled.ensures.claims c.args.i c.in_ok-slot.slot.0 cell c.in_err-code.ensures.cause)

-- its codes are those of the key that was found
pub returns-clause-its : goal.returns-clause-its
returns-clause-its c = λ good.
    let d = c.args.self.now in
    let x = c.self.inside in
    let on = subst (λ (h : Held). ReadsOn d h) (sym c.self.view_is) c.seek_instance.ensures.on in
    let cell = subst (λ (h : Held). IsCellAt d h c.args.i c.in_ok-slot.slot.0) (sym c.self.view_is) c.in_ok-slot.ensures.its.1 in
    finds_its d x.cells.now x.pass.now c.settled.new.pass x.pass.ghost_name on c.settled.ensures.own c.settled.ensures.kept c.settled.ensures.log c.settled.ensures.claims c.args.i c.in_ok-slot.slot.0 cell c.in_ok-code.code c.in_ok-code.ensures.known
