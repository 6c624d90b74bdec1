use Rattle.std.proofs.Common.{Bool, is_some, sym, subst, ◌∙◌}
use Rattle.memo_cells.specs.Working.{HasCell, Held, IsOwn, ReadsOn, program_at}
use Rattle.memo_cells.proofs.Holding.{reads_itself}
use Rattle.caller_pass.specs.Knowing.{TellsSettled}
use Rattle.caller_pass.proofs.Keeping.{notes_later}
use Rattle.caller_pass.proofs.Seeking.{cell_plain, looked_on, tells_settled, where_none, why_unsettled}
use Rattle.caller_pass.proofs.desk.Desk.is_settled.Goals as goal

pub invariant_of-self : goal.invariant_of-self
invariant_of-self c = ((c.settled.ensures.own, notes_later c.self.inside.system.now c.self.inside.pass.now c.settled.new.pass c.self.inside.notes c.settled.ensures.kept c.self.invariant.0.1), c.self.invariant.1)

pub settled-requires-clause-slot : goal.settled-requires-clause-slot
settled-requires-clause-slot c = (subst (λ (d : Held). HasCell d c.args.slot.0) (sym c.self.view_is) c.requires).1.1.0

pub settled-requires-clause-plain : goal.settled-requires-clause-plain
settled-requires-clause-plain c =
    let x = c.self.inside in
    let cell = subst (λ (d : Held). HasCell d c.args.slot.0) (sym c.self.view_is) c.requires in
    cell_plain x.cells.now x.pass.now cell.0 c.args.slot.0 c.self.invariant.0.0 cell.1

pub returns-clause-on : goal.returns-clause-on
returns-clause-on c =
    let d = c.args.self.now in
    let x = c.self.inside in
    let on = subst (λ (h : Held). ReadsOn d h) (sym c.self.view_is) (reads_itself d (subst (λ (h : Held). IsOwn h) c.self.view_is c.self.invariant.0.0)) in
    looked_on d x.cells.now x.pass.now c.settled.new.pass x.pass.ghost_name on c.settled.ensures.own c.settled.ensures.kept c.settled.ensures.log c.settled.ensures.claims

pub returns-clause-told : goal.returns-clause-told
returns-clause-told c =
    let x = c.self.inside in
    let told = tells_settled x.cells.now x.pass.now c.settled.new.pass c.args.slot.0 c.settled.result c.settled.ensures.own c.settled.ensures.kept c.settled.ensures.known c.settled.ensures.none in
    subst (λ (b : Bool). TellsSettled (program_at c.args.self.now) c.args.self.now.frame c.args.self.now.view c.settled.new.pass c.args.slot.0 b) (sym c.is_some.ensures)
    (subst (λ (d : Held). TellsSettled (program_at d) d.frame d.view c.settled.new.pass c.args.slot.0 (is_some c.settled.result)) c.self.view_is told)

pub returns-clause-cause : goal.returns-clause-cause
returns-clause-cause c = λ no.
    let d = c.args.self.now in
    let x = c.self.inside in
    let on = subst (λ (h : Held). ReadsOn d h) (sym c.self.view_is) (reads_itself d (subst (λ (h : Held). IsOwn h) c.self.view_is c.self.invariant.0.0)) in
    why_unsettled d x.cells.now x.pass.now c.settled.new.pass x.pass.ghost_name on c.settled.ensures.own c.settled.ensures.kept c.settled.ensures.log c.settled.ensures.claims c.args.slot.0 (where_none c.settled.result (sym c.is_some.ensures ∙ no) c.settled.ensures.cause)
