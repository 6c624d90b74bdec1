use Rattle.std.proofs.Common.{Option, Some, None, Ok, ap, refl, subst, ◌∙◌}
use Rattle.equation_law.specs.declared.coding.Value.{Value as CodedValue}
use Rattle.equation_law.specs.Codes.{instance_by}
use Rattle.equation_law.specs.Reading.{Settles}
use Rattle.memo_cells.specs.declared.view.Frame.{Frame}
use Rattle.memo_cells.specs.Working.{program_at}
use Rattle.memo_cells.proofs.Agreeing.{agrees_before}
use Rattle.memo_cells.proofs.Claiming.{claims_same}
use Rattle.memo_cells.proofs.Naming.{cell_later}
use Rattle.circular_eval.specs.declared.advancing.CircFault.TheVariants.{CellsFull, Memory}
use Rattle.circular_eval.proofs.Admitting.{admitted, cell_here, cell_lacks, coded_after, has_cell, instance_after, is_absent, keys_claimed, known_after, new_coded, refused, settled_fit, begins_fit, begins_here}
use Rattle.circular_eval.proofs.Going.{claims_more}
use Rattle.memo_cells.proofs.Holding.{goes_then}
use Rattle.circular_eval.proofs.Knowing.{instance_told}
use Rattle.circular_eval.proofs.Looking.{work_sound}
use Rattle.circular_eval.proofs.Raised.{err_is}
use Rattle.circular_eval.proofs.Settling.{reads}
use Rattle.circular_eval.proofs.visiting.admit.Goals as goal

pub returns-in_err-value : goal.returns-in_err-value
returns-in_err-value g c =
    let on1 = (reads g.W.Words.held c.args.work.now c.settled.new.self (g.W.Reader.tells c.args.work.now) (g.W.Reader.tells c.settled.new.self) (g.met.W.Work.tells_pass c.args.work.now) (g.met.W.Work.tells_pass c.settled.new.self) c.args.i c.settled.result c.settled.ensures c.requires.ready.own) in
    refused c.args.system.now (g.W.Words.held c.args.work.now) c.args.local.now c.requires.ready c.args.i c.args.by c.requires.new (g.W.Words.held c.settled.new.self) on1.on (λ names agrees. claims_same (program_at (g.W.Words.held c.args.work.now)) (instance_by (program_at (g.W.Words.held c.args.work.now)) names c.args.local.now.start) (g.W.Words.held c.args.work.now).view (g.W.Words.held c.settled.new.self).view on1.claims) c.args.local.now (record { start = refl; entries = refl; need = refl; saved = refl }) Memory tt c.from_residual.result (err_is c.from_residual.result Memory c.from_residual.ensures)

pub add-requires : goal.add-requires
add-requires g c =
    is_absent c.args.system.now (g.W.Words.held c.args.work.now) c.args.local.now c.requires.ready c.args.i c.args.by c.requires.new

pub returns-in_err-add : goal.returns-in_err-add
returns-in_err-add g c =
    let on1 = (reads g.W.Words.held c.args.work.now c.settled.new.self (g.W.Reader.tells c.args.work.now) (g.W.Reader.tells c.settled.new.self) (g.met.W.Work.tells_pass c.args.work.now) (g.met.W.Work.tells_pass c.settled.new.self) c.args.i c.settled.result c.settled.ensures c.requires.ready.own) in
    refused c.args.system.now (g.W.Words.held c.args.work.now) c.args.local.now c.requires.ready c.args.i c.args.by c.requires.new (g.W.Words.held c.settled.new.self) on1.on (λ names agrees. claims_same (program_at (g.W.Words.held c.args.work.now)) (instance_by (program_at (g.W.Words.held c.args.work.now)) names c.args.local.now.start) (g.W.Words.held c.args.work.now).view (g.W.Words.held c.settled.new.self).view on1.claims) c.add.new.self (record { start = c.add.ensures.start; entries = c.in_err-add.ensures.refused; need = c.add.ensures.need; saved = c.add.ensures.saved }) Memory tt c.from_residual-in_err-add.result (err_is c.from_residual-in_err-add.result Memory c.from_residual-in_err-add.ensures)

pub returns-in-Some : goal.returns-in-Some
returns-in-Some g c =
    let on1 = (reads g.W.Words.held c.args.work.now c.settled.new.self (g.W.Reader.tells c.args.work.now) (g.W.Reader.tells c.settled.new.self) (g.met.W.Work.tells_pass c.args.work.now) (g.met.W.Work.tells_pass c.settled.new.self) c.args.i c.settled.result c.settled.ensures c.requires.ready.own) in
    let told = c.in_ok-value.ensures.answer (program_at (g.W.Words.held c.args.work.now)) (work_sound g.W.Words.held c.args.work.now (g.W.Reader.tells c.args.work.now) (g.met.W.Work.tells_pass c.args.work.now) c.requires.ready.own) (new_coded c.args.system.now (g.W.Words.held c.args.work.now) c.args.local.now c.requires.ready c.args.i c.args.by c.requires.new) (instance_told (g.W.Reader.tells c.args.work.now) (g.W.Words.held c.args.work.now).view.made (g.met.W.Work.tells_pass c.args.work.now).knows (program_at (g.W.Words.held c.args.work.now)) c.args.i c.requires.new.1) in
    let seen = subst (λ (o : Option CodedValue). Settles (program_at (g.W.Words.held c.args.work.now)) (g.W.Reader.tells c.settled.new.self) (λ n. instance_by (program_at (g.W.Words.held c.args.work.now)) n c.args.i) (Ok o)) c.in-Some.is told in
    admitted c.args.system.now (g.W.Words.held c.args.work.now) c.args.local.now c.requires.ready c.args.i c.args.by c.requires.new (g.W.Words.held c.settled.new.self) on1.on (λ names agrees. claims_same (program_at (g.W.Words.held c.args.work.now)) (instance_by (program_at (g.W.Words.held c.args.work.now)) names c.args.local.now.start) (g.W.Words.held c.args.work.now).view (g.W.Words.held c.settled.new.self).view on1.claims) c.add.new.self (record { slot = None; value = c.in-Some.value; by = c.args.by }) refl (settled_fit c.args.system.now (g.W.Words.held c.args.work.now) c.args.local.now c.requires.ready c.args.i c.args.by c.requires.new g.W.Words.held c.settled.new.self (g.W.Reader.tells c.settled.new.self) (g.met.W.Work.tells_pass c.settled.new.self) on1.on c.in-Some.value seen (record { slot = None; value = c.in-Some.value; by = c.args.by }) refl refl) c.add.ensures.few c.add.ensures.start c.add.ensures.need c.add.ensures.saved c.in_ok-add.ensures.added c.in_ok-add.field-0

pub open_cell-requires-clause-own : goal.open_cell-requires-clause-own
open_cell-requires-clause-own g c =
    let on1 = (reads g.W.Words.held c.args.work.now c.settled.new.self (g.W.Reader.tells c.args.work.now) (g.W.Reader.tells c.settled.new.self) (g.met.W.Work.tells_pass c.args.work.now) (g.met.W.Work.tells_pass c.settled.new.self) c.args.i c.settled.result c.settled.ensures c.requires.ready.own) in
    on1.on.own

pub open_cell-requires-clause-instance : goal.open_cell-requires-clause-instance
open_cell-requires-clause-instance g c =
    let on1 = (reads g.W.Words.held c.args.work.now c.settled.new.self (g.W.Reader.tells c.args.work.now) (g.W.Reader.tells c.settled.new.self) (g.met.W.Work.tells_pass c.args.work.now) (g.met.W.Work.tells_pass c.settled.new.self) c.args.i c.settled.result c.settled.ensures c.requires.ready.own) in
    instance_after (g.W.Words.held c.args.work.now) (g.W.Words.held c.settled.new.self) on1.on c.args.i (λ names agrees. (c.requires.new.0 names agrees).instance)

pub open_cell-requires-clause-coded : goal.open_cell-requires-clause-coded
open_cell-requires-clause-coded g c =
    let on1 = (reads g.W.Words.held c.args.work.now c.settled.new.self (g.W.Reader.tells c.args.work.now) (g.W.Reader.tells c.settled.new.self) (g.met.W.Work.tells_pass c.args.work.now) (g.met.W.Work.tells_pass c.settled.new.self) c.args.i c.settled.result c.settled.ensures c.requires.ready.own) in
    coded_after (g.W.Words.held c.args.work.now) (g.W.Words.held c.settled.new.self) on1.on c.args.i (new_coded c.args.system.now (g.W.Words.held c.args.work.now) c.args.local.now c.requires.ready c.args.i c.args.by c.requires.new)

pub open_cell-requires-clause-known : goal.open_cell-requires-clause-known
open_cell-requires-clause-known g c =
    let on1 = (reads g.W.Words.held c.args.work.now c.settled.new.self (g.W.Reader.tells c.args.work.now) (g.W.Reader.tells c.settled.new.self) (g.met.W.Work.tells_pass c.args.work.now) (g.met.W.Work.tells_pass c.settled.new.self) c.args.i c.settled.result c.settled.ensures c.requires.ready.own) in
    known_after (g.W.Words.held c.args.work.now) (g.W.Words.held c.settled.new.self) on1.on c.args.i c.requires.new.1

pub returns-in_err-opened : goal.returns-in_err-opened
returns-in_err-opened g c =
    let on1 = (reads g.W.Words.held c.args.work.now c.settled.new.self (g.W.Reader.tells c.args.work.now) (g.W.Reader.tells c.settled.new.self) (g.met.W.Work.tells_pass c.args.work.now) (g.met.W.Work.tells_pass c.settled.new.self) c.args.i c.settled.result c.settled.ensures c.requires.ready.own) in
    let on2 = (goes_then (g.W.Words.held c.args.work.now) (g.W.Words.held c.settled.new.self) (g.W.Words.held c.open_cell.new.work) on1.on c.open_cell.ensures.on) in
    refused c.args.system.now (g.W.Words.held c.args.work.now) c.args.local.now c.requires.ready c.args.i c.args.by c.requires.new (g.W.Words.held c.open_cell.new.work) on2 (keys_claimed c.args.system.now (g.W.Words.held c.args.work.now) c.args.local.now c.requires.ready c.args.i c.args.by c.requires.new (g.W.Words.held c.settled.new.self) (g.W.Words.held c.open_cell.new.work) on1.on c.open_cell.ensures.on on1.claims c.open_cell.ensures.claims) c.args.local.now (record { start = refl; entries = refl; need = refl; saved = refl }) CellsFull (cell_lacks c.args.system.now (g.W.Words.held c.args.work.now) c.args.local.now c.requires.ready c.args.i c.args.by c.requires.new (g.W.Words.held c.settled.new.self) (g.W.Words.held c.open_cell.new.work) on1.on c.open_cell.ensures.on c.in_err-opened.ensures.full) c.from_residual-in_err-opened.result (err_is c.from_residual-in_err-opened.result CellsFull c.from_residual-in_err-opened.ensures)

pub first_value-requires-clause-own : goal.first_value-requires-clause-own
first_value-requires-clause-own g c =
    let on1 = (reads g.W.Words.held c.args.work.now c.settled.new.self (g.W.Reader.tells c.args.work.now) (g.W.Reader.tells c.settled.new.self) (g.met.W.Work.tells_pass c.args.work.now) (g.met.W.Work.tells_pass c.settled.new.self) c.args.i c.settled.result c.settled.ensures c.requires.ready.own) in
    let on2 = (goes_then (g.W.Words.held c.args.work.now) (g.W.Words.held c.settled.new.self) (g.W.Words.held c.open_cell.new.work) on1.on c.open_cell.ensures.on) in
    on2.own

pub first_value-requires-clause-same : goal.first_value-requires-clause-same
first_value-requires-clause-same g c =
    let on1 = (reads g.W.Words.held c.args.work.now c.settled.new.self (g.W.Reader.tells c.args.work.now) (g.W.Reader.tells c.settled.new.self) (g.met.W.Work.tells_pass c.args.work.now) (g.met.W.Work.tells_pass c.settled.new.self) c.args.i c.settled.result c.settled.ensures c.requires.ready.own) in
    let on2 = (goes_then (g.W.Words.held c.args.work.now) (g.W.Words.held c.settled.new.self) (g.W.Words.held c.open_cell.new.work) on1.on c.open_cell.ensures.on) in
    ap (λ (f : Frame). f.system.value) on2.cells ∙ c.requires.ready.same

pub first_value-requires-clause-cell : goal.first_value-requires-clause-cell
first_value-requires-clause-cell g c =
    let on1 = (reads g.W.Words.held c.args.work.now c.settled.new.self (g.W.Reader.tells c.args.work.now) (g.W.Reader.tells c.settled.new.self) (g.met.W.Work.tells_pass c.args.work.now) (g.met.W.Work.tells_pass c.settled.new.self) c.args.i c.settled.result c.settled.ensures c.requires.ready.own) in
    let on2 = (goes_then (g.W.Words.held c.args.work.now) (g.W.Words.held c.settled.new.self) (g.W.Words.held c.open_cell.new.work) on1.on c.open_cell.ensures.on) in
    (has_cell c.args.system.now (g.W.Words.held c.args.work.now) c.args.local.now c.requires.ready c.args.i c.args.by c.requires.new (g.W.Words.held c.open_cell.new.work) on2 c.in_ok-opened.opened.slot.0 (cell_here c.args.system.now (g.W.Words.held c.args.work.now) c.args.local.now c.requires.ready c.args.i c.args.by c.requires.new (g.W.Words.held c.settled.new.self) (g.W.Words.held c.open_cell.new.work) on1.on c.in_ok-opened.opened.slot.0 c.in_ok-opened.ensures.slot))

pub returns-in_err-value-2 : goal.returns-in_err-value-2
returns-in_err-value-2 g c =
    let on1 = (reads g.W.Words.held c.args.work.now c.settled.new.self (g.W.Reader.tells c.args.work.now) (g.W.Reader.tells c.settled.new.self) (g.met.W.Work.tells_pass c.args.work.now) (g.met.W.Work.tells_pass c.settled.new.self) c.args.i c.settled.result c.settled.ensures c.requires.ready.own) in
    let on2 = (goes_then (g.W.Words.held c.args.work.now) (g.W.Words.held c.settled.new.self) (g.W.Words.held c.open_cell.new.work) on1.on c.open_cell.ensures.on) in
    let on3 = (goes_then (g.W.Words.held c.args.work.now) (g.W.Words.held c.open_cell.new.work) (g.W.Words.held c.first_value.new.work) on2 c.first_value.ensures.on.on) in
    refused c.args.system.now (g.W.Words.held c.args.work.now) c.args.local.now c.requires.ready c.args.i c.args.by c.requires.new (g.W.Words.held c.first_value.new.work) on3 (λ names agrees. claims_more (program_at (g.W.Words.held c.args.work.now)) (instance_by (program_at (g.W.Words.held c.args.work.now)) names c.args.local.now.start) (g.W.Words.held c.args.work.now).view (g.W.Words.held c.open_cell.new.work).view (g.W.Words.held c.first_value.new.work).view (keys_claimed c.args.system.now (g.W.Words.held c.args.work.now) c.args.local.now c.requires.ready c.args.i c.args.by c.requires.new (g.W.Words.held c.settled.new.self) (g.W.Words.held c.open_cell.new.work) on1.on c.open_cell.ensures.on on1.claims c.open_cell.ensures.claims names (agrees_before (program_at (g.W.Words.held c.args.work.now)) c.first_value.ensures.on.on.kept.made agrees)) (claims_same (program_at (g.W.Words.held c.args.work.now)) (instance_by (program_at (g.W.Words.held c.args.work.now)) names c.args.local.now.start) (g.W.Words.held c.open_cell.new.work).view (g.W.Words.held c.first_value.new.work).view c.first_value.ensures.on.claims) c.first_value.ensures.on.on.kept) c.args.local.now (record { start = refl; entries = refl; need = refl; saved = refl }) Memory tt c.from_residual-in_err-value-2.result (err_is c.from_residual-in_err-value-2.result Memory c.from_residual-in_err-value-2.ensures)

pub add-requires-2 : goal.add-requires-2
add-requires-2 g c =
    is_absent c.args.system.now (g.W.Words.held c.args.work.now) c.args.local.now c.requires.ready c.args.i c.args.by c.requires.new

pub returns-in_err-add-2 : goal.returns-in_err-add-2
returns-in_err-add-2 g c =
    let on1 = (reads g.W.Words.held c.args.work.now c.settled.new.self (g.W.Reader.tells c.args.work.now) (g.W.Reader.tells c.settled.new.self) (g.met.W.Work.tells_pass c.args.work.now) (g.met.W.Work.tells_pass c.settled.new.self) c.args.i c.settled.result c.settled.ensures c.requires.ready.own) in
    let on2 = (goes_then (g.W.Words.held c.args.work.now) (g.W.Words.held c.settled.new.self) (g.W.Words.held c.open_cell.new.work) on1.on c.open_cell.ensures.on) in
    let on3 = (goes_then (g.W.Words.held c.args.work.now) (g.W.Words.held c.open_cell.new.work) (g.W.Words.held c.first_value.new.work) on2 c.first_value.ensures.on.on) in
    refused c.args.system.now (g.W.Words.held c.args.work.now) c.args.local.now c.requires.ready c.args.i c.args.by c.requires.new (g.W.Words.held c.first_value.new.work) on3 (λ names agrees. claims_more (program_at (g.W.Words.held c.args.work.now)) (instance_by (program_at (g.W.Words.held c.args.work.now)) names c.args.local.now.start) (g.W.Words.held c.args.work.now).view (g.W.Words.held c.open_cell.new.work).view (g.W.Words.held c.first_value.new.work).view (keys_claimed c.args.system.now (g.W.Words.held c.args.work.now) c.args.local.now c.requires.ready c.args.i c.args.by c.requires.new (g.W.Words.held c.settled.new.self) (g.W.Words.held c.open_cell.new.work) on1.on c.open_cell.ensures.on on1.claims c.open_cell.ensures.claims names (agrees_before (program_at (g.W.Words.held c.args.work.now)) c.first_value.ensures.on.on.kept.made agrees)) (claims_same (program_at (g.W.Words.held c.args.work.now)) (instance_by (program_at (g.W.Words.held c.args.work.now)) names c.args.local.now.start) (g.W.Words.held c.open_cell.new.work).view (g.W.Words.held c.first_value.new.work).view c.first_value.ensures.on.claims) c.first_value.ensures.on.on.kept) c.add-2.new.self (record { start = c.add-2.ensures.start; entries = c.in_err-add-2.ensures.refused; need = c.add-2.ensures.need; saved = c.add-2.ensures.saved }) Memory tt c.from_residual-in_err-add-2.result (err_is c.from_residual-in_err-add-2.result Memory c.from_residual-in_err-add-2.ensures)

pub returns : goal.returns
returns g c =
    let on1 = (reads g.W.Words.held c.args.work.now c.settled.new.self (g.W.Reader.tells c.args.work.now) (g.W.Reader.tells c.settled.new.self) (g.met.W.Work.tells_pass c.args.work.now) (g.met.W.Work.tells_pass c.settled.new.self) c.args.i c.settled.result c.settled.ensures c.requires.ready.own) in
    let on2 = (goes_then (g.W.Words.held c.args.work.now) (g.W.Words.held c.settled.new.self) (g.W.Words.held c.open_cell.new.work) on1.on c.open_cell.ensures.on) in
    let on3 = (goes_then (g.W.Words.held c.args.work.now) (g.W.Words.held c.open_cell.new.work) (g.W.Words.held c.first_value.new.work) on2 c.first_value.ensures.on.on) in
    let cell = (cell_here c.args.system.now (g.W.Words.held c.args.work.now) c.args.local.now c.requires.ready c.args.i c.args.by c.requires.new (g.W.Words.held c.settled.new.self) (g.W.Words.held c.open_cell.new.work) on1.on c.in_ok-opened.opened.slot.0 c.in_ok-opened.ensures.slot) in
    let shown = begins_here c.args.system.now (g.W.Words.held c.args.work.now) c.args.local.now c.requires.ready c.args.i c.args.by c.requires.new (g.W.Words.held c.open_cell.new.work) (g.W.Words.held c.first_value.new.work) on2 c.first_value.ensures.on.on c.in_ok-opened.opened.slot c.kind_of.result c.in_ok-value-2.value c.in_ok-value-2.ensures.begins c.kind_of.ensures cell in
    admitted c.args.system.now (g.W.Words.held c.args.work.now) c.args.local.now c.requires.ready c.args.i c.args.by c.requires.new (g.W.Words.held c.first_value.new.work) on3 (λ names agrees. claims_more (program_at (g.W.Words.held c.args.work.now)) (instance_by (program_at (g.W.Words.held c.args.work.now)) names c.args.local.now.start) (g.W.Words.held c.args.work.now).view (g.W.Words.held c.open_cell.new.work).view (g.W.Words.held c.first_value.new.work).view (keys_claimed c.args.system.now (g.W.Words.held c.args.work.now) c.args.local.now c.requires.ready c.args.i c.args.by c.requires.new (g.W.Words.held c.settled.new.self) (g.W.Words.held c.open_cell.new.work) on1.on c.open_cell.ensures.on on1.claims c.open_cell.ensures.claims names (agrees_before (program_at (g.W.Words.held c.args.work.now)) c.first_value.ensures.on.on.kept.made agrees)) (claims_same (program_at (g.W.Words.held c.args.work.now)) (instance_by (program_at (g.W.Words.held c.args.work.now)) names c.args.local.now.start) (g.W.Words.held c.open_cell.new.work).view (g.W.Words.held c.first_value.new.work).view c.first_value.ensures.on.claims) c.first_value.ensures.on.on.kept) c.add-2.new.self (record { slot = Some c.in_ok-opened.opened.slot; value = c.in_ok-value-2.value; by = c.args.by }) refl (begins_fit c.args.system.now (g.W.Words.held c.args.work.now) c.args.local.now c.requires.ready c.args.i c.args.by c.requires.new (g.W.Words.held c.first_value.new.work) on3 c.in_ok-opened.opened.slot (λ names agrees. cell_later (g.W.Words.held c.open_cell.new.work).view (g.W.Words.held c.first_value.new.work).view c.first_value.ensures.on.on.kept (program_at (g.W.Words.held c.args.work.now)) (g.W.Words.held c.args.work.now).frame (instance_by (program_at (g.W.Words.held c.args.work.now)) names c.args.i) c.in_ok-opened.opened.slot.0 (cell names (agrees_before (program_at (g.W.Words.held c.args.work.now)) c.first_value.ensures.on.on.kept.made agrees))) c.in_ok-value-2.value shown (record { slot = Some c.in_ok-opened.opened.slot; value = c.in_ok-value-2.value; by = c.args.by }) refl refl) c.add-2.ensures.few c.add-2.ensures.start c.add-2.ensures.need c.add-2.ensures.saved c.in_ok-add-2.ensures.added c.in_ok-add-2.field-0
