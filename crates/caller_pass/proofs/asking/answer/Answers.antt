use Rattle.std.proofs.Common.{Option, Ok, Err, refl, sym, ap, subst, ◌∙◌}
use Rattle.equation_law.specs.declared.coding.Value.{Value}
use Rattle.equation_law.specs.Checked.{IsInstance, IsProgram}
use Rattle.equation_law.specs.Codes.{IsCoded, instance_by}
use Rattle.equation_law.specs.Program.{Program}
use Rattle.equation_law.specs.Systems.{program_of}
use Rattle.memo_cells.specs.declared.view.Frame.{Frame}
use Rattle.memo_cells.specs.Agreeing.{ByEachAgreeing, IsKnownInstance}
use Rattle.memo_cells.specs.Working.{program_at}
use Rattle.memo_cells.proofs.Agreeing.{agrees_before, instance_known_later}
use Rattle.memo_cells.proofs.Naming.{knows_later}
use Rattle.caller_pass.specs.declared.faults.AskFault.TheVariants.{Memory}
use Rattle.caller_pass.specs.Answering.{Solves}
use Rattle.caller_pass.specs.Knowing.{FindsValue}
use Rattle.caller_pass.proofs.Asked.{asked_fault, asked_known, asked_memory, asked_unread, asked_value, solves_before}
use Rattle.memo_cells.proofs.Holding.{goes_then, own_then}
use Rattle.caller_pass.proofs.asking.answer.Goals as goal

pub returns-in_err-value-clause-on : goal.returns-in_err-value-clause-on
returns-in_err-value-clause-on g c = c.in_err-value.ensures.on.on

pub returns-in_err-value-clause-asked : goal.returns-in_err-value-clause-asked
returns-in_err-value-clause-asked g c = λ names named. asked_unread (program_at c.args.desk.now) names c.args.desk.now.frame c.args.desk.now.view c.known_value.new.self.view (instance_by (program_at c.args.desk.now) names c.args.i) c.args.evals.now c.from_residual.result c.from_residual.ensures (c.in_err-value.ensures.known c.requires.coded c.requires.known names named) c.in_err-value.ensures.on.claims

pub returns-in-Some-clause-on : goal.returns-in-Some-clause-on
returns-in-Some-clause-on g c = c.in_ok-value.ensures.on.on

pub returns-in-Some-clause-asked : goal.returns-in-Some-clause-asked
returns-in-Some-clause-asked g c = λ names named. asked_known (program_at c.args.desk.now) (own_then c.args.desk.now c.known_value.new.self c.in_ok-value.ensures.on.on).bare names c.args.desk.now.frame c.args.desk.now.view c.known_value.new.self.view (instance_by (program_at c.args.desk.now) names c.args.i) c.in-Some.value c.args.evals.now c.requires.program (c.requires.instance names (agrees_before (program_at c.args.desk.now) c.in_ok-value.ensures.on.on.kept.made named)) (subst (λ (o : Option Value). FindsValue (program_at c.args.desk.now) names c.known_value.new.self.view (instance_by (program_at c.args.desk.now) names c.args.i) (Ok o)) c.in-Some.is (c.in_ok-value.ensures.known c.requires.coded c.requires.known names named)) c.in_ok-value.ensures.on.claims

pub settle-requires-clause-program : goal.settle-requires-clause-program
settle-requires-clause-program g c = subst (λ (f : Frame). IsProgram (program_of f.system.value)) (sym c.in_ok-value.ensures.on.on.cells) c.requires.program

pub settle-requires-clause-own : goal.settle-requires-clause-own
settle-requires-clause-own g c = c.in_ok-value.ensures.on.on.own

pub settle-requires-clause-instance : goal.settle-requires-clause-instance
settle-requires-clause-instance g c = subst (λ (f : Frame). ByEachAgreeing (program_of f.system.value) c.known_value.new.self.view.made (λ names. IsInstance (program_of f.system.value) (instance_by (program_of f.system.value) names c.args.i))) (sym c.in_ok-value.ensures.on.on.cells) (λ names named. c.requires.instance names (agrees_before (program_at c.args.desk.now) c.in_ok-value.ensures.on.on.kept.made named))

pub settle-requires-clause-known : goal.settle-requires-clause-known
settle-requires-clause-known g c = subst (λ (f : Frame). IsKnownInstance (program_of f.system.value) c.known_value.new.self.view.made c.args.i) (sym c.in_ok-value.ensures.on.on.cells) (instance_known_later (program_at c.args.desk.now) c.in_ok-value.ensures.on.on.kept.made c.args.i c.requires.known)

pub settle-requires-clause-coded : goal.settle-requires-clause-coded
settle-requires-clause-coded g c = subst (λ (f : Frame). IsCoded (program_of f.system.value) c.args.i) (sym c.in_ok-value.ensures.on.on.cells) c.requires.coded

pub returns-in_err-settle-clause-on : goal.returns-in_err-settle-clause-on
returns-in_err-settle-clause-on g c = goes_then c.args.desk.now c.known_value.new.self c.settle.new.desk c.in_ok-value.ensures.on.on c.in_err-settle.ensures.on

pub returns-in_err-settle-clause-asked : goal.returns-in_err-settle-clause-asked
returns-in_err-settle-clause-asked g c = λ names named.
    let first = agrees_before (program_at c.args.desk.now) c.in_err-settle.ensures.on.kept.made named in
    asked_fault (program_at c.args.desk.now) names c.args.desk.now.frame c.args.desk.now.view c.known_value.new.self.view c.settle.new.desk.view (instance_by (program_at c.args.desk.now) names c.args.i) c.args.evals.now c.settle.new.evals (λ k. (subst (λ (o : Option Value). FindsValue (program_at c.args.desk.now) names c.known_value.new.self.view (instance_by (program_at c.args.desk.now) names c.args.i) (Ok o)) c.in_default.is (c.in_ok-value.ensures.known c.requires.coded c.requires.known names first)) (knows_later c.args.desk.now.view c.known_value.new.self.view c.in_ok-value.ensures.on.on.kept (program_at c.args.desk.now) (instance_by (program_at c.args.desk.now) names c.args.i) k)) c.in_err-settle.field-0.0 (Err c.in_err-settle.field-0.0) refl c.from_residual-in_err-settle.result c.from_residual-in_err-settle.ensures (solves_before (program_at c.args.desk.now) names c.args.desk.now.frame c.args.desk.now.view c.known_value.new.self.view c.settle.new.desk.view (instance_by (program_at c.args.desk.now) names c.args.i) c.args.evals.now c.settle.new.evals (Err c.in_err-settle.field-0.0) c.in_ok-value.ensures.on.on.kept c.in_ok-value.ensures.on.on.log c.in_ok-value.ensures.on.claims c.in_err-settle.ensures.on.kept (subst (λ (f : Frame). ByEachAgreeing (program_of f.system.value) c.settle.new.desk.view.made (λ m. Solves (program_of f.system.value) m f c.known_value.new.self.view c.settle.new.desk.view (instance_by (program_of f.system.value) m c.args.i) c.args.evals.now c.settle.new.evals (Err c.in_err-settle.field-0.0))) c.in_ok-value.ensures.on.on.cells c.in_err-settle.ensures.solved names named))

pub returns-in_err-value-2-clause-on : goal.returns-in_err-value-2-clause-on
returns-in_err-value-2-clause-on g c = goes_then c.args.desk.now c.settle.new.desk c.known_value-2.new.self (goes_then c.args.desk.now c.known_value.new.self c.settle.new.desk c.in_ok-value.ensures.on.on c.in_ok-settle.ensures.on) c.in_err-value-2.ensures.on.on

pub returns-in_err-value-2-clause-asked : goal.returns-in_err-value-2-clause-asked
returns-in_err-value-2-clause-asked g c = λ names then.
    let named = agrees_before (program_at c.args.desk.now) c.in_err-value-2.ensures.on.on.kept.made then in
    let first = agrees_before (program_at c.args.desk.now) c.in_ok-settle.ensures.on.kept.made named in
    asked_memory (program_at c.args.desk.now) names c.args.desk.now.frame c.args.desk.now.view c.settle.new.desk.view c.known_value-2.new.self.view (instance_by (program_at c.args.desk.now) names c.args.i) c.args.evals.now c.settle.new.evals (λ k. (subst (λ (o : Option Value). FindsValue (program_at c.args.desk.now) names c.known_value.new.self.view (instance_by (program_at c.args.desk.now) names c.args.i) (Ok o)) c.in_default.is (c.in_ok-value.ensures.known c.requires.coded c.requires.known names first)) (knows_later c.args.desk.now.view c.known_value.new.self.view c.in_ok-value.ensures.on.on.kept (program_at c.args.desk.now) (instance_by (program_at c.args.desk.now) names c.args.i) k)) tt (solves_before (program_at c.args.desk.now) names c.args.desk.now.frame c.args.desk.now.view c.known_value.new.self.view c.settle.new.desk.view (instance_by (program_at c.args.desk.now) names c.args.i) c.args.evals.now c.settle.new.evals (Ok tt) c.in_ok-value.ensures.on.on.kept c.in_ok-value.ensures.on.on.log c.in_ok-value.ensures.on.claims c.in_ok-settle.ensures.on.kept (subst (λ (f : Frame). ByEachAgreeing (program_of f.system.value) c.settle.new.desk.view.made (λ m. Solves (program_of f.system.value) m f c.known_value.new.self.view c.settle.new.desk.view (instance_by (program_of f.system.value) m c.args.i) c.args.evals.now c.settle.new.evals (Ok tt))) c.in_ok-value.ensures.on.on.cells c.in_ok-settle.ensures.solved names named)) c.in_err-value-2.ensures.on.on.kept c.in_err-value-2.ensures.on.on.log c.in_err-value-2.ensures.on.claims c.from_residual-in_err-value-2.result c.from_residual-in_err-value-2.ensures

pub returns-in-Some-2-clause-on : goal.returns-in-Some-2-clause-on
returns-in-Some-2-clause-on g c = goes_then c.args.desk.now c.settle.new.desk c.known_value-2.new.self (goes_then c.args.desk.now c.known_value.new.self c.settle.new.desk c.in_ok-value.ensures.on.on c.in_ok-settle.ensures.on) c.in_ok-value-2.ensures.on.on

pub returns-in-Some-2-clause-asked : goal.returns-in-Some-2-clause-asked
returns-in-Some-2-clause-asked g c = λ names then.
    let named = agrees_before (program_at c.args.desk.now) c.in_ok-value-2.ensures.on.on.kept.made then in
    let first = agrees_before (program_at c.args.desk.now) c.in_ok-settle.ensures.on.kept.made named in
    asked_value (program_at c.args.desk.now) names c.args.desk.now.frame c.args.desk.now.view c.settle.new.desk.view c.known_value-2.new.self.view (instance_by (program_at c.args.desk.now) names c.args.i) c.args.evals.now c.settle.new.evals (λ k. (subst (λ (o : Option Value). FindsValue (program_at c.args.desk.now) names c.known_value.new.self.view (instance_by (program_at c.args.desk.now) names c.args.i) (Ok o)) c.in_default.is (c.in_ok-value.ensures.known c.requires.coded c.requires.known names first)) (knows_later c.args.desk.now.view c.known_value.new.self.view c.in_ok-value.ensures.on.on.kept (program_at c.args.desk.now) (instance_by (program_at c.args.desk.now) names c.args.i) k)) tt (solves_before (program_at c.args.desk.now) names c.args.desk.now.frame c.args.desk.now.view c.known_value.new.self.view c.settle.new.desk.view (instance_by (program_at c.args.desk.now) names c.args.i) c.args.evals.now c.settle.new.evals (Ok tt) c.in_ok-value.ensures.on.on.kept c.in_ok-value.ensures.on.on.log c.in_ok-value.ensures.on.claims c.in_ok-settle.ensures.on.kept (subst (λ (f : Frame). ByEachAgreeing (program_of f.system.value) c.settle.new.desk.view.made (λ m. Solves (program_of f.system.value) m f c.known_value.new.self.view c.settle.new.desk.view (instance_by (program_of f.system.value) m c.args.i) c.args.evals.now c.settle.new.evals (Ok tt))) c.in_ok-value.ensures.on.on.cells c.in_ok-settle.ensures.solved names named)) c.in_ok-value-2.ensures.on.on.kept c.in_ok-value-2.ensures.on.on.log c.in_ok-value-2.ensures.on.claims c.in-Some-2.value (own_then c.args.desk.now c.known_value.new.self c.in_ok-value.ensures.on.on).bare c.requires.program (c.requires.instance names (agrees_before (program_at c.args.desk.now) c.in_ok-value.ensures.on.on.kept.made first)) (subst (λ (o : Option Value). FindsValue (program_at c.args.desk.now) names c.known_value-2.new.self.view (instance_by (program_at c.args.desk.now) names c.args.i) (Ok o)) c.in-Some-2.is (subst (λ (q : Program). IsCoded q c.args.i → IsKnownInstance q c.settle.new.desk.view.made c.args.i → ByEachAgreeing q c.known_value-2.new.self.view.made (λ m. FindsValue q m c.known_value-2.new.self.view (instance_by q m c.args.i) (Ok c.in_ok-value-2.field-0))) (ap (λ (f : Frame). program_of f.system.value) (c.in_ok-settle.ensures.on.cells ∙ c.in_ok-value.ensures.on.on.cells)) c.in_ok-value-2.ensures.known c.requires.coded (instance_known_later (program_at c.args.desk.now) c.in_ok-settle.ensures.on.kept.made c.args.i (instance_known_later (program_at c.args.desk.now) c.in_ok-value.ensures.on.on.kept.made c.args.i c.requires.known)) names then))

pub returns-in-None-clause-on : goal.returns-in-None-clause-on
returns-in-None-clause-on g c = goes_then c.args.desk.now c.settle.new.desk c.known_value-2.new.self (goes_then c.args.desk.now c.known_value.new.self c.settle.new.desk c.in_ok-value.ensures.on.on c.in_ok-settle.ensures.on) c.in_ok-value-2.ensures.on.on

pub returns-in-None-clause-asked : goal.returns-in-None-clause-asked
returns-in-None-clause-asked g c = λ names then.
    let named = agrees_before (program_at c.args.desk.now) c.in_ok-value-2.ensures.on.on.kept.made then in
    let first = agrees_before (program_at c.args.desk.now) c.in_ok-settle.ensures.on.kept.made named in
    asked_memory (program_at c.args.desk.now) names c.args.desk.now.frame c.args.desk.now.view c.settle.new.desk.view c.known_value-2.new.self.view (instance_by (program_at c.args.desk.now) names c.args.i) c.args.evals.now c.settle.new.evals (λ k. (subst (λ (o : Option Value). FindsValue (program_at c.args.desk.now) names c.known_value.new.self.view (instance_by (program_at c.args.desk.now) names c.args.i) (Ok o)) c.in_default.is (c.in_ok-value.ensures.known c.requires.coded c.requires.known names first)) (knows_later c.args.desk.now.view c.known_value.new.self.view c.in_ok-value.ensures.on.on.kept (program_at c.args.desk.now) (instance_by (program_at c.args.desk.now) names c.args.i) k)) tt (solves_before (program_at c.args.desk.now) names c.args.desk.now.frame c.args.desk.now.view c.known_value.new.self.view c.settle.new.desk.view (instance_by (program_at c.args.desk.now) names c.args.i) c.args.evals.now c.settle.new.evals (Ok tt) c.in_ok-value.ensures.on.on.kept c.in_ok-value.ensures.on.on.log c.in_ok-value.ensures.on.claims c.in_ok-settle.ensures.on.kept (subst (λ (f : Frame). ByEachAgreeing (program_of f.system.value) c.settle.new.desk.view.made (λ m. Solves (program_of f.system.value) m f c.known_value.new.self.view c.settle.new.desk.view (instance_by (program_of f.system.value) m c.args.i) c.args.evals.now c.settle.new.evals (Ok tt))) c.in_ok-value.ensures.on.on.cells c.in_ok-settle.ensures.solved names named)) c.in_ok-value-2.ensures.on.on.kept c.in_ok-value-2.ensures.on.on.log c.in_ok-value-2.ensures.on.claims (Err Memory) (refl, refl)
