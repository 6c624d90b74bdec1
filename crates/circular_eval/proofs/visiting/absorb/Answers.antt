use Rattle.std.proofs.Common.{Option, Ok, ap, sym, ◌∙◌}
use Rattle.equation_law.specs.declared.coding.Value.{Value as CodedValue}
use Rattle.circular_eval.specs.declared.advancing.CircFault.TheVariants.{Memory}
use Rattle.circular_eval.proofs.Absorbing.{absorb_changed, absorb_late, absorb_refused, absorb_same, may_rise, no_member, no_slot}
use Rattle.circular_eval.proofs.Raised.{err_is}
use Rattle.circular_eval.proofs.visiting.absorb.Goals as goal

pub returns-in_default : goal.returns-in_default
returns-in_default g c =
    absurd (no_member c.requires.ready.0 (g.W.Words.held c.args.work.now) c.args.local.now c.requires.ready.1 c.args.number c.args.value.now c.requires.came c.in_default.ensures)

pub returns-in_default-slot : goal.returns-in_default-slot
returns-in_default-slot g c =
    absurd (no_slot c.requires.ready.0 (g.W.Words.held c.args.work.now) c.args.local.now c.requires.ready.1 c.args.number c.args.value.now c.requires.came (c.in-Some.field-0-0.now, c.in-Some.member.now) (sym c.in-Some.ensures) c.in_default-slot.is)

pub raise_value-requires-clause-own : goal.raise_value-requires-clause-own
raise_value-requires-clause-own g c =
    c.requires.ready.1.own

pub raise_value-requires-clause-may : goal.raise_value-requires-clause-may
raise_value-requires-clause-may g c =
    may_rise c.requires.ready.0 (g.W.Words.held c.args.work.now) c.args.local.now c.requires.ready.1 c.args.number c.args.value.now c.requires.came (c.in-Some.field-0-0.now, c.in-Some.member.now) (sym c.in-Some.ensures) c.in-Some-slot.slot c.in-Some-slot.is

pub returns-in_err-value : goal.returns-in_err-value
returns-in_err-value g c =
    absorb_refused c.requires.ready.0 (g.W.Words.held c.args.work.now) c.args.local.now c.requires.ready.1 c.args.number c.args.value.now c.requires.came (c.in-Some.field-0-0.now, c.in-Some.member.now) (sym c.in-Some.ensures) c.in-Some-slot.slot c.in-Some-slot.is (g.W.Words.held c.raise_value.new.work) c.raise_value.result c.raise_value.ensures c.in_err-value.field-0.0 (c.in_err-value.was) c.from_residual.result (err_is c.from_residual.result c.in_err-value.field-0.0 c.from_residual.ensures)

pub returns-in_default-2 : goal.returns-in_default-2
returns-in_default-2 g c =
    absorb_same c.requires.ready.0 (g.W.Words.held c.args.work.now) c.args.local.now c.requires.ready.1 c.args.number c.args.value.now c.requires.came (c.in-Some.field-0-0.now, c.in-Some.member.now) (sym c.in-Some.ensures) c.in-Some-slot.slot c.in-Some-slot.is (g.W.Words.held c.raise_value.new.work) c.raise_value.result c.raise_value.ensures (c.in_ok-value.was ∙ ap (λ (o : Option CodedValue). Ok o) c.in_default-2.is)

pub returns-in_err-rise : goal.returns-in_err-rise
returns-in_err-rise g c =
    absorb_late c.requires.ready.0 (g.W.Words.held c.args.work.now) c.args.local.now c.requires.ready.1 c.args.number c.args.value.now c.requires.came (c.in-Some.field-0-0.now, c.in-Some.member.now) (sym c.in-Some.ensures) c.in-Some-slot.slot c.in-Some-slot.is (g.W.Words.held c.raise_value.new.work) c.raise_value.result c.raise_value.ensures c.in-Some-2.value (c.in_ok-value.was ∙ ap (λ (o : Option CodedValue). Ok o) c.in-Some-2.is) c.rise.new.self c.rise.ensures.start c.rise.ensures.need c.rise.ensures.saved c.rise.ensures.members c.from_residual-in_err-rise.result (err_is c.from_residual-in_err-rise.result Memory c.from_residual-in_err-rise.ensures)

pub returns : goal.returns
returns g c =
    absorb_changed c.requires.ready.0 (g.W.Words.held c.args.work.now) c.args.local.now c.requires.ready.1 c.args.number c.args.value.now c.requires.came (c.in-Some.field-0-0.now, c.in-Some.member.now) (sym c.in-Some.ensures) c.in-Some-slot.slot c.in-Some-slot.is (g.W.Words.held c.raise_value.new.work) c.raise_value.result c.raise_value.ensures c.in-Some-2.value (c.in_ok-value.was ∙ ap (λ (o : Option CodedValue). Ok o) c.in-Some-2.is) c.rise.new.self c.rise.ensures.start c.rise.ensures.need c.rise.ensures.saved c.rise.ensures.members
