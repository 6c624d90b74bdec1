use Rattle.std.proofs.Common.{refl, sym, ap, subst, ◌∙◌}
use Rattle.attr_rules.specs.Rules.{is_single}
use Rattle.equation_law.specs.Codes.{instance_by}
use Rattle.memo_cells.specs.declared.view.Frame.{Frame}
use Rattle.memo_cells.specs.Working.{Held, program_at}
use Rattle.memo_cells.proofs.Agreeing.{agrees_before}
use Rattle.memo_cells.proofs.Holding.{own_then, reads_then}
use Rattle.caller_pass.specs.Holding.{IsReadValueAt}
use Rattle.caller_pass.specs.Knowing.{FindsValue, IsSettledAt}
use Rattle.caller_pass.proofs.Knowing.{is_not, kind_each, known_value_is, not_is}
use Rattle.caller_pass.proofs.Stepping.{err_is}
use Rattle.caller_pass.proofs.desk.Desk.known_value.Goals as goal

pub set_value-requires-clause-known : goal.set_value-requires-clause-known
set_value-requires-clause-known c = c.in-Some.ensures.its

pub set_value-requires-clause-kind : goal.set_value-requires-clause-kind
set_value-requires-clause-kind c =
    let same = ap (λ (h : Held). h.frame.system.value) (sym c.self.view_is) ∙ c.self.invariant.1 in
    kind_each c.settled_code.new.self c.self.inside.system.now c.args.i c.kind_of-kind.result same c.kind_of-kind.ensures

pub returns-clause-known : goal.returns-clause-known
returns-clause-known c = λ good known names named.
    let d = c.args.self.now in
    let p = program_at d in
    let i = instance_by p names c.args.i in
    let v = c.settled_code.new.self.view in
    let x = c.of_code.result in
    let same = ap (λ (f : Frame). f.system.value) (sym c.in-Some.ensures.on.on.cells) ∙ ap (λ (h : Held). h.frame.system.value) (sym c.self.view_is) ∙ c.self.invariant.1 in
    let single = is_not _ (sym c.is_set.ensures ∙ c.if-is_set.false) in
    let s = subst (λ (g : Frame). IsSettledAt p g v i c.in-Some.slot.0 c.in-Some.code) c.in-Some.ensures.on.on.cells (c.in-Some.ensures.known good known names named) in
    let kinds = kind_each d c.self.inside.system.now c.args.i c.kind_of-kind.result same c.kind_of-kind.ensures names (agrees_before p c.in-Some.ensures.on.on.kept.made named) in
    known_value_is p d.frame v refl (own_then d c.settled_code.new.self c.in-Some.ensures.on.on) names named i c.in-Some.slot.0 c.in-Some.code c.kind_of-kind.result x s kinds single c.of_code.ensures.value (c.of_code.ensures.elements p)

pub returns-in_err-value-clause-on : goal.returns-in_err-value-clause-on
returns-in_err-value-clause-on c = reads_then c.args.self.now c.settled_code.new.self c.set_value.new.self c.in-Some.ensures.on c.set_value.ensures.on

pub returns-in_err-value-clause-known : goal.returns-in_err-value-clause-known
returns-in_err-value-clause-known c = λ good known names named.
    let p = program_at c.args.self.now in
    let i = instance_by p names c.args.i in
    let same = ap (λ (f : Frame). f.system.value) (sym c.in-Some.ensures.on.on.cells) ∙ ap (λ (h : Held). h.frame.system.value) (sym c.self.view_is) ∙ c.self.invariant.1 in
    let kinds = kind_each c.args.self.now c.self.inside.system.now c.args.i c.kind_of-kind.result same c.kind_of-kind.ensures names (agrees_before p c.in-Some.ensures.on.on.kept.made (agrees_before p c.set_value.ensures.on.on.kept.made named)) in
    err_is (FindsValue p names c.set_value.new.self.view i) _ c.from_residual.result c.from_residual.ensures (λ e is. ap is_single (sym kinds) ∙ not_is _ (sym c.is_set.ensures ∙ c.if-is_set.true))

pub returns-then-is_set-clause-on : goal.returns-then-is_set-clause-on
returns-then-is_set-clause-on c = reads_then c.args.self.now c.settled_code.new.self c.set_value.new.self c.in-Some.ensures.on c.set_value.ensures.on

pub returns-then-is_set-clause-known : goal.returns-then-is_set-clause-known
returns-then-is_set-clause-known c = λ good known. subst (λ (f : Frame). IsReadValueAt (record { frame = f; view = c.args.self.now.view; lender = c.args.self.now.lender }) c.set_value.new.self c.args.i c.in_ok-value.value) c.in-Some.ensures.on.on.cells c.in_ok-value.ensures.value good
