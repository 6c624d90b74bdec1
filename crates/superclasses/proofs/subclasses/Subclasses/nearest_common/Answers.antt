use Rattle.std.proofs.Common.{◌≡◌, ap, sym, ◌∙◌, arith, length}
use Rattle.superclasses.proofs.Walks.{common_init, common_ended, common_found, common_step, common_end}
use Rattle.superclasses.proofs.subclasses.Subclasses.nearest_common.Goals as goal

pub loop-init : goal.loop-init
loop-init c = common_init _ _ _ (sym c.is_sub.ensures.flag ∙ c.if-is_sub.false)

pub returns-in_err-class : goal.returns-in_err-class
returns-in_err-class c =
    let size : length c.self.inside.superclasses.items ≡ length c.args.self.now = ap length c.self.view_is in
    c.from_residual.ensures ∙ common_ended _ _ _ _ _ _ c.loop.invariant (sym c.superclass.ensures ∙ c.in_err-class.was) (omega arith)

pub returns-then-is_sub-2 : goal.returns-then-is_sub-2
returns-then-is_sub-2 c =
    let size : length c.self.inside.superclasses.items ≡ length c.args.self.now = ap length c.self.view_is in
    common_found _ _ _ _ _ _ c.loop.invariant _ (sym c.superclass.ensures ∙ c.in_ok-class.was) (sym c.is_sub-in-loop.ensures.flag ∙ c.if-is_sub-2.true) (omega arith)

pub loop-preserved : goal.loop-preserved
loop-preserved c = common_step _ _ _ _ _ _ c.loop.invariant _ (sym c.superclass.ensures ∙ c.in_ok-class.was) (sym c.is_sub-in-loop.ensures.flag ∙ c.if-is_sub-2.false)

pub returns : goal.returns
returns c =
    let size : length c.self.inside.superclasses.items ≡ length c.args.self.now = ap length c.self.view_is in
    common_end _ _ _ _ _ _ c.loop.invariant (omega arith) (omega arith)
