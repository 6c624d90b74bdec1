use Rattle.std.proofs.Common.{sym, ◌∙◌}
use Rattle.expr_eval.specs.declared.sites.Turn.TheVariants as turns
use Rattle.circular_eval.proofs.Following.{admit_refused, admit_step, need_missing, need_new, no_image, turn_is}
use Rattle.circular_eval.proofs.Raised.{err_is}
use Rattle.circular_eval.proofs.visiting.follow.Goals as goal

pub absorb-requires-clause-ready : goal.absorb-requires-clause-ready
absorb-requires-clause-ready g c =
    (c.args.system.now, c.requires.ready)

pub absorb-requires-clause-came : goal.absorb-requires-clause-came
absorb-requires-clause-came g c =
    turn_is (g.W.Words.held c.args.work.now) c.args.local.now c.args.number c.args.turn (turns.Done c.in-Done.value) c.in-Done.is c.requires.came

pub admit-requires-clause-ready : goal.admit-requires-clause-ready
admit-requires-clause-ready g c =
    c.requires.ready

pub admit-requires-clause-new : goal.admit-requires-clause-new
admit-requires-clause-new g c =
    need_new c.args.system.now (g.W.Words.held c.args.work.now) c.args.local.now c.requires.ready c.args.number c.in-Need.need (turn_is (g.W.Words.held c.args.work.now) c.args.local.now c.args.number c.args.turn (turns.Need c.in-Need.need) c.in-Need.is c.requires.came) (sym c.if-is_declared.true ∙ c.is_declared.ensures)

pub returns-in_err-admit-in-Need : goal.returns-in_err-admit-in-Need
returns-in_err-admit-in-Need g c =
    admit_refused (g.W.Words.held c.args.work.now) (g.W.Words.held c.admit.new.work) c.args.local.now c.admit.new.local c.args.number c.in_err-admit-in-Need.field-0.0 c.in_err-admit-in-Need.ensures c.from_residual.result (err_is c.from_residual.result c.in_err-admit-in-Need.field-0.0 c.from_residual.ensures)

pub returns-then-is_declared : goal.returns-then-is_declared
returns-then-is_declared g c =
    admit_step (g.W.Words.held c.args.work.now) (g.W.Words.held c.admit.new.work) c.args.local.now c.admit.new.local c.args.number c.in_ok-admit-in-Need.field-0 c.in_ok-admit-in-Need.ensures

pub returns-in-Done : goal.returns-in-Done
returns-in-Done g c =
    c.absorb.ensures

pub returns-else-is_declared : goal.returns-else-is_declared
returns-else-is_declared g c =
    need_missing c.args.system.now (g.W.Words.held c.args.work.now) c.args.local.now c.requires.ready c.args.number c.in-Need.need (turn_is (g.W.Words.held c.args.work.now) c.args.local.now c.args.number c.args.turn (turns.Need c.in-Need.need) c.in-Need.is c.requires.came) (sym c.if-is_declared.false ∙ c.is_declared.ensures) c.note_need.new.self c.note_need.ensures.start c.note_need.ensures.members c.note_need.ensures.need c.note_need.ensures.saved

pub unreachable-requires : goal.unreachable-requires
unreachable-requires g c =
    no_image (g.W.Words.held c.args.work.now) c.requires.ready.own c.args.local.now c.args.number c.in-Image.field-0 (turn_is (g.W.Words.held c.args.work.now) c.args.local.now c.args.number c.args.turn (turns.Image c.in-Image.field-0) c.in-Image.is c.requires.came)
