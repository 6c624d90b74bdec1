use Rattle.std.proofs.Common.{◌≡◌, true, false, Ok, Some, sym, ap, subst, ◌∙◌}
use Rattle.equation_law.specs.declared.system.System.{System}
use Rattle.equation_law.specs.Checked.{IsProgram}
use Rattle.equation_law.specs.Codes.{instance_by, instance_of}
use Rattle.equation_law.specs.Equations.{is_declared}
use Rattle.equation_law.specs.Systems.{program_of}
use Rattle.expr_eval.specs.declared.sites.Turn.{Turn}
use Rattle.memo_cells.specs.declared.view.Frame.{Frame}
use Rattle.memo_cells.specs.Working.{Held, program_at}
use Rattle.circular_eval.specs.declared.advancing.CircTurn.{CircTurn}
use Rattle.circular_eval.specs.Advancing.{AnswersTurn}
use Rattle.caller_pass.specs.Holding.{TurnsToAt}
use Rattle.caller_pass.specs.Waiting.{unboxed}
use Rattle.caller_pass.proofs.Leaving.{kept_left, none_left, taken_left}
use Rattle.caller_pass.proofs.Through.{at_turn, cell_turn, ended_err, ended_ok, ended_turn, instance_turn, known_turn, local_closed, local_err, local_need, no_image, turn_coded, turn_err, turn_known, turn_left, turn_local, turn_need, turn_start, undeclared_turn}
use Rattle.caller_pass.proofs.solving.evaluate.Goals as goal

pub go_on-requires-clause-program : goal.go_on-requires-clause-program
go_on-requires-clause-program g c = c.requires.program

pub go_on-requires-clause-local : goal.go_on-requires-clause-local
go_on-requires-clause-local g c = turn_local c.args.desk.now c.args.i c.args.waiter.now c.requires.own c.requires.turn c.deref_mut.result.now (ap unboxed c.in-Some.is ∙ ap Some (sym c.deref_mut.ensures.value))

pub returns-in_err-next : goal.returns-in_err-next
returns-in_err-next g c = record { went = local_err c.args.desk.now c.go_on.new.desk c.args.i c.args.waiter.now c.deref_mut.result.now _ (ap unboxed c.in-Some.is ∙ ap Some (sym c.deref_mut.ensures.value)) c.requires.own c.requires.turn c.in_err-next.ensures.on c.in_err-next.ensures.local c.in_err-next.ensures.claims c.args.evals.now c.go_on.new.evals c.in_err-next.ensures.evals c.in_err-next.field-0.0 c.from_residual.result c.from_residual.ensures c.in_err-next.ensures.answer }

pub returns-in-Need : goal.returns-in-Need
returns-in-Need g c = record { went = local_need c.args.desk.now c.go_on.new.desk c.args.i c.args.waiter.now c.deref_mut.result.now _ (ap unboxed c.in-Some.is ∙ ap Some (sym c.deref_mut.ensures.value)) c.requires.own c.requires.turn c.in_ok-next.ensures.on c.in_ok-next.ensures.local c.in_ok-next.ensures.claims c.args.evals.now c.go_on.new.evals c.in_ok-next.ensures.evals c.in-Need.next (subst (λ (t : CircTurn). AnswersTurn (program_at c.args.desk.now) c.args.desk.now.frame c.go_on.new.desk.view c.go_on.new.local (Ok t)) c.in-Need.is c.in_ok-next.ensures.answer) }

pub returns-in-Closed : goal.returns-in-Closed
returns-in-Closed g c = record { went = local_closed c.args.desk.now c.go_on.new.desk c.args.i c.args.waiter.now c.deref_mut.result.now (record c.in-Some.local { value = c.go_on.new.local }) (ap unboxed c.in-Some.is ∙ ap Some (sym c.deref_mut.ensures.value)) c.requires.own c.requires.turn c.in_ok-next.ensures.on c.in_ok-next.ensures.local c.in_ok-next.ensures.claims c.args.evals.now c.go_on.new.evals c.in_ok-next.ensures.evals (λ names named. (subst (λ (t : CircTurn). AnswersTurn (program_at c.args.desk.now) c.args.desk.now.frame c.go_on.new.desk.view c.go_on.new.local (Ok t)) c.in-Closed.is c.in_ok-next.ensures.answer names named).start) }

pub turn-requires : goal.turn-requires
turn-requires g c = record { coded = turn_coded c.args.desk.now c.args.i c.args.waiter.now c.requires.own c.requires.turn; known = turn_known c.args.desk.now c.args.i c.args.waiter.now c.requires.own c.requires.turn; left = taken_left c.args.i c.args.waiter.now.left c.take_left-left.result c.take_left-left.ensures.own c.take_left-left.ensures.nothing (turn_left c.args.desk.now c.args.i c.args.waiter.now c.requires.own c.requires.turn) }

pub returns-in_err-value : goal.returns-in_err-value
returns-in_err-value g c = record { went = turn_err c.args.desk.now c.turn.new.desk c.args.i c.args.waiter.now (ap unboxed c.in_default.is) c.requires.program c.requires.turn c.in_err-value.ensures.on c.args.evals.now c.turn.new.evals c.in_err-value.ensures.evals c.take_left-left.new.left (none_left _ _ _ c.take_left-left.new.left c.take_left-left.ensures.gone) c.from_residual-in_err-value.result c.from_residual-in_err-value.ensures }

pub finish-requires-clause-program : goal.finish-requires-clause-program
finish-requires-clause-program g c = at_turn c.args.desk.now c.turn.new.desk c.args.i c.args.waiter.now (ap unboxed c.in_default.is) c.requires.program c.requires.turn c.in_ok-value.ensures.on c.args.evals.now c.turn.new.evals c.in_ok-value.ensures.evals c.take_left-left.new.left (none_left _ _ _ c.take_left-left.new.left c.take_left-left.ensures.gone) (λ (f : Frame). IsProgram (program_of f.system.value)) c.requires.program

pub finish-requires-clause-own : goal.finish-requires-clause-own
finish-requires-clause-own g c = c.in_ok-value.ensures.on.on.own

pub finish-requires-clause-instance : goal.finish-requires-clause-instance
finish-requires-clause-instance g c = instance_turn c.args.desk.now c.turn.new.desk c.args.i c.args.waiter.now (ap unboxed c.in_default.is) c.requires.program c.requires.turn c.in_ok-value.ensures.on c.args.evals.now c.turn.new.evals c.in_ok-value.ensures.evals c.take_left-left.new.left (none_left _ _ _ c.take_left-left.new.left c.take_left-left.ensures.gone)

pub finish-requires-clause-known : goal.finish-requires-clause-known
finish-requires-clause-known g c = known_turn c.args.desk.now c.turn.new.desk c.args.i c.args.waiter.now (ap unboxed c.in_default.is) c.requires.program c.requires.turn c.in_ok-value.ensures.on c.args.evals.now c.turn.new.evals c.in_ok-value.ensures.evals c.take_left-left.new.left (none_left _ _ _ c.take_left-left.new.left c.take_left-left.ensures.gone) c.requires.own

pub finish-requires-clause-undeclared : goal.finish-requires-clause-undeclared
finish-requires-clause-undeclared g c = undeclared_turn c.args.desk.now c.turn.new.desk c.args.i c.args.waiter.now (ap unboxed c.in_default.is) c.requires.program c.requires.turn c.in_ok-value.ensures.on c.args.evals.now c.turn.new.evals c.in_ok-value.ensures.evals c.take_left-left.new.left (none_left _ _ _ c.take_left-left.new.left c.take_left-left.ensures.gone)

pub finish-requires-clause-slot : goal.finish-requires-clause-slot
finish-requires-clause-slot g c = cell_turn c.args.desk.now c.turn.new.desk c.args.i c.args.waiter.now (ap unboxed c.in_default.is) c.requires.program c.requires.turn c.in_ok-value.ensures.on c.args.evals.now c.turn.new.evals c.in_ok-value.ensures.evals c.take_left-left.new.left (none_left _ _ _ c.take_left-left.new.left c.take_left-left.ensures.gone)

pub finish-requires-clause-ended : goal.finish-requires-clause-ended
finish-requires-clause-ended g c = ended_turn c.args.desk.now c.turn.new.desk c.args.i c.args.waiter.now (ap unboxed c.in_default.is) c.requires.program c.requires.turn c.in_ok-value.ensures.on c.args.evals.now c.turn.new.evals c.in_ok-value.ensures.evals c.take_left-left.new.left (none_left _ _ _ c.take_left-left.new.left c.take_left-left.ensures.gone) c.in-Done.value (subst (λ (t : Turn). TurnsToAt c.args.desk.now c.turn.new.desk c.args.i (Ok t)) c.in-Done.is c.in_ok-value.ensures.turned)

pub returns-in_err-finish-in-Done : goal.returns-in_err-finish-in-Done
returns-in_err-finish-in-Done g c = record { went = ended_err c.args.desk.now c.turn.new.desk c.args.i c.args.waiter.now (ap unboxed c.in_default.is) c.requires.program c.requires.turn c.in_ok-value.ensures.on c.args.evals.now c.turn.new.evals c.in_ok-value.ensures.evals c.take_left-left.new.left (none_left _ _ _ c.take_left-left.new.left c.take_left-left.ensures.gone) c.finish.new.desk c.in_err-finish-in-Done.ensures.on c.in_err-finish-in-Done.ensures.claims c.in_err-finish-in-Done.field-0.0 c.from_residual-in_err-finish-in-Done.result c.from_residual-in_err-finish-in-Done.ensures c.in_err-finish-in-Done.ensures.answer }

pub returns-then-not-is_declared : goal.returns-then-not-is_declared
returns-then-not-is_declared g c = record { went = turn_need c.args.desk.now c.turn.new.desk c.args.i c.args.waiter.now (ap unboxed c.in_default.is) c.requires.program c.requires.turn c.in_ok-value.ensures.on c.args.evals.now c.turn.new.evals c.in_ok-value.ensures.evals c.unless_empty.result (kept_left c.args.i c.unless_empty.result c.turn.new.left c.unless_empty.ensures.own c.in_ok-value.ensures.left) c.in-Need-2.next (subst (λ (t : Turn). TurnsToAt c.args.desk.now c.turn.new.desk c.args.i (Ok t)) c.in-Need-2.is c.in_ok-value.ensures.turned) (subst (λ (s : System). is_declared (program_of s) (instance_of (program_of s) c.in-Need-2.next) ≡ false) (sym c.desk.invariant.1 ∙ ap (λ (h : Held). h.frame.system.value) c.desk.view_is ∙ ap (λ (f : Frame). f.system.value) c.in_ok-value.ensures.on.on.cells) (sym c.is_declared.ensures ∙ c.if-not-is_declared.true)) }

pub returns-in_err-start-in-Need-2 : goal.returns-in_err-start-in-Need-2
returns-in_err-start-in-Need-2 g c = record { went = turn_err c.args.desk.now c.turn.new.desk c.args.i c.args.waiter.now (ap unboxed c.in_default.is) c.requires.program c.requires.turn c.in_ok-value.ensures.on c.args.evals.now c.turn.new.evals c.in_ok-value.ensures.evals c.unless_empty.result (kept_left c.args.i c.unless_empty.result c.turn.new.left c.unless_empty.ensures.own c.in_ok-value.ensures.left) c.from_residual-in_err-start-in-Need-2.result c.from_residual-in_err-start-in-Need-2.ensures }

pub returns-in_ok-finish-in-Done : goal.returns-in_ok-finish-in-Done
returns-in_ok-finish-in-Done g c = record { went = ended_ok c.args.desk.now c.turn.new.desk c.args.i c.args.waiter.now (ap unboxed c.in_default.is) c.requires.program c.requires.turn c.in_ok-value.ensures.on c.args.evals.now c.turn.new.evals c.in_ok-value.ensures.evals c.take_left-left.new.left (none_left _ _ _ c.take_left-left.new.left c.take_left-left.ensures.gone) c.finish.new.desk c.in_ok-finish-in-Done.ensures.on c.in_ok-finish-in-Done.ensures.claims c.in_ok-finish-in-Done.ensures.answer }

pub returns-in_ok-start-in-Need-2 : goal.returns-in_ok-start-in-Need-2
returns-in_ok-start-in-Need-2 g c = record { went = turn_start c.args.desk.now c.turn.new.desk c.args.i c.args.waiter.now (ap unboxed c.in_default.is) c.requires.program c.requires.turn c.in_ok-value.ensures.on c.args.evals.now c.turn.new.evals c.in_ok-value.ensures.evals c.unless_empty.result (kept_left c.args.i c.unless_empty.result c.turn.new.left c.unless_empty.ensures.own c.in_ok-value.ensures.left) c.in-Need-2.next (subst (λ (t : Turn). TurnsToAt c.args.desk.now c.turn.new.desk c.args.i (Ok t)) c.in-Need-2.is c.in_ok-value.ensures.turned) (subst (λ (s : System). is_declared (program_of s) (instance_of (program_of s) c.in-Need-2.next) ≡ true) (sym c.desk.invariant.1 ∙ ap (λ (h : Held). h.frame.system.value) c.desk.view_is ∙ ap (λ (f : Frame). f.system.value) c.in_ok-value.ensures.on.on.cells) (sym c.is_declared.ensures ∙ c.if-not-is_declared.false)) c.in_ok-start-in-Need-2.field-0 c.in_ok-start-in-Need-2.ensures.start c.in_ok-start-in-Need-2.ensures.local }

pub unreachable-requires : goal.unreachable-requires
unreachable-requires g c = no_image c.args.desk.now c.turn.new.desk c.args.i c.in-Image.field-0 c.in_ok-value.ensures.on.on (subst (λ (t : Turn). TurnsToAt c.args.desk.now c.turn.new.desk c.args.i (Ok t)) c.in-Image.is c.in_ok-value.ensures.turned)
