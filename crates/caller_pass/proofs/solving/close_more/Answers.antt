use Rattle.std.proofs.Common.{Ok, refl, sym, subst}
use Rattle.equation_law.specs.declared.coding.Instance.{Instance as CodedInstance}
use Rattle.equation_law.specs.Checked.{IsProgram}
use Rattle.equation_law.specs.Codes.{instance_by}
use Rattle.equation_law.specs.Systems.{program_of}
use Rattle.memo_cells.specs.declared.view.Frame.{Frame}
use Rattle.memo_cells.specs.Agreeing.{Agrees}
use Rattle.memo_cells.specs.Standing.{Knows}
use Rattle.memo_cells.specs.Working.{program_at}
use Rattle.circular_eval.specs.declared.advancing.CircTurn.{CircTurn}
use Rattle.circular_eval.specs.Advancing.{AnswersFault, AnswersTurn, IsMissingByEach}
use Rattle.circular_eval.specs.Local.{IsLocalByEach}
use Rattle.circular_eval.proofs.Later.{set_later}
use Rattle.caller_pass.specs.Answering.{SolvesFor}
use Rattle.caller_pass.proofs.Closing.{closes_fault, closes_for, closes_now}
use Rattle.memo_cells.proofs.Agreeing.{agrees_before}
use Rattle.memo_cells.proofs.Holding.{goes_then, own_then}
use Rattle.caller_pass.proofs.solving.close_more.Goals as goal

pub go_on-requires-clause-program : goal.go_on-requires-clause-program
go_on-requires-clause-program g c = c.requires.program

pub go_on-requires-clause-local : goal.go_on-requires-clause-local
go_on-requires-clause-local g c = c.requires.local

pub returns-in_err-go_on-clause-on : goal.returns-in_err-go_on-clause-on
returns-in_err-go_on-clause-on g c = c.in_err-go_on.ensures.on

pub returns-in_err-go_on-clause-local : goal.returns-in_err-go_on-clause-local
returns-in_err-go_on-clause-local g c = c.in_err-go_on.ensures.local

pub returns-in_err-go_on-clause-more : goal.returns-in_err-go_on-clause-more
returns-in_err-go_on-clause-more g c = λ names named. closes_fault (program_at c.args.desk.now) names c.args.desk.now.frame refl c.args.desk.now.view c.go_on.new.desk.view named c.requires.own (own_then c.args.desk.now c.go_on.new.desk c.in_err-go_on.ensures.on) c.in_err-go_on.ensures.on.kept c.args.local.now.start (c.requires.unknown names (agrees_before (program_at c.args.desk.now) c.in_err-go_on.ensures.on.kept.made named)) (c.in_err-go_on.ensures.claims names named) c.args.evals.now c.go_on.new.evals c.in_err-go_on.ensures.evals c.in_err-go_on.field-0.0 c.from_residual.result c.from_residual.ensures (subst (λ (j : CodedInstance). AnswersFault (program_at c.args.desk.now) j c.args.desk.now.frame c.go_on.new.desk.view c.in_err-go_on.field-0.0) c.in_err-go_on.ensures.local.1 c.in_err-go_on.ensures.answer)

pub solve_for-requires-clause-program : goal.solve_for-requires-clause-program
solve_for-requires-clause-program g c = subst (λ (f : Frame). IsProgram (program_of f.system.value)) (sym c.in_ok-go_on.ensures.on.cells) c.requires.program

pub solve_for-requires-clause-own : goal.solve_for-requires-clause-own
solve_for-requires-clause-own g c = c.in_ok-go_on.ensures.on.own

pub solve_for-requires-clause-local : goal.solve_for-requires-clause-local
solve_for-requires-clause-local g c = subst (λ (f : Frame). IsLocalByEach (program_of f.system.value) f c.go_on.new.desk.view c.go_on.new.local) (sym c.in_ok-go_on.ensures.on.cells) c.in_ok-go_on.ensures.local.0

pub solve_for-requires-clause-missing : goal.solve_for-requires-clause-missing
solve_for-requires-clause-missing g c = subst (λ (f : Frame). IsMissingByEach (program_of f.system.value) c.go_on.new.desk.view c.go_on.new.local c.in-Need.next) (sym c.in_ok-go_on.ensures.on.cells) (subst (λ (t : CircTurn). AnswersTurn (program_at c.args.desk.now) c.args.desk.now.frame c.go_on.new.desk.view c.go_on.new.local (Ok t)) c.in-Need.is c.in_ok-go_on.ensures.answer)

pub returns-in-Closed-clause-on : goal.returns-in-Closed-clause-on
returns-in-Closed-clause-on g c = c.in_ok-go_on.ensures.on

pub returns-in-Closed-clause-local : goal.returns-in-Closed-clause-local
returns-in-Closed-clause-local g c = c.in_ok-go_on.ensures.local

pub returns-in-Closed-clause-more : goal.returns-in-Closed-clause-more
returns-in-Closed-clause-more g c = λ names named. closes_now (program_at c.args.desk.now) names c.args.desk.now.frame refl c.args.desk.now.view c.go_on.new.desk.view named c.requires.own (own_then c.args.desk.now c.go_on.new.desk c.in_ok-go_on.ensures.on) c.in_ok-go_on.ensures.on.kept c.args.local.now.start (c.requires.unknown names (agrees_before (program_at c.args.desk.now) c.in_ok-go_on.ensures.on.kept.made named)) (c.in_ok-go_on.ensures.claims names named) c.args.evals.now c.go_on.new.evals c.in_ok-go_on.ensures.evals (subst (λ (j : CodedInstance). Knows (program_at c.args.desk.now) c.go_on.new.desk.view (instance_by (program_at c.args.desk.now) names j)) c.in_ok-go_on.ensures.local.1 (subst (λ (t : CircTurn). AnswersTurn (program_at c.args.desk.now) c.args.desk.now.frame c.go_on.new.desk.view c.go_on.new.local (Ok t)) c.in-Closed.is c.in_ok-go_on.ensures.answer names named).start) tt

pub returns-in-Need-clause-on : goal.returns-in-Need-clause-on
returns-in-Need-clause-on g c = goes_then c.args.desk.now c.go_on.new.desk c.solve_for.new.desk c.in_ok-go_on.ensures.on c.solve_for.ensures.on

pub returns-in-Need-clause-local : goal.returns-in-Need-clause-local
returns-in-Need-clause-local g c = (set_later (program_at c.args.desk.now) c.go_on.new.desk.view c.solve_for.new.desk.view c.solve_for.ensures.on.kept c.args.desk.now.frame c.go_on.new.local c.in_ok-go_on.ensures.local.0, c.in_ok-go_on.ensures.local.1)

pub returns-in-Need-clause-more : goal.returns-in-Need-clause-more
returns-in-Need-clause-more g c = λ names then.
    let named = agrees_before (program_at c.args.desk.now) c.solve_for.ensures.on.kept.made then in
    closes_for (program_at c.args.desk.now) names c.args.desk.now.frame refl c.args.desk.now.view c.go_on.new.desk.view named c.requires.own (own_then c.args.desk.now c.go_on.new.desk c.in_ok-go_on.ensures.on) c.in_ok-go_on.ensures.on.kept c.args.local.now.start (c.requires.unknown names (agrees_before (program_at c.args.desk.now) c.in_ok-go_on.ensures.on.kept.made named)) (c.in_ok-go_on.ensures.claims names named) c.args.evals.now c.go_on.new.evals c.in_ok-go_on.ensures.evals c.solve_for.new.desk.view (own_then c.args.desk.now c.solve_for.new.desk (goes_then c.args.desk.now c.go_on.new.desk c.solve_for.new.desk c.in_ok-go_on.ensures.on c.solve_for.ensures.on)) c.solve_for.ensures.on.kept c.go_on.new.local c.in_ok-go_on.ensures.local.1 c.in-Need.next (subst (λ (t : CircTurn). AnswersTurn (program_at c.args.desk.now) c.args.desk.now.frame c.go_on.new.desk.view c.go_on.new.local (Ok t)) c.in-Need.is c.in_ok-go_on.ensures.answer names named) c.solve_for.new.evals c.solve_for.result (subst (λ (f : Frame). SolvesFor (program_of f.system.value) names f c.go_on.new.desk.view c.solve_for.new.desk.view c.go_on.new.local (instance_by (program_of f.system.value) names c.in-Need.next) c.go_on.new.evals c.solve_for.new.evals c.solve_for.result) c.in_ok-go_on.ensures.on.cells (c.solve_for.ensures.solved names (subst (λ (f : Frame). Agrees (program_of f.system.value) c.solve_for.new.desk.view.made names) (sym c.in_ok-go_on.ensures.on.cells) then)))
