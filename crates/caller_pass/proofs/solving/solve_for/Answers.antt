use Rattle.std.proofs.Common.{Err, [], refl, subst}
use Rattle.equation_law.specs.Codes.{instance_by}
use Rattle.caller_pass.specs.declared.faults.AskFault.{AskFault}
use Rattle.caller_pass.specs.declared.faults.AskFault.TheVariants.{Memory}
use Rattle.caller_pass.specs.Answering.{Solves}
use Rattle.memo_cells.specs.Working.{program_at}
use Rattle.memo_cells.proofs.Agreeing.{agrees_before, own_open}
use Rattle.memo_cells.proofs.Holding.{own_then}
use Rattle.caller_pass.proofs.Needing.{full_for, loop_for, memory_for, settled_for}
use Rattle.caller_pass.proofs.solving.solve_for.Goals as goal

pub solve_unless_noted-requires-clause-program : goal.solve_unless_noted-requires-clause-program
solve_unless_noted-requires-clause-program g c = c.requires.program

pub solve_unless_noted-requires-clause-own : goal.solve_unless_noted-requires-clause-own
solve_unless_noted-requires-clause-own g c = c.requires.own

pub solve_unless_noted-requires-clause-instance : goal.solve_unless_noted-requires-clause-instance
solve_unless_noted-requires-clause-instance g c = λ names named. (c.requires.missing names named).instance

pub solve_unless_noted-requires-clause-coded : goal.solve_unless_noted-requires-clause-coded
solve_unless_noted-requires-clause-coded g c = let d = c.args.desk.now in (c.requires.missing _ (own_open d.frame d.view [] c.requires.own)).coded

pub solve_unless_noted-requires-clause-known : goal.solve_unless_noted-requires-clause-known
solve_unless_noted-requires-clause-known g c = let d = c.args.desk.now in (c.requires.missing _ (own_open d.frame d.view [] c.requires.own)).known

pub solve_unless_noted-requires-clause-undeclared : goal.solve_unless_noted-requires-clause-undeclared
solve_unless_noted-requires-clause-undeclared g c = λ names named. (c.requires.missing names named).undeclared

pub returns-in_err-chain-in-Err-Circular-clause-on : goal.returns-in_err-chain-in-Err-Circular-clause-on
returns-in_err-chain-in-Err-Circular-clause-on g c = c.in-Err-Circular.ensures.on

pub returns-in_err-chain-in-Err-Circular-clause-solved : goal.returns-in_err-chain-in-Err-Circular-clause-solved
returns-in_err-chain-in-Err-Circular-clause-solved g c = λ names named.
    let before = agrees_before (program_at c.args.desk.now) c.in-Err-Circular.ensures.on.kept.made named in
    memory_for (program_at c.args.desk.now) names c.args.desk.now.frame c.args.desk.now.view c.solve_unless_noted.new.desk.view c.args.local.now c.args.next (c.requires.local names before) (c.requires.missing names before) c.args.evals.now c.solve_unless_noted.new.evals c.from_residual.result (c.in-Err-Circular.ensures.solved names named).claims c.from_residual.ensures

pub returns-in_ok-chain-in-Err-Circular-clause-on : goal.returns-in_ok-chain-in-Err-Circular-clause-on
returns-in_ok-chain-in-Err-Circular-clause-on g c = c.in-Err-Circular.ensures.on

pub returns-in_ok-chain-in-Err-Circular-clause-solved : goal.returns-in_ok-chain-in-Err-Circular-clause-solved
returns-in_ok-chain-in-Err-Circular-clause-solved g c = λ names named.
    let before = agrees_before (program_at c.args.desk.now) c.in-Err-Circular.ensures.on.kept.made named in
    loop_for (program_at c.args.desk.now) names c.args.desk.now.frame c.args.desk.now.view c.solve_unless_noted.new.desk.view c.args.local.now c.args.next (c.requires.local names before) (c.requires.missing names before) c.args.evals.now c.solve_unless_noted.new.evals c.in-Err-Circular.on c.in-Err-Circular.chain c.in_ok-chain-in-Err-Circular.chain (subst (λ (e : AskFault). Solves (program_at c.args.desk.now) names c.args.desk.now.frame c.args.desk.now.view c.solve_unless_noted.new.desk.view (instance_by (program_at c.args.desk.now) names c.args.next) c.args.evals.now c.solve_unless_noted.new.evals (Err e)) c.in-Err-Circular.field-0-is (c.in-Err-Circular.ensures.solved names named)) c.in_ok-chain-in-Err-Circular.ensures

pub returns-in-Ok-clause-on : goal.returns-in-Ok-clause-on
returns-in-Ok-clause-on g c = c.in-Ok.ensures.on

pub returns-in-Ok-clause-solved : goal.returns-in-Ok-clause-solved
returns-in-Ok-clause-solved g c = λ names named.
    let before = agrees_before (program_at c.args.desk.now) c.in-Ok.ensures.on.kept.made named in
    settled_for (program_at c.args.desk.now) names c.args.desk.now.frame c.args.desk.now.view c.solve_unless_noted.new.desk.view c.args.local.now c.args.next (c.requires.local names before) (c.requires.missing names before) c.args.evals.now c.solve_unless_noted.new.evals refl c.requires.own (own_then c.args.desk.now c.solve_unless_noted.new.desk c.in-Ok.ensures.on) c.in-Ok.ensures.on.kept tt (c.in-Ok.ensures.solved names named) (c.in-Ok.ensures.outer refl names named)

pub returns-in-Err-CellsFull-clause-on : goal.returns-in-Err-CellsFull-clause-on
returns-in-Err-CellsFull-clause-on g c = c.in-Err-CellsFull.ensures.on

pub returns-in-Err-CellsFull-clause-solved : goal.returns-in-Err-CellsFull-clause-solved
returns-in-Err-CellsFull-clause-solved g c = λ names named.
    let before = agrees_before (program_at c.args.desk.now) c.in-Err-CellsFull.ensures.on.kept.made named in
    full_for (program_at c.args.desk.now) names c.args.desk.now.frame c.args.desk.now.view c.solve_unless_noted.new.desk.view c.args.local.now c.args.next (c.requires.local names before) (c.requires.missing names before) c.args.evals.now c.solve_unless_noted.new.evals (subst (λ (e : AskFault). Solves (program_at c.args.desk.now) names c.args.desk.now.frame c.args.desk.now.view c.solve_unless_noted.new.desk.view (instance_by (program_at c.args.desk.now) names c.args.next) c.args.evals.now c.solve_unless_noted.new.evals (Err e)) c.in-Err-CellsFull.field-0-is (c.in-Err-CellsFull.ensures.solved names named))

pub returns-in-Err-Memory-clause-on : goal.returns-in-Err-Memory-clause-on
returns-in-Err-Memory-clause-on g c = c.in-Err-Memory.ensures.on

pub returns-in-Err-Memory-clause-solved : goal.returns-in-Err-Memory-clause-solved
returns-in-Err-Memory-clause-solved g c = λ names named.
    let before = agrees_before (program_at c.args.desk.now) c.in-Err-Memory.ensures.on.kept.made named in
    memory_for (program_at c.args.desk.now) names c.args.desk.now.frame c.args.desk.now.view c.solve_unless_noted.new.desk.view c.args.local.now c.args.next (c.requires.local names before) (c.requires.missing names before) c.args.evals.now c.solve_unless_noted.new.evals (Err Memory) (c.in-Err-Memory.ensures.solved names named).claims (refl, refl)
