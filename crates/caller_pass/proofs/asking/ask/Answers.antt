use Rattle.std.proofs.Common.{Err, subst}
use Rattle.equation_law.specs.Codes.{instance_by}
use Rattle.equation_law.specs.Systems.{program_of}
use Rattle.caller_pass.specs.declared.faults.AskFault.{AskFault}
use Rattle.caller_pass.specs.Answering.{AsksNotedByEach}
use Rattle.caller_pass.proofs.Asked.{asks_full, asks_memory, asks_value, asks_whole}
use Rattle.caller_pass.proofs.asking.ask.Goals as goal

pub returns-in-Ok-clause-asked : goal.returns-in-Ok-clause-asked
returns-in-Ok-clause-asked g c = λ names named.
    let p = program_of c.args.system.now in
    asks_value p names c.args.cells.now c.args.pass.now c.ask_alone.new.pass (instance_by p names c.args.i.now) c.args.evals.now c.ask_alone.new.evals c.in-Ok.value (c.in-Ok.ensures.asked names named)

pub returns-in-Err-Circular-clause-asked : goal.returns-in-Err-Circular-clause-asked
returns-in-Err-Circular-clause-asked g c =
    let p = program_of c.args.system.now in
    let f = c.args.cells.now in
    let w = c.ask_alone.new.pass in
    let h = subst (λ (e : AskFault). AsksNotedByEach p f c.args.pass.now w c.args.i.now c.args.evals.now c.ask_alone.new.evals (Err e)) c.in-Err-Circular.field-0-is c.in-Err-Circular.ensures.asked in
    λ names named.
    let i = instance_by p names c.args.i.now in
    asks_whole p names f c.args.pass.now w i c.args.evals.now c.ask_alone.new.evals c.in-Err-Circular.on c.in-Err-Circular.chain c.round.result (h names named) (c.round.ensures p names f w i (h names named).answer)

pub returns-in-Err-CellsFull-clause-asked : goal.returns-in-Err-CellsFull-clause-asked
returns-in-Err-CellsFull-clause-asked g c =
    let p = program_of c.args.system.now in
    let f = c.args.cells.now in
    let w = c.ask_alone.new.pass in
    let h = subst (λ (e : AskFault). AsksNotedByEach p f c.args.pass.now w c.args.i.now c.args.evals.now c.ask_alone.new.evals (Err e)) c.in-Err-CellsFull.field-0-is c.in-Err-CellsFull.ensures.asked in
    λ names named. asks_full p names f c.args.pass.now w (instance_by p names c.args.i.now) c.args.evals.now c.ask_alone.new.evals (h names named)

pub returns-in-Err-Memory-clause-asked : goal.returns-in-Err-Memory-clause-asked
returns-in-Err-Memory-clause-asked g c =
    let p = program_of c.args.system.now in
    let f = c.args.cells.now in
    let w = c.ask_alone.new.pass in
    let h = subst (λ (e : AskFault). AsksNotedByEach p f c.args.pass.now w c.args.i.now c.args.evals.now c.ask_alone.new.evals (Err e)) c.in-Err-Memory.field-0-is c.in-Err-Memory.ensures.asked in
    λ names named. asks_memory p names f c.args.pass.now w (instance_by p names c.args.i.now) c.args.evals.now c.ask_alone.new.evals (h names named)
