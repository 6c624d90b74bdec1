-- It was seen settled by each naming that agreed, so by one that agrees now.
use Rattle.equation_law.specs.Systems.{program_of}
use Rattle.memo_cells.proofs.Agreeing.{agrees_before}
use Rattle.query_replies.proofs.Answered.{open_after}
use Rattle.rag_tests.proofs.demand.ask_again.Goals as goal

pub returns-in-Ok : goal.returns-in-Ok
returns-in-Ok g c =
    let by = open_after c.args.system.now c.args.cells.now c.ask.new.pass c.requires.same c.in-Ok.ensures.own in
    record { none = ((c.in-Ok.ensures.asked _ by).known (c.requires.settled _ (agrees_before (program_of c.args.system.now) c.in-Ok.ensures.kept.made by))).1 }

pub returns : goal.returns
returns g c =
    let by = open_after c.args.system.now c.args.cells.now c.ask.new.pass c.requires.same c.in-Err.ensures.own in
    record { none = ((c.in-Err.ensures.asked _ by).known (c.requires.settled _ (agrees_before (program_of c.args.system.now) c.in-Err.ensures.kept.made by))).1 }
