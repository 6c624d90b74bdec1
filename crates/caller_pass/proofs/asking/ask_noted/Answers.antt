use Rattle.equation_law.specs.Systems.{program_of}
use Rattle.caller_pass.proofs.Asked.{may_note}
use Rattle.caller_pass.proofs.Keeping.{notes_after}
use Rattle.caller_pass.proofs.asking.ask_noted.Goals as goal

pub returns-clause-notes : goal.returns-clause-notes
returns-clause-notes g c =
    let s = c.args.system.now in
    let w = c.ask_at-came.new.pass in
    notes_after s w c.ask_at-came.result.1 c.note_loops.new.notes c.ask_at-came.result.0
    (may_note (program_of s) c.args.cells.now c.args.pass.now w c.args.i.now c.args.evals.now c.ask_at-came.new.evals c.ask_at-came.result.0 c.ask_at-came.ensures.asked) c.note_loops.ensures c.ask_at-came.ensures.notes
