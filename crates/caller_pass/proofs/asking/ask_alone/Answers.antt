use Rattle.caller_pass.proofs.asking.ask_alone.Goals as goal

pub ask_noted-requires-clause-notes : goal.ask_noted-requires-clause-notes
ask_noted-requires-clause-notes g c = c.new-notes.ensures c.args.pass.now
