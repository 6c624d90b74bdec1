use Rattle.caller_pass.proofs.Keeping.{notes_begin}
use Rattle.caller_pass.proofs.notebook.Notebook.new.Goals as goal

pub returns : goal.returns
returns c = notes_begin c.args.system.now _ c.of.ensures c.new.ensures.empty c.new-2.ensures.empty c.new-5.ensures
