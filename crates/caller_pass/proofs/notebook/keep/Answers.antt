use Rattle.caller_pass.proofs.Noted.{kept_more}
use Rattle.caller_pass.proofs.notebook.keep.Goals as goal

pub returns : goal.returns
returns c = kept_more c.args.sets.now c.insert-noted.new.self c.args.i c.args.value c.insert-noted.result c.insert-noted.ensures.updates c.insert-noted.ensures.err
