use Rattle.caller_pass.proofs.Noted.{put_more}
use Rattle.caller_pass.proofs.notebook.put.Goals as goal

pub returns : goal.returns
returns c = put_more c.args.among.now c.insert-put.new.self c.args.one c.insert-put.result c.insert-put.ensures.updates c.insert-put.ensures.err
