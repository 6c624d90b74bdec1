use Rattle.caller_pass.proofs.Desks.{settled_at}
use Rattle.caller_pass.proofs.desk.DeskReader.settled.Goals as goal

pub returns : goal.returns
returns c = settled_at c.args.self.now c.known_value.new.self c.args.i.now c.known_value.result c.known_value.ensures.on c.known_value.ensures.known
