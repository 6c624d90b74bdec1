use Rattle.attr_heads.proofs.InheritedNoted.{kept_more}
use Rattle.attr_heads.proofs.inheriting.Inheriting.insert.Goals as goal

pub returns-in-Ok : goal.returns-in-Ok
returns-in-Ok c = kept_more c.args.self.now.heads c.insert.new.self c.args.name.now c.args.head c.contains_key.ensures c.if-contains_key.false c.in-Ok.ensures.updates
