use Rattle.attr_rules.proofs.KeptPaths.{kept_now}
use Rattle.attr_rules.proofs.covering.keep_first.Goals as goal

pub returns-in-Ok : goal.returns-in-Ok
returns-in-Ok c = kept_now c.args.key c.args.equation c.args.named.now c.insert.new.self c.contains_key.ensures c.if-contains_key.false c.in-Ok.ensures.updates
