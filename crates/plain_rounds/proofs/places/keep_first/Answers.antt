use Rattle.plain_rounds.proofs.Kept.{kept_before, kept_now}
use Rattle.plain_rounds.proofs.places.keep_first.Goals as goal

pub returns-then-contains_key : goal.returns-then-contains_key
returns-then-contains_key c = kept_before c.args.map.now c.args.name c.args.place c.contains_key.result c.contains_key.ensures c.if-contains_key.true

pub returns-in-Ok : goal.returns-in-Ok
returns-in-Ok c = kept_now c.args.map.now c.insert.new.self c.args.name c.args.place c.contains_key.result c.contains_key.ensures c.if-contains_key.false c.in-Ok.ensures.updates
