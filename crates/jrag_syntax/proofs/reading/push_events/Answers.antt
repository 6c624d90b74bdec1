use Rattle.jrag_syntax.proofs.Read.{says_events, stops_with}
use Rattle.jrag_syntax.proofs.reading.push_events.Goals as goal

pub returns-in-Ok : goal.returns-in-Ok
returns-in-Ok c = says_events c.args.start c.in-Ok.ensures

pub returns-in-Err-At : goal.returns-in-Err-At
returns-in-Err-At c =
    let stopped = rw c.in-Err-At.field-0-is at c.in-Err-At.ensures in
    stops_with c.args.start c.args.tokens.now c.in-Err-At.number _ c.broken_at.result stopped.0 stopped.1 c.broken_at.ensures.place c.broken_at.ensures.rule
