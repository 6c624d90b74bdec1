use Rattle.aspect_limits.proofs.NotedLong.{token_noted}
use Rattle.aspect_limits.proofs.limits.note_token.Goals as goal

pub returns-in-Some-Some : goal.returns-in-Some-Some
returns-in-Some-Some c =
    let found = c.in-Some-Some.ensures.lookup in
    token_noted c.args.tokens.now c.args.at c.in-Some-Some.count c.in-Some-Some.token.now c.place_of.result c.args.inside found.3.0 found.1
    c.place_of.ensures c.in-Some-Some.is-0 c.note_if.ensures
