use Rattle.std.proofs.Common.{length-take-le, ◌∙◌, sym, arith}
use Rattle.token_texts.proofs.Quoted.{quoted_front_seen, quoted_tokens}
use Rattle.jrag_reader.proofs.Refused.{first_refuses, stops_inside}
use Rattle.jrag_reader.proofs.reading.first_broken.Goals as goal

pub slice_bounds-before-end : goal.slice_bounds-before-end
slice_bounds-before-end c =
    let inside = stops_inside c.args.start c.args.pool.now c.args.tokens.now c.args.fault c.args.sentence.now c.requires.stops c.token_count.result
    c.token_count.ensures in
    omega (arith, inside, length-take-le c.token_count.result c.args.tokens.now (omega (arith, inside)))

pub pool_texts-requires : goal.pool_texts-requires
pool_texts-requires c = quoted_front_seen c.args.tokens.now (quoted_tokens c.requires.tokens) c.token_count.result

pub returns-clause-first : goal.returns-clause-first
returns-clause-first c =
    first_refuses c.args.start c.args.pool.now c.args.tokens.now c.args.fault c.args.sentence.now c.requires.stops c.token_count.result
    c.token_count.ensures c.in-Err.why c.new-broken.ensures c.note.ensures c.in_ok-pool_texts.ensures.noted c.note_long.ensures
    (sym c.in-Err.is ∙ c.answer.ensures)
