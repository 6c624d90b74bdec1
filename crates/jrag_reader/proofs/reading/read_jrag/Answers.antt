use Rattle.jrag_reader.proofs.Taken.{end_taken, items_taken, items_there}
use Rattle.jrag_reader.proofs.reading.read_jrag.Goals as goal

pub unreachable-requires : goal.unreachable-requires
unreachable-requires c =
    let held = c.in_ok-parts.ensures.reads in
    items_there held (end_taken held c.pop_token-end.result _ c.pop_token-end.ensures) c.in-Err.field-0 _ c.in-Err.ensures

pub returns-clause-says : goal.returns-clause-says
returns-clause-says c =
    let held = c.in_ok-parts.ensures.reads in
    items_taken held (end_taken held c.pop_token-end.result _ c.pop_token-end.ensures) c.in-Ok.items _ c.in-Ok.ensures
