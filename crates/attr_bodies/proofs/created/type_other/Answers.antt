use Rattle.broken_rules.proofs.Noting.{notes_then}
use Rattle.attr_bodies.proofs.created.type_other.Goals as goal

pub returns-clause-noted : goal.returns-clause-noted
returns-clause-noted c = notes_then c.in_ok-said.ensures.noted (rw c.place_of.ensures at c.note.ensures)
