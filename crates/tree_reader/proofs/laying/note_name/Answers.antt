use Rattle.std.proofs.Common.{not, ap}
use Rattle.broken_rules.proofs.Noting.{notes_if, notes_then}
use Rattle.tree_reader.proofs.laying.note_name.Goals as goal

pub returns : goal.returns
returns c = notes_then (notes_if _ _ _ (ap not c.is_concrete.ensures) c.note_if.ensures) c.note_if-2.ensures
