use Rattle.std.proofs.Common.{rules}
use Rattle.std.proofs.lemmas.Int.{wraps}
use Rattle.collection_attrs.proofs.combining.added.Goals as goal

pub returns : goal.returns
returns c = search (rules, wraps)
