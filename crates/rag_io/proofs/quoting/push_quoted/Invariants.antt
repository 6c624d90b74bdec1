use Rattle.std.proofs.Common.{◌≡◌, ◌++◌, take}
use Rattle.std.specs.List.{flat_map}
use Rattle.rag_io.specs.Quoting.{escaped}
use Rattle.rag_io.proofs.quoting.push_quoted.Given as goal

abbrev pub invariant-bytes : goal.invariant-bytes
invariant-bytes l = l.into.items ≡ l.initial.into.items ++ flat_map escaped (take l.b-index l.text)
