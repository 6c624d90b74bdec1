-- The contributions so far.
use Rattle.std.proofs.Common.{◌≡◌, take}
use Rattle.std.specs.List.{count_by}
use Rattle.program_reader.specs.Built.{is_contributed}
use Rattle.program_reader.proofs.files.contributions.Given as goal

abbrev pub invariant-loop-item : goal.invariant-loop-item
invariant-loop-item l = l.count ≡ count_by is_contributed (take l.item-index l.items)
