-- The groups that there have to be for the contributions so far.
use Rattle.std.proofs.Common.{map, take}
use Rattle.groups.specs.Groups.{AreWithin}
use Rattle.attr_equations.specs.Offered.{key_of}
use Rattle.attr_equations.proofs.offered.groups_for.Given as goal

abbrev pub invariant-loop-number : goal.invariant-loop-number
invariant-loop-number l = AreWithin (map key_of (take l.number l.contributions)) l.groups
