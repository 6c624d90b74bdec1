-- The keys so far.
use Rattle.std.proofs.Common.{◌≡◌, map, take}
use Rattle.attr_equations.specs.Offered.{key_of}
use Rattle.attr_equations.proofs.offered.keys_of.Given as goal

abbrev pub invariant-loop-number : goal.invariant-loop-number
invariant-loop-number l = l.keys.items ≡ map key_of (take l.number l.contributions)
