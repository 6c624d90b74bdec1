use Rattle.std.proofs.Common.{◌≡◌, ◌+◌, ℕ, length}
use Rattle.std.specs.List.{find}
use Rattle.superclasses.specs.Superclasses.{is_sub, line_up, nearest_common, superclass_of}
use Rattle.superclasses.proofs.subclasses.Subclasses.nearest_common.Given as goal

-- the first class is still to come
abbrev pub invariant-loop : goal.invariant-loop
invariant-loop l = (m : ℕ) → m + l.counter ≡ length l.self → find (is_sub l.self l.second) (line_up m l.self (superclass_of l.self l.class)) ≡ nearest_common l.self l.first l.second
