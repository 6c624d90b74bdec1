use Rattle.std.proofs.Common.{◌≡◌, ◌+◌, ◌++◌, ℕ, length}
use Rattle.superclasses.specs.Superclasses.{line_up, line_of}
use Rattle.superclasses.proofs.subclasses.line_of.Given as goal

-- what was pushed, and the rest of the line
abbrev pub invariant-loop : goal.invariant-loop
invariant-loop l = (m : ℕ) → m + l.counter ≡ length l.superclasses → l.line.items ++ line_up m l.superclasses l.above ≡ line_of l.superclasses l.class
