use Rattle.std.proofs.Common.{◌≡◌, ◌++◌, ◌-◌, reverse}
use Rattle.tree_writer.specs.Parts.{arguments_from, listed}
use Rattle.tree_writer.proofs.parts.push_arguments.Given as goal

-- the arguments from the k-th on are on the stack
abbrev pub invariant-arguments : goal.invariant-arguments
invariant-arguments l = reverse l.stack.items ≡ listed (arguments_from l.n l.k (l.count - l.k)) ++ reverse l.initial.stack.items
