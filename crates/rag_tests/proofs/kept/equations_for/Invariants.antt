-- The targets so far.
use Rattle.std.proofs.Common.{◌≡◌, map, take}
use Rattle.attr_equations.specs.KeptEquations.{kept_target}
use Rattle.rag_tests.proofs.kept.equations_for.Given as goal

abbrev pub invariant-loop-target : goal.invariant-loop-target
invariant-loop-target l = map kept_target l.equations.items ≡ take l.target-index l.targets
