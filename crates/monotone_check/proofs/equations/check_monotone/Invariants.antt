-- What the equations so far break.
use Rattle.std.proofs.Common.{take}
use Rattle.std.specs.List.{flat_map}
use Rattle.attr_equations.specs.Kept.{rules_in}
use Rattle.broken_rules.specs.Notes.{Notes}
use Rattle.monotone_check.specs.Equations.{equation_broken}
use Rattle.monotone_check.proofs.equations.check_monotone.Given as goal

abbrev pub invariant-loop-number : goal.invariant-loop-number
invariant-loop-number l = Notes (flat_map (equation_broken (rules_in l.rules)) (take l.number (rules_in l.rules).equations)) l.initial.faults l.faults
