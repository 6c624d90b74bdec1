-- What the equations so far break, and what they say.
use Rattle.std.proofs.Common.{◌≡◌, length, map, take}
use Rattle.std.specs.List.{flat_map}
use Rattle.broken_rules.specs.Notes.{Notes}
use Rattle.attr_equations.specs.KeptEquations.{equation_in}
use Rattle.attr_types.specs.Phases.{equation_broken, equation_of}
use Rattle.attr_scope.specs.Seen.{seen_given}
use Rattle.attr_types.proofs.equations.type_equations.Given as goal

abbrev pub invariant-loop-equation : goal.invariant-loop-equation
invariant-loop-equation l = record {
  noted : Notes (flat_map (equation_broken l.grammar l.attributes.attributes) (take (length l.yielded) (map seen_given l.equations))) l.initial.faults l.faults;
  says : map equation_in l.list.items ≡ map (equation_of l.grammar l.attributes.attributes) (take (length l.yielded) (map seen_given l.equations));
}
