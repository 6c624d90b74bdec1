-- The arguments so far, and those that are left, are all.
use Rattle.std.proofs.Common.{◌≡◌, ◌++◌, length, map}
use Rattle.attr_rules.specs.Types.{parameter_kinds}
use Rattle.equation_law.specs.Codes.{IsRow, Naming, arguments_by, codes_in, single_by}
use Rattle.equation_law.specs.Values.{argument_value}
use Rattle.expr_eval.proofs.binding.push_arguments.Given as goal

abbrev pub invariant-loop-kind : goal.invariant-loop-kind
invariant-loop-kind l = record {
  row : IsRow l.given;
  all : (n : Naming) → map (single_by n) l.names.items ++ map argument_value (arguments_by n (parameter_kinds l.wanted) (codes_in l.given)) ≡ map (single_by n) l.fn.names.items ++ map argument_value (arguments_by n (parameter_kinds l.fn.parameters) (codes_in l.fn.args));
}

abbrev pub decreases-loop-kind : goal.decreases-loop-kind
decreases-loop-kind l = length (codes_in l.given)
