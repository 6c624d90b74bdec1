-- The attributes so far.
use Rattle.std.proofs.Common.{◌≡◌, map, take}
use Rattle.attr_equations.specs.Kept.{rules_in}
use Rattle.attr_rules.specs.Types.{truth_kind}
use Rattle.memo_cells.proofs.truths.truths_of_attributes.Given as goal

abbrev pub invariant-loop-number : goal.invariant-loop-number
invariant-loop-number l = l.list.items ≡ map (λ x. truth_kind x.declared.kind) (take l.number (rules_in l.rules).attributes)
