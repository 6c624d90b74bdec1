-- The queries so far.
use Rattle.std.proofs.Common.{◌≡◌, map, take}
use Rattle.attr_rules.specs.Types.{truth_kind}
use Rattle.equation_law.specs.Systems.{program_of}
use Rattle.memo_cells.proofs.truths.truths_of_queries.Given as goal

abbrev pub invariant-loop-query : goal.invariant-loop-query
invariant-loop-query l = l.list.items ≡ map (λ q. truth_kind q.kind) (take l.query (program_of l.system).queries)
