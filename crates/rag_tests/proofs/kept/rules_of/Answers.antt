-- There is an equation for each target, and no contribution.
use Rattle.rag_tests.proofs.Contributed.{behind_targets}
use Rattle.rag_tests.proofs.kept.rules_of.Goals as goal

pub of_parts-requires-clause-numbered : goal.of_parts-requires-clause-numbered
of_parts-requires-clause-numbered c = behind_targets c.in_ok-equations.equations.items c.args.targets.now c.new.result.items c.in_ok-equations.ensures c.in_ok-dispatch.ensures.numbered c.new.ensures.items
