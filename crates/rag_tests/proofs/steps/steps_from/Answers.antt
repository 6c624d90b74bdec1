use Rattle.std.proofs.Common.{ap, sym, ◌∙◌}
use Rattle.equation_law.specs.declared.coding.Instance.TheVariants.{Attr as attribute_at}
use Rattle.equation_law.specs.Systems.{program_of}
use Rattle.equation_law.proofs.Grown.{each_instance}
use Rattle.rag_tests.specs.declared.steps.Counting.{Counting}
use Rattle.rag_tests.specs.Counting.{told_by}
use Rattle.rag_tests.proofs.Counting.{counting_sound}
use Rattle.rag_tests.proofs.steps.steps_from.Goals as goal

pub find_equation-requires-clause-sound : goal.find_equation-requires-clause-sound
find_equation-requires-clause-sound c = counting_sound c.makers-makers.result.now (program_of c.args.system.now) (ap program_of (sym (ap (λ T. T.system) c.makers-makers.ensures ∙ c.in_ok-table.ensures.made))) c.len.ensures.trees

pub find_equation-requires-clause-known : goal.find_equation-requires-clause-known
find_equation-requires-clause-known c = each_instance (told_by {S = Counting} c.makers-makers.result.now) (λ k. tt) (program_of c.args.system.now) (attribute_at (record { 0 = 2 }) c.in-Some.node c.none.result)
