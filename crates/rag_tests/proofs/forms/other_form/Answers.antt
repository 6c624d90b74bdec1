use Rattle.equation_law.specs.Systems.{program_of}
use Rattle.rag_tests.proofs.Unmade.{nothing_sound, readable_alone}
use Rattle.rag_tests.proofs.forms.other_form.Goals as goal

pub evaluate_query-requires-clause-sound : goal.evaluate_query-requires-clause-sound
evaluate_query-requires-clause-sound c = nothing_sound (program_of c.args.system.now) (readable_alone (program_of c.args.system.now) c.requires)
