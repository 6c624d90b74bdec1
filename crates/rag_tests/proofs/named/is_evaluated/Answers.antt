use Rattle.equation_law.specs.Systems.{program_of}
use Rattle.rag_tests.specs.Nothing.{nothing}
use Rattle.rag_tests.specs.declared.forms.Nothing.{Nothing}
use Rattle.rag_tests.proofs.Sites.{each_target}
use Rattle.rag_tests.proofs.Unmade.{nothing_sound, readable}
use Rattle.rag_tests.proofs.named.is_evaluated.Goals as goal

pub evaluate-turn-requires-clause-sound : goal.evaluate-turn-requires-clause-sound
evaluate-turn-requires-clause-sound c = nothing_sound (program_of c.args.system.now) (readable (program_of c.args.system.now) c.requires)

pub evaluate-turn-requires-clause-known : goal.evaluate-turn-requires-clause-known
evaluate-turn-requires-clause-known c = let p = program_of c.args.system.now in each_target (nothing {S = Nothing} p) (λ k. tt) p _
