use Rattle.std.proofs.Common.{◌≡◌, false, OnErr, subst}
use Rattle.attr_rules.specs.Rules.{is_single}
use Rattle.equation_law.specs.Equations.{kind_in}
use Rattle.equation_law.specs.Names.{Instance}
use Rattle.memo_cells.specs.Keys.{set_word}
use Rattle.memo_cells.specs.Naming.{IsCellOf}
use Rattle.memo_cells.specs.Views.{IsFull}
use Rattle.memo_cells.specs.Working.{Held, program_at}
use Rattle.rag_tests.proofs.sweeps.CountingWork.raise.Goals as goal

pub returns-clause-full : goal.returns-clause-full
returns-clause-full c = subst (λ (d : Held). OnErr c.raise.result (IsFull d.frame c.raise.new.self.view (set_word c.args.slot.0 c.args.word))) c.self.view_is c.raise.ensures.full

pub returns-clause-set : goal.returns-clause-set
returns-clause-set c = subst (λ (d : Held). OnErr c.raise.result ((i : Instance) → IsCellOf (program_at d) d.frame c.raise.new.self.view i c.args.slot.0 → is_single (kind_in (program_at d) i) ≡ false)) c.self.view_is c.raise.ensures.set
