use Rattle.std.proofs.Common.{◌≡◌, false, OnErr, subst}
use Rattle.attr_rules.specs.Rules.{is_single}
use Rattle.equation_law.specs.Equations.{kind_in}
use Rattle.equation_law.specs.Names.{Instance}
use Rattle.memo_cells.specs.Keys.{set_word}
use Rattle.memo_cells.specs.Naming.{IsCellOf}
use Rattle.memo_cells.specs.Views.{IsFull}
use Rattle.memo_cells.specs.Working.{Held, program_at}
use Rattle.caller_pass.proofs.Keeping.{notes_later}
use Rattle.caller_pass.proofs.desk.DeskWork.raise.Goals as goal

pub invariant_of-self : goal.invariant_of-self
invariant_of-self c = ((c.raise.ensures.own, notes_later c.self.inside.system.now c.self.inside.pass.now c.raise.new.pass c.self.inside.notes c.raise.ensures.kept c.self.invariant.0.1), c.self.invariant.1)

pub returns-clause-full : goal.returns-clause-full
returns-clause-full c = subst (λ (d : Held). OnErr c.raise.result (IsFull d.frame c.raise.new.pass (set_word c.args.slot.0 c.args.word))) c.self.view_is c.raise.ensures.full

pub returns-clause-set : goal.returns-clause-set
returns-clause-set c = subst (λ (d : Held). OnErr c.raise.result ((i : Instance) → IsCellOf (program_at d) d.frame c.raise.new.pass i c.args.slot.0 → is_single (kind_in (program_at d) i) ≡ false)) c.self.view_is c.raise.ensures.set
