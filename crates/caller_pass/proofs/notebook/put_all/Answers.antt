use Rattle.std.proofs.Common.{inr, ⊎_elim, subst, sym}
use Rattle.equation_law.specs.declared.coding.Instance.{Instance as CodedInstance}
use Rattle.memo_cells.specs.Views.{Has}
use Rattle.caller_pass.proofs.Noted.{has_at}
use Rattle.caller_pass.proofs.notebook.put_all.Goals as goal

pub loop-one-preserved : goal.loop-one-preserved
loop-one-preserved c i there = ⊎_elim
    (λ before. c.loop-one.invariant i before)
    (λ same. inr (subst (λ (j : CodedInstance). Has c.args.more.now j) (sym same) (has_at c.args.more.now c.loop-one.one-index _ c.loop-one-test.true)))
    (c.put.ensures i there)
