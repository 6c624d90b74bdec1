use Rattle.std.proofs.Common.{ap, ◌∙◌}
use Rattle.superclasses.specs.Superclasses.{is_above}
use Rattle.superclasses.specs.Rows.{rows_mark}
use Rattle.superclasses.proofs.Lines.{sub_marked}
use Rattle.superclasses.proofs.subclasses.Subclasses.is_sub.Goals as goal

pub returns-else-class-above-clause-meaning : goal.returns-else-class-above-clause-meaning
returns-else-class-above-clause-meaning c =
    let a = c.args.class in
    let b = c.args.above in
    sub_marked _ a b c.if-class-above.false (c.is_marked.ensures ∙ ap (λ rows. rows_mark rows a b) c.deref.ensures.value ∙ c.self.invariant.mark a b ∙ ap (λ s. is_above s a b) c.self.view_is)
