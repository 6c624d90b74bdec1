use Rattle.std.proofs.Common.{◌≡◌, ◌-◌, ◌/◌, ◌^◌, List, Bool, get_or, true, ap, subst, ◌∙◌}
use Rattle.attr_rules.specs.Types.{truth_kind}
use Rattle.equation_law.specs.Equations.{kind_in}
use Rattle.equation_law.specs.Systems.{program_of}
use Rattle.memo_cells.specs.declared.view.Frame.{Frame}
use Rattle.memo_cells.proofs.Gathered.{first_attribute, first_kind, first_query}
use Rattle.memo_cells.proofs.cells.Cells.is_of_truth.Goals as goal

pub overflow_sub-word : goal.overflow_sub-word
overflow_sub-word c = first_kind c.requires.cell.0 c.first_key-word.result (c.first_key-word.ensures.first c.requires.cell.0 c.requires.cell.1)

pub returns-then-word-clause-truth : goal.returns-then-word-clause-truth
returns-then-word-clause-truth c = λ i cell.
    subst (λ (f : Frame). c.truth_at.result ≡ truth_kind (kind_in (program_of f.system.value) i)) c.self.view_is
    (c.truth_at.ensures ∙ ap (λ (l : List Bool). get_or l ((c.first_key-word.result - 2 ^ 61) / 2 ^ 32) true) c.deref.ensures.value ∙ first_attribute (program_of c.self.inside.system.value) c.self.inside.attributes.items c.self.inside.queries.items c.self.invariant.1 i c.first_key-word.result (c.first_key-word.ensures.first i cell) c.if-word.true)

pub returns-else-word-clause-truth : goal.returns-else-word-clause-truth
returns-else-word-clause-truth c = λ i cell.
    subst (λ (f : Frame). c.truth_at-else-word.result ≡ truth_kind (kind_in (program_of f.system.value) i)) c.self.view_is
    (c.truth_at-else-word.ensures ∙ ap (λ (l : List Bool). get_or l (c.first_key-word.result - 2 ^ 63) true) c.deref-else-word.ensures.value ∙ first_query (program_of c.self.inside.system.value) c.self.inside.attributes.items c.self.inside.queries.items c.self.invariant.1 i c.first_key-word.result (c.first_key-word.ensures.first i cell) c.if-word.false)
