use Rattle.std.proofs.Common.{ap, subst, sym, ◌∙◌, inl, inr}
use Rattle.equation_law.specs.Codes.{AreElements, value_by}
use Rattle.equation_law.specs.Systems.{program_of}
use Rattle.equation_law.specs.Values.{size_of}
use Rattle.set_values.proofs.NodeCodes.{size_nodes}
use Rattle.set_values.proofs.TextCodes.{size_texts_by}
use Rattle.set_values.proofs.members.count.Goals as goal

pub returns-in-Texts : goal.returns-in-Texts
returns-in-Texts c = λ system good n h.
    let p = program_of system in
    let codes = c.in-Texts.codes in
    c.len.ensures.len
    ∙ elim c.in-Texts.is [
      | inl e ↦ sym (size_texts_by system h codes c.len.ensures.rises (subst (AreElements p) e good)) ∙ ap (λ v. size_of (value_by n v)) (sym e)
      | inr e ↦ sym (size_nodes n.node h.one_code codes c.len.ensures.rises (subst (AreElements p) e good)) ∙ ap (λ v. size_of (value_by n v)) (sym e)
    ]
