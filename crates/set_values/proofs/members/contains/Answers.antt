use Rattle.std.proofs.Common.{ℕ, List, ap, map, sym, ◌∙◌}
use Rattle.equation_law.specs.Codes.{value_by}
use Rattle.equation_law.specs.Names.{text_cmp}
use Rattle.equation_law.specs.Sets.{has, set_of}
use Rattle.equation_law.specs.Systems.{program_of}
use Rattle.equation_law.specs.Values as spec
use Rattle.set_values.specs.CodedSets.{nodes_set}
use Rattle.set_values.proofs.TextCodes.{first_text_by}
use Rattle.set_values.proofs.members.contains.Goals as goal

pub returns-in-Texts : goal.returns-in-Texts
returns-in-Texts c = λ n h.
    let system = c.args.system.now in
    let codes = c.in-Texts.codes in
    let named = λ (f : ℕ → List ℕ). has (set_of {R = text_cmp} (map f codes)) (f c.text.result.0) in
    c.has_text.ensures
    ∙ ap named (sym h.texts)
    ∙ ap (has (set_of {R = text_cmp} (map n.text codes))) (c.text.ensures n (first_text_by system h))
    ∙ ap (λ v. spec.contains (value_by n v) (value_by n c.args.element.now)) (sym c.in-Texts.is)

pub returns-in-Nodes : goal.returns-in-Nodes
returns-in-Nodes c = λ n h.
    let system = c.args.system.now in
    let codes = c.in-Nodes.codes in
    c.has_node.ensures (program_of system) n h
    ∙ ap (spec.has_node (nodes_set n.node codes)) (c.node.ensures n)
    ∙ ap (λ v. spec.contains (value_by n v) (value_by n c.args.element.now)) (sym c.in-Nodes.is)
