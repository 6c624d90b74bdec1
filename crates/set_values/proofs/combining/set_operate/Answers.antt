use Rattle.std.proofs.Common.{◌≡◌, true, false, [], ap, refl, sym, ◌∙◌, inl, inr}
use Rattle.equation_law.specs.Codes.{source_names, value_by}
use Rattle.equation_law.specs.Systems.{program_of}
use Rattle.equation_law.specs.Values as spec
use Rattle.set_values.proofs.Coded.{holds_made}
use Rattle.set_values.proofs.Known.{bare_codes, is_bare, nodes_within}
use Rattle.set_values.proofs.NodeCodes.{IsNode, made_nodes}
use Rattle.set_values.proofs.Operators.{at_kind, from_either}
use Rattle.set_values.proofs.TextCodes.{IsKnown, first_text_by, made_texts_by}
use Rattle.set_values.proofs.combining.set_operate.Goals as goal

pub returns-in_ok-codes-in-Texts-clause-value : goal.returns-in_ok-codes-in-Texts-clause-value
returns-in_ok-codes-in-Texts-clause-value c = λ system good other n h.
    let p = program_of system in
    let made = made_texts_by system h c.args.operator c.into_texts.result c.into_texts-in-Texts.result c.in_ok-codes-in-Texts.codes (c.into_texts.ensures.elements p good) (c.into_texts-in-Texts.ensures.elements p other) c.in_ok-codes-in-Texts.ensures in
    let left = c.into_texts.ensures.texts n in
    let right = c.into_texts-in-Texts.ensures.texts n in
    ap spec.Texts made ∙ (λ i. spec.Texts (spec.combined c.args.operator (left i) (right i))) ∙ ap (λ k. spec.set_operate c.args.operator k (value_by n c.args.left) (value_by n c.args.right)) (sym c.in-Texts.is)

pub returns-in_ok-codes-in-Texts-clause-elements :
    goal.returns-in_ok-codes-in-Texts-clause-elements
returns-in_ok-codes-in-Texts-clause-elements c = λ system good other.
    let p = program_of system in
    holds_made (IsKnown system) c.args.operator c.into_texts.result c.into_texts-in-Texts.result c.in_ok-codes-in-Texts.codes (c.into_texts.ensures.elements p good) (c.into_texts-in-Texts.ensures.elements p other) c.in_ok-codes-in-Texts.ensures

pub returns-in_ok-codes-in-Nodes-clause-value : goal.returns-in_ok-codes-in-Nodes-clause-value
returns-in_ok-codes-in-Nodes-clause-value c = λ system good other n h.
    let p = program_of system in
    let made = made_nodes n.node h.one_code c.args.operator c.into_nodes.result c.into_nodes-in-Nodes.result c.in_ok-codes-in-Nodes.codes (c.into_nodes.ensures.elements p good) (c.into_nodes-in-Nodes.ensures.elements p other) c.in_ok-codes-in-Nodes.ensures in
    let left = c.into_nodes.ensures.nodes n in
    let right = c.into_nodes-in-Nodes.ensures.nodes n in
    ap spec.Nodes made ∙ (λ i. spec.Nodes (spec.combined c.args.operator (left i) (right i))) ∙ ap (λ k. spec.set_operate c.args.operator k (value_by n c.args.left) (value_by n c.args.right)) (sym c.in-Nodes.is)

pub returns-in_ok-codes-in-Nodes-clause-elements :
    goal.returns-in_ok-codes-in-Nodes-clause-elements
returns-in_ok-codes-in-Nodes-clause-elements c = λ system good other.
    let p = program_of system in
    holds_made IsNode c.args.operator c.into_nodes.result c.into_nodes-in-Nodes.result c.in_ok-codes-in-Nodes.codes (c.into_nodes.ensures.elements p good) (c.into_nodes-in-Nodes.ensures.elements p other) c.in_ok-codes-in-Nodes.ensures

pub returns-in-Truth : goal.returns-in-Truth
returns-in-Truth c =
    let same : (v w : spec.Value) → spec.default_of c.args.kind ≡ spec.set_operate c.args.operator c.args.kind v w = λ v w.
    elim c.in-Truth.is [
      | inl e ↦ at_kind c.args.operator e v w refl
      | inr r ↦ elim r [
        | inl e ↦ at_kind c.args.operator e v w refl
        | inr q ↦ elim q [
          | inl e ↦ at_kind c.args.operator e v w refl
          | inr n ↦ at_kind c.args.operator n.1 v w refl
        ]
      ]
    ] in
    let bare : is_bare (spec.default_of c.args.kind) ≡ true = elim c.in-Truth.is [
      | inl e ↦ ap (λ k. is_bare (spec.default_of k)) e
      | inr r ↦ elim r [
        | inl e ↦ ap (λ k. is_bare (spec.default_of k)) e
        | inr q ↦ elim q [
          | inl e ↦ ap (λ k. is_bare (spec.default_of k)) e
          | inr n ↦ ap (λ k. is_bare (spec.default_of k)) n.1
        ]
      ]
    ] in
    record {
      value = λ system good other n h. c.default_of.ensures.value n (first_text_by system h) ∙ same (value_by n c.args.left) (value_by n c.args.right);
      elements = λ system good other. c.default_of.ensures.elements (program_of system);
      nodes = λ system good other k some e.
          let by = source_names (λ x. []) in
          let none = bare_codes by c.default_of.result (ap is_bare (c.default_of.ensures.value by refl) ∙ bare) k some in
          absurd (let both : false ≡ true = sym none ∙ e in cc);
    }

pub returns-in_ok-codes-in-Nodes-clause-nodes : goal.returns-in_ok-codes-in-Nodes-clause-nodes
returns-in_ok-codes-in-Nodes-clause-nodes c = λ system good other k some e.
    let p = program_of system in
    let left = c.into_nodes.ensures in
    let right = c.into_nodes-in-Nodes.ensures in
    let by = source_names (λ x. []) in
    elim (from_either c.args.operator _ _ (sym (c.in_ok-codes-in-Nodes.ensures.members k) ∙ e)) [
      | inl h ↦ inl (nodes_within p c.args.left c.into_nodes.result (left.nodes by) (left.elements p good) good k h)
      | inr h ↦ inr (nodes_within p c.args.right c.into_nodes-in-Nodes.result (right.nodes by) (right.elements p other) other k h)
    ]
