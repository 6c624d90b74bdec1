use Rattle.std.proofs.Common.{inl, inr, ap, sym, ◌∙◌}
use Rattle.collection_attrs.specs.Walks.{Walk}
use Rattle.caller_pass.specs.declared.walks.Walked.{Walked}
use Rattle.caller_pass.specs.Keeping.{IsWalkOf}
use Rattle.caller_pass.proofs.walks.Walks.put.Goals as goal

pub invariant_of-self : goal.invariant_of-self
invariant_of-self c = λ k w is. elim (c.keep.ensures k w is) as (λ s. IsWalkOf k w) [
  | inl old ↦ c.self.invariant k w old
  | inr same ↦ record {
    attribute = ap (λ (x : Walk). x.attribute) same.1 ∙ sym c.attr.ensures ∙ sym (ap (λ (x : Walked). x.attr.0) same.0);
    root = ap (λ (x : Walk). x.root) same.1 ∙ sym c.root.ensures ∙ sym (ap (λ (x : Walked). x.root) same.0);
  }
]
