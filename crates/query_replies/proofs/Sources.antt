-- Where a program makes nothing, the nodes in a value are source nodes.
use Rattle.std.proofs.Common.{◌≡◌, true, sym, ap, subst}
use Rattle.ast_grammar.specs.declared.grammar.ClassId.{ClassId}
use Rattle.attr_rules.specs.declared.kinds.Kind.{Kind}
use Rattle.equation_law.specs.Checked.{HasSourcesAlone, IsNodeOf, IsValue, at, int, node, nodes, null, text, texts, tree, truth}
use Rattle.equation_law.specs.Names.{At, NodeName, Reference}
use Rattle.equation_law.specs.Program.{Program}
use Rattle.equation_law.specs.Values.{Value}
use Rattle.equation_law.proofs.Tied.{never_makes, source_alone}
use Rattle.query_lang.specs.Named.{AreSources, IsSource, source}
use Rattle.query_lang.specs.Named.{null as no_node}

module _ (p : Program) (bare : HasSourcesAlone p) where
  reference_source : (d : ClassId) (r : Reference) → IsNodeOf p d r → IsSource p r
  reference_source d _ null = no_node
  reference_source d _ (at {n = x} a) = let its = source_alone p bare x a.there in subst (λ (y : NodeName). IsSource p (At y)) (sym its.2) (source its.1)

  pub value_sources : (k : Kind) (v : Value) → IsValue p k v → AreSources p v
  value_sources _ _ (truth b) = tt
  value_sources _ _ (int z h) = tt
  value_sources _ _ (text t h) = tt
  value_sources _ _ (node c r h) = reference_source c r h
  value_sources _ _ (texts s h) = tt
  value_sources _ _ (tree c r ts h) = absurd (let made = h.made in let none = never_makes p bare h.attribute h.owner in cc)
  value_sources _ _ (nodes c s h) = λ n e. reference_source c (At n) (h n e)
