use Rattle.std.proofs.Common.{◌≡◌, ◌∙◌, Some, ap, refl, sym}
use Rattle.attr_rules.specs.Rules.{RuleSet, attribute_at, method_at}
use Rattle.equation_law.specs.declared.coding.Instance.{Instance as CodedInstance}
use Rattle.equation_law.specs.Codes.{instance_by}
use Rattle.equation_law.specs.Equations.{collection_of}
use Rattle.equation_law.specs.Systems.{program_of}
use Rattle.collection_attrs.specs.declared.collectors.Collector.{Collector}
use Rattle.collection_attrs.proofs.Found.{collector_is}
use Rattle.collection_attrs.proofs.collectors.collector_of.Goals as goal

pub returns-clause-some : goal.returns-clause-some
returns-clause-some c =
    let p = program_of c.args.system.now in
    let of : Collector = record { attr = c.in-Attr.attr; node = c.in-Attr.node; method = c.in_ok-method.method; kind = c.attr.result.now.kind } in
    let method : Some of.method ≡ method_at p.rules of.attr.0 = sym c.in_ok-method.was ∙ c.method.ensures ∙ ap (λ (r : RuleSet). method_at r of.attr.0) c.rules-2.ensures in
    let known : attribute_at p.rules of.attr.0 ≡ Some c.attr.result.now = ap (λ (r : RuleSet). attribute_at r of.attr.0) (sym c.rules-3.ensures) ∙ c.attr.ensures in
    let found = collector_is p of c.in-Attr.args c.attr.result.now c.if-node-eq0.false method known refl in
    (found.0, λ names named. ap (λ (i : CodedInstance). collection_of p (instance_by p names i)) c.in-Attr.is ∙ found.1 names named, found.2)
