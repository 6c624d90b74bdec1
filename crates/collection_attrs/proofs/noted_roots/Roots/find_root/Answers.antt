use Rattle.std.proofs.Common.{◌≡◌, ◌∙◌, ◌<◌, ◌≤◌, None, Some, ap, arith, length, subst, sym}
use Rattle.attr_rules.specs.Rules.{RuleSet, root_at}
use Rattle.tree_arena.specs.Terms.{IsTree}
use Rattle.equation_law.specs.Equations.{root_over}
use Rattle.equation_law.specs.Systems.{program_of}
use Rattle.equation_law.proofs.Above.{tree_falls}
use Rattle.collection_attrs.proofs.Found.{attribute_known, node_is}
use Rattle.collection_attrs.proofs.Rooted.{none_root, offers_from, root_first, root_past_tree, root_within, some_root}
use Rattle.collection_attrs.proofs.noted_roots.Roots.find_root.Goals as goal

pub climb-root-requires-clause-tree : goal.climb-root-requires-clause-tree
climb-root-requires-clause-tree c = subst IsTree c.tree.ensures c.len-nodes.ensures.tree

pub fill-requires-clause-tree : goal.fill-requires-clause-tree
fill-requires-clause-tree c = subst IsTree c.tree.ensures c.len-nodes.ensures.tree

pub root-requires : goal.root-requires
root-requires c = subst (λ (r : RuleSet). c.args.of.attr.0 < length r.attributes) (sym c.rules.ensures) (attribute_known (program_of c.args.system.now) c.requires.collection.1)

pub returns-in_default-clause-some : goal.returns-in_default-clause-some
returns-in_default-clause-some c =
    let p = program_of c.args.system.now in
    let a = c.args.of.attr.0 in
    let root : root_at p.rules a ≡ None = ap (λ (r : RuleSet). root_at r a) (sym c.rules.ensures) ∙ sym c.root.ensures ∙ c.in_default.is in
    λ x is names named. offers_from p c.args.of root (ap (root_over p None) (node_is p (is names named)) ∙ root_first p (x names).node) (is names named)

pub returns-then-node-nodes-clause-none : goal.returns-then-node-nodes-clause-none
returns-then-node-nodes-clause-none c =
    let p = program_of c.args.system.now in
    let a = c.args.of.attr.0 in
    let long : length c.tree.result.now ≡ length p.tree = ap length c.tree.ensures in
    let some : 0 < length p.tree = omega (arith, long, c.len-nodes.ensures.number, c.len-nodes.ensures.some) in
    let past : length p.tree ≤ c.in_ok-node.node = omega (arith, long, c.len-nodes.ensures.number, c.if-node-nodes.true) in
    let falls = tree_falls p.tree (subst IsTree c.tree.ensures c.len-nodes.ensures.tree) in
    let root : root_at p.rules a ≡ Some c.in-Some.class = ap (λ (r : RuleSet). root_at r a) (sym c.rules.ensures) ∙ sym c.root.ensures ∙ c.in-Some.is in
    λ x is names named. offers_from p c.args.of root (root_past_tree p c.in-Some.class c.requires.bare named falls some c.in_ok-node.node c.args.of.node.0 past c.in_ok-node.ensures) (is names named)

pub returns-clause-some : goal.returns-clause-some
returns-clause-some c =
    let p = program_of c.args.system.now in
    let a = c.args.of.attr.0 in
    let long : length c.tree.result.now ≡ length p.tree = ap length c.tree.ensures in
    let within : c.in_ok-node.node < length p.tree = omega (arith, long, c.len-nodes.ensures.number, c.if-node-nodes.false) in
    let root : root_at p.rules a ≡ Some c.in-Some.class = ap (λ (r : RuleSet). root_at r a) (sym c.rules.ensures) ∙ sym c.root.ensures ∙ c.in-Some.is in
    some_root p c.args.of c.climb-root.result (λ x is names named. offers_from p c.args.of root (root_within p c.in-Some.class c.requires.bare.few named c.in_ok-node.node c.args.of.node.0 within c.in_ok-node.ensures ∙ sym c.climb-root.ensures.is) (is names named))

pub returns-clause-none : goal.returns-clause-none
returns-clause-none c =
    let p = program_of c.args.system.now in
    let a = c.args.of.attr.0 in
    let long : length c.tree.result.now ≡ length p.tree = ap length c.tree.ensures in
    let within : c.in_ok-node.node < length p.tree = omega (arith, long, c.len-nodes.ensures.number, c.if-node-nodes.false) in
    let root : root_at p.rules a ≡ Some c.in-Some.class = ap (λ (r : RuleSet). root_at r a) (sym c.rules.ensures) ∙ sym c.root.ensures ∙ c.in-Some.is in
    none_root p c.args.of c.climb-root.result (λ x is names named. offers_from p c.args.of root (root_within p c.in-Some.class c.requires.bare.few named c.in_ok-node.node c.args.of.node.0 within c.in_ok-node.ensures ∙ sym c.climb-root.ensures.is) (is names named))
