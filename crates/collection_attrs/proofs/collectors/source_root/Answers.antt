use Rattle.std.proofs.Common.{◌≡◌, ◌∙◌, ◌<◌, ◌≤◌, Some, ap, arith, length, subst, sym}
use Rattle.tree_arena.specs.Terms.{IsTree}
use Rattle.equation_law.specs.Equations.{root_over}
use Rattle.equation_law.specs.Systems.{program_of}
use Rattle.equation_law.proofs.Above.{tree_falls}
use Rattle.inherited_walk.proofs.Classes.{source_is}
use Rattle.collection_attrs.proofs.Rooted.{root_past}
use Rattle.collection_attrs.proofs.collectors.source_root.Goals as goal

pub returns-then-number-len-clause-found : goal.returns-then-number-len-clause-found
returns-then-number-len-clause-found c =
    let p = program_of c.args.system.now in
    let long : length c.tree.result.now ≡ length p.tree = ap length c.tree.ensures in
    let some : 0 < length p.tree = omega (arith, long, c.len.ensures.number, c.len.ensures.some) in
    let past : length p.tree ≤ c.in_ok-number.number = omega (arith, long, c.len.ensures.number, c.if-number-len.true) in
    let falls = tree_falls p.tree (subst IsTree c.tree.ensures c.len.ensures.tree) in
    λ n named. sym (ap (root_over p (Some c.args.class)) (source_is named c.in_ok-number.number c.args.node.0 c.requires c.in_ok-number.ensures) ∙ root_past p c.args.class c.in_ok-number.number falls some past)

pub returns-clause-found : goal.returns-clause-found
returns-clause-found c =
    let p = program_of c.args.system.now in
    λ n named. c.closest.ensures.found ∙ sym (ap (root_over p (Some c.args.class)) (source_is named c.in_ok-number.number c.args.node.0 c.requires c.in_ok-number.ensures))
