use Rattle.std.proofs.Common.{◌≡◌, ◌≤◌, Some, None, ap, length, refl, sym, ◌∙◌, arith}
use Rattle.tree_arena.specs.Nodes.{most_nodes}
use Rattle.equation_law.specs.declared.coding.Up.{Up}
use Rattle.equation_law.specs.Systems.{program_of}
use Rattle.equation_law.proofs.Grown.{grows_itself}
use Rattle.inherited_walk.proofs.Climbing.{covered_rows, higher_is, node_of, via_of}
use Rattle.inherited_walk.proofs.climb.above.Goals.{in-Inside, in-Owner}
use Rattle.inherited_walk.proofs.climb.above.Goals as goal

pub returns-in-Some-clause-higher : goal.returns-in-Some-clause-higher
returns-in-Some-clause-higher g c =
    let p = program_of c.args.system.now in
    let few : length p.tree ≤ most_nodes = omega (arith, c.len.ensures.few, c.len.ensures.number, ap length c.tree.ensures) in
    let at : c.match-made_up.via ≡ (node_of c.made_up.result, via_of c.made_up.result) = elim c.match-made_up.branch [
      | in-Inside w ↦ w.via-is ∙ ap (λ (x : Up). (node_of x, via_of x)) (sym w.in-Inside.is)
      | in-Owner w ↦ w.via-is ∙ ap (λ (x : Up). (node_of x, via_of x)) (sym w.in-Owner.is)
    ] in
    higher_is p c.requires.sound few c.args.attr c.args.args c.args.node c.requires.made c.requires.known c.made_up.result c.made_up.ensures c.covering_made-site.result c.covering_made-site.ensures.kept (Some c.in-Some.class) c.match-made_up.via at c.in-Some.ensures c.covering_made-site.ensures

pub returns-in-None-clause-higher : goal.returns-in-None-clause-higher
returns-in-None-clause-higher g c =
    let p = program_of c.args.system.now in
    let few : length p.tree ≤ most_nodes = omega (arith, c.len.ensures.few, c.len.ensures.number, ap length c.tree.ensures) in
    let at : c.match-made_up.via ≡ (node_of c.made_up.result, via_of c.made_up.result) = elim c.match-made_up.branch [
      | in-Inside w ↦ w.via-is ∙ ap (λ (x : Up). (node_of x, via_of x)) (sym w.in-Inside.is)
      | in-Owner w ↦ w.via-is ∙ ap (λ (x : Up). (node_of x, via_of x)) (sym w.in-Owner.is)
    ] in
    higher_is p c.requires.sound few c.args.attr c.args.args c.args.node c.requires.made c.requires.known c.made_up.result c.made_up.ensures None (grows_itself c.class_at.ensures.kept.sound) None c.match-made_up.via at c.in-None.ensures refl

pub returns-in-Some-clause-rows : goal.returns-in-Some-clause-rows
returns-in-Some-clause-rows g c row = covered_rows (program_of c.args.system.now) _ _ c.args.attr c.args.args c.in-Some.class c.match-made_up.via.1 c.match-made_up.via.0 c.args.node c.covering_made-site.result c.covering_made-site.ensures row
