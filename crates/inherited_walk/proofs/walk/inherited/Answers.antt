use Rattle.std.proofs.Common.{◌≡◌, List, Option, Some, ap, sym, subst, ◌∙◌, arith}
use Rattle.tree_arena.specs.Nodes.{Node, parent_in}
use Rattle.tree_arena.specs.Terms.{IsTree}
use Rattle.equation_law.specs.Codes.{arguments_for, source_names}
use Rattle.equation_law.specs.Equations.{Site}
use Rattle.equation_law.specs.Names.{Null}
use Rattle.equation_law.specs.Program.{text_of}
use Rattle.equation_law.specs.Systems.{program_of}
use Rattle.equation_law.proofs.Above.{Falls, tree_falls}
use Rattle.equation_law.proofs.Codes.{sources_named}
use Rattle.inherited_walk.specs.Sites.{IsFound}
use Rattle.inherited_walk.proofs.Walking.{found_above, found_here}
use Rattle.inherited_walk.proofs.walk.inherited.Goals as goal

pub covering-found-requires-clause-above : goal.covering-found-requires-clause-above
covering-found-requires-clause-above c =
    let tree = c.tree-tree.result.now in
    tree_falls tree c.len.ensures.tree c.loop-parent.at c.in-Some.parent c.in-Some.ensures

pub loop-parent-smaller : goal.loop-parent-smaller
loop-parent-smaller c =
    let tree = c.tree-tree.result.now in
    tree_falls tree c.len.ensures.tree c.loop-parent.at c.in-Some.parent c.in-Some.ensures

pub loop-parent-preserved : goal.loop-parent-preserved
loop-parent-preserved c =
    let p = program_of c.args.system.now in
    let tree : c.tree-tree.result.now ≡ p.tree = c.tree-tree.ensures in
    let falls : Falls p.tree = tree_falls p.tree (subst IsTree tree c.len.ensures.tree) in
    let up : parent_in p.tree c.loop-parent.at ≡ Some c.in-Some.parent = ap (λ (t : List Node). parent_in t c.loop-parent.at) (sym tree) ∙ c.in-Some.ensures in
    let by = source_names (text_of p) in
    let smaller = falls c.loop-parent.at c.in-Some.parent up in
    record {
      within = omega (arith, smaller, c.loop-parent.invariant.within);
      same = λ zs root.
          c.loop-parent.invariant.same zs root
          ∙ found_above p c.args.attr.0 c.loop-parent.at by c.in-Some.parent (arguments_for p by c.args.attr.0 c.args.args) Null falls up c.covering-found.result (c.covering-found.ensures.found Null by (sources_named p)) (sym c.is_some.ensures ∙ c.if-is_some.false) zs root;
    }

pub returns-then-is_some-clause-found : goal.returns-then-is_some-clause-found
returns-then-is_some-clause-found c root by is =
    let p = program_of c.args.system.now in
    let zs = arguments_for p by c.args.attr.0 c.args.args in
    let tree : c.tree-tree.result.now ≡ p.tree = c.tree-tree.ensures in
    let falls : Falls p.tree = tree_falls p.tree (subst IsTree tree c.len.ensures.tree) in
    let up : parent_in p.tree c.loop-parent.at ≡ Some c.in-Some.parent = ap (λ (t : List Node). parent_in t c.loop-parent.at) (sym tree) ∙ c.in-Some.ensures in
    let here = found_here p c.args.attr.0 c.loop-parent.at by c.in-Some.parent zs root falls up c.covering-found.result (c.covering-found.ensures.found root by is) (sym c.is_some.ensures ∙ c.if-is_some.true) in
    subst (λ (x : Option Site). IsFound p by c.args.attr.0 x c.covering-found.result) (sym (c.loop-parent.invariant.same zs root)) here
