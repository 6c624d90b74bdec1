use Rattle.std.proofs.Common.{◌≡◌, ◌<◌, List, Some, ap, refl, subst, sym, arith, ◌∙◌}
use Rattle.tree_arena.specs.Nodes.{Node, class_in, component_in, index_in, most_nodes}
use Rattle.equation_law.specs.Systems.{program_of}
use Rattle.equation_law.proofs.Codes.{source_by}
use Rattle.inherited_walk.specs.Sites.{BindsNoCode}
use Rattle.inherited_walk.proofs.Known.{path_is, source_code}
use Rattle.inherited_walk.proofs.Walking.{covering_found}
use Rattle.inherited_walk.proofs.walk.covering.Goals as goal

pub returns-clause-found : goal.returns-clause-found
returns-clause-found c root by is =
    let p = program_of c.args.system.now in
    let tree : p.tree ≡ c.tree-tree.result.now = sym c.tree-tree.ensures in
    let component : component_in p.tree c.args.node ≡ Some c.hangs_by.result = ap (λ (t : List Node). component_in t c.args.node) tree ∙ c.hangs_by.ensures in
    let class : class_in p.tree c.args.parent ≡ Some c.class_of-class.result = ap (λ (t : List Node). class_in t c.args.parent) tree ∙ c.class_of-class.ensures in
    let place : index_in p.tree c.args.node ≡ Some c.index.result = ap (λ (t : List Node). index_in t c.args.node) tree ∙ c.index.ensures in
    let low : c.args.parent < most_nodes = omega (arith, c.requires.above, c.requires.few) in
    covering_found p by c.args.attr.0 c.args.args root c.args.node c.args.parent c.hangs_by.result c.requires.parent component c.in_ok-equation.equation.0 c.of_source.result.0 c.index.result c.class_of-class.result (source_by is (Some c.args.parent) low c.of_source.result.0 c.of_source.ensures) (sym class) c.rules-rules.ensures
    c.in_ok-equation.ensures.number c.in_ok-equation.ensures.within c.rules-rules.ensures c.target.ensures place (c.bound_index.ensures.values p by)

pub returns-clause-source : goal.returns-clause-source
returns-clause-source c =
    let p = program_of c.args.system.now in
    record {
      node = source_code c.of_source.result.0 c.args.parent c.of_source.ensures (omega (arith, c.requires.above, c.requires.few));
      inner = refl;
      outer = subst (λ r. BindsNoCode r c.bound_index.result) (sym (path_is p c.in_ok-equation.equation.0 c.rules-rules.ensures c.target.ensures)) c.bound_index.ensures.none;
    }
