use Rattle.std.proofs.Common.{◌≡◌, ◌<◌, List, Some, ap, refl, sym, arith, ◌∙◌}
use Rattle.tree_arena.specs.Nodes.{Node, class_in, most_nodes}
use Rattle.equation_law.specs.Names.{Source}
use Rattle.equation_law.specs.Systems.{program_of}
use Rattle.equation_law.proofs.Codes.{source_by}
use Rattle.inherited_walk.specs.Sites.{reach_at}
use Rattle.inherited_walk.proofs.Known.{no_code, source_code}
use Rattle.inherited_walk.proofs.Walking.{synthesized_found}
use Rattle.inherited_walk.proofs.walk.synthesized.Goals as goal

pub returns-clause-found : goal.returns-clause-found
returns-clause-found c by is =
    let p = program_of c.args.system.now in
    let class : class_in p.tree c.args.node ≡ Some c.class_of-class.result = ap (λ (t : List Node). class_in t c.args.node) (sym c.tree-tree.ensures) ∙ c.class_of-class.ensures in
    let low : c.args.node < most_nodes = omega (arith, c.len.ensures.few, c.if-node-len.false) in
    synthesized_found p by c.args.attr.0 c.args.args (Source c.args.node) _ c.in_ok-equation.equation.0 c.of_source.result.0 c.class_of-class.result c.none.result c.none.ensures.codes (source_by is (Some c.args.node) low c.of_source.result.0 c.of_source.ensures) (sym class) c.rules.ensures c.in_ok-equation.ensures.number c.in_ok-equation.ensures.within

pub returns-clause-source : goal.returns-clause-source
returns-clause-source c =
    let low : c.args.node < most_nodes = omega (arith, c.len.ensures.few, c.if-node-len.false) in
    record {
      node = source_code c.of_source.result.0 c.args.node c.of_source.ensures low;
      inner = refl;
      outer = no_code (reach_at (program_of c.args.system.now) c.in_ok-equation.equation.0) c.none.result c.none.ensures.codes;
    }
