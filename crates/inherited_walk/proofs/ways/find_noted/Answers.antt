use Rattle.std.proofs.Common.{true, false, sym, ◌∙◌}
use Rattle.equation_law.specs.Codes.{arguments_for}
use Rattle.equation_law.specs.Names.{At, Attribute, Source, made_by}
use Rattle.equation_law.specs.Systems.{program_of}
use Rattle.inherited_walk.proofs.Walking.{found_at, way_found}
use Rattle.inherited_walk.proofs.ways.find_noted.Goals as goal

pub returns-then-not-is_inherited-clause-found : goal.returns-then-not-is_inherited-clause-found
returns-then-not-is_inherited-clause-found c by is =
    let p = program_of c.args.system.now in
    let sort = sym c.if-not-is_inherited.true ∙ c.is_inherited.ensures in
    found_at is c.args.attr.0 (arguments_for p by c.args.attr.0 c.args.args) c.requires.bare c.in_ok-source.source c.args.node.0 false c.synthesized.result c.in_ok-source.ensures sort (c.synthesized.ensures.found by is)

pub returns-clause-found : goal.returns-clause-found
returns-clause-found c by is =
    let p = program_of c.args.system.now in
    let zs = arguments_for p by c.args.attr.0 c.args.args in
    let sort = sym c.if-not-is_inherited.false ∙ c.is_inherited.ensures in
    let root = made_by (Attribute c.args.attr.0 (At (Source c.in_ok-source.source)) zs) 0 in
    let here = way_found p by c.args.attr.0 c.in_ok-source.source c.top_of-top.result zs root c.inherited.result c.top_of-top.ensures (c.inherited.ensures.found root by is) in
    found_at is c.args.attr.0 zs c.requires.bare c.in_ok-source.source c.args.node.0 true c.inherited.result c.in_ok-source.ensures sort here
