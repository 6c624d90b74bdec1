use Rattle.std.proofs.Common.{sym}
use Rattle.equation_law.specs.Codes.{instance_by}
use Rattle.equation_law.specs.Systems.{program_of}
use Rattle.equation_law.proofs.Sites.{demanded_of_collection}
use Rattle.collection_attrs.proofs.Grown.{naming_of}
use Rattle.collection_attrs.proofs.Known.{node_known_of}
use Rattle.collection_attrs.proofs.Outcomes.{evaluates_as}
use Rattle.collection_attrs.proofs.evaluating.survey.Goals as goal

pub collect-requires-clause-known : goal.collect-requires-clause-known
collect-requires-clause-known g c = node_known_of (program_of c.args.system.now) (g.R.Reader.tells c.args.reader.now) c.args.i.now c.in-Some.ensures.node c.requires.known

pub returns : goal.returns
returns g c =
    let p = program_of c.args.system.now in
    let found = c.in-Some.ensures.some in
    let h = c.collect.ensures found.0 found.2 in
    evaluates_as (λ names in_it. sym (demanded_of_collection p (instance_by p names c.args.i.now) (found.0 names) (found.1 names (naming_of h.kept.sound names in_it)))) h
