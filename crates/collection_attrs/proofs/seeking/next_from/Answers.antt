use Rattle.std.proofs.Common.{◌∙◌, refl, arith}
use Rattle.std.proofs.lemmas.Option.{slice_get_within}
use Rattle.equation_law.specs.Systems.{program_of}
use Rattle.collection_attrs.proofs.Sought.{skipped_node, skipped_to}
use Rattle.collection_attrs.proofs.seeking.next_from.Goals as goal

pub returns-in-Some-clause-some : goal.returns-in-Some-clause-some
returns-in-Some-clause-some c =
    let p = program_of c.args.system.now in
    let i = c.nodes.invariant in
    let f = c.in-Some.ensures.some in
    let within = slice_get_within p.rules.contributions c.in-Some.number f.1 f.2 in
    record {
      after = i.after;
      before = c.nodes-test.true;
      contribution = f.1;
      is = f.2;
      offered = f.3;
      same = λ root l. skipped_to p c.args.attr.0 c.nodes.node root c.nodes.next c.in-Some.number f.0 (omega (arith, within)) f.4 ∙ i.same root l;
    }

pub nodes-preserved : goal.nodes-preserved
nodes-preserved c =
    let p = program_of c.args.system.now in
    let i = c.nodes.invariant in
    let after = i.after in
    let more = c.nodes-test.true in
    record {
      after = omega (arith, after);
      before = omega (arith, more);
      first = omega arith;
      ended = λ e. refl;
      same = λ root l. skipped_node p c.args.attr.0 c.nodes.node root c.nodes.next (omega (arith, l, after)) i.first c.in_default.ensures.none ∙ i.same root l;
    }
