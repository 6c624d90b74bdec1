use Rattle.std.proofs.Common.{◌+◌, ap, map, take}
use Rattle.attr_equations.specs.KeptContributions.{contribution_in}
use Rattle.broken_rules.proofs.Noting.{notes_none}
use Rattle.attr_scope.specs.Seen.{seen_offer}
use Rattle.attr_scope.proofs.Seen.{notes_all_seen, notes_each_seen, taken}
use Rattle.attr_types.specs.Phases.{contribution_of, expressions_broken}
use Rattle.attr_types.proofs.ContributionBodies.{list_made, none_numbered, one_more}
use Rattle.attr_types.proofs.contributions.type_contributions.Goals as goal

pub loop-contribution-init : goal.loop-contribution-init
loop-contribution-init c = record {
  noted = notes_none;
  numbered = none_numbered c.args.equations c.new-list.result.items c.ranges.equations.fits c.new-list.ensures.items;
  says = ap (map contribution_in) c.new-list.ensures.items;
}

pub loop-contribution-preserved : goal.loop-contribution-preserved
loop-contribution-preserved c =
    let g = c.args.grammar.now in
    let attributes = c.args.attributes.now.attributes in
    let xs = c.args.contributions.now in
    let i = c.loop-contribution.contribution-index in
    let before = c.loop-contribution.invariant in
    let written = map seen_offer xs in
    record {
      noted = notes_each_seen seen_offer xs i (expressions_broken g attributes) c.contribution-item.is c.loop-contribution-test.true before.noted c.in_ok-typed.ensures.noted;
      numbered = c.in_ok-add_contribution.ensures.numbered;
      says = one_more (contribution_of g attributes) c.loop-contribution.list.items c.add_contribution.new.list.items (take i written) (take (i + 1) written) c.in_ok-add_contribution.ensures.added c.in_ok-typed.ensures.says (taken seen_offer xs i c.contribution-item.is c.loop-contribution-test.true) before.says;
    }

pub returns-clause-noted : goal.returns-clause-noted
returns-clause-noted c =
    notes_all_seen seen_offer c.args.contributions.now c.loop-contribution.contribution-index (expressions_broken c.args.grammar.now c.args.attributes.now.attributes) c.loop-contribution.invariant.noted c.loop-contribution-test.false

pub returns-clause-says : goal.returns-clause-says
returns-clause-says c =
    list_made (contribution_of c.args.grammar.now c.args.attributes.now.attributes) c.loop-contribution.list.items c.args.contributions.now c.loop-contribution.contribution-index c.loop-contribution-test.false c.loop-contribution.invariant.says
