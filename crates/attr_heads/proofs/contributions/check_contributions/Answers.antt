use Rattle.attr_scope.specs.Seen.{seen_offer}
use Rattle.attr_scope.proofs.Seen.{notes_all_seen, notes_each_seen}
use Rattle.attr_heads.specs.Contributions.{contribution_broken}
use Rattle.attr_heads.proofs.contributions.check_contributions.Goals as goal

pub loop-contribution-preserved : goal.loop-contribution-preserved
loop-contribution-preserved c =
    notes_each_seen seen_offer c.args.contributions.now c.loop-contribution.contribution-index (contribution_broken c.args.grammar.now c.args.attributes.now.attributes) c.contribution-item.is c.loop-contribution-test.true c.loop-contribution.invariant
    c.check_contribution.ensures

pub returns : goal.returns
returns c = notes_all_seen seen_offer c.args.contributions.now c.loop-contribution.contribution-index (contribution_broken c.args.grammar.now c.args.attributes.now.attributes) c.loop-contribution.invariant c.loop-contribution-test.false
