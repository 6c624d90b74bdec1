use Rattle.aspect_items.specs.Items.{seen_contribution}
use Rattle.attr_types.proofs.ContributionBodies.{contribution_noted, contribution_said}
use Rattle.attr_types.proofs.contributions.type_contribution.Goals as goal

pub returns-clause-noted : goal.returns-clause-noted
returns-clause-noted c =
    contribution_noted c.args.grammar.now c.args.attributes.now (seen_contribution c.args.contribution.now) c.aim_of-aim.result c.requires c.aim_of-aim.ensures c.wanted_from-wanted.ensures c.in_ok-condition.ensures.noted
    c.in_ok-receiver.ensures.noted c.in_ok-value.ensures.noted

pub returns-clause-says : goal.returns-clause-says
returns-clause-says c =
    contribution_said c.args.grammar.now c.args.attributes.now (seen_contribution c.args.contribution.now) c.aim_of-aim.result c.requires c.aim_of-aim.ensures c.in_ok-condition.ensures.says c.in_ok-receiver.ensures.says
    c.in_ok-value.ensures.says
