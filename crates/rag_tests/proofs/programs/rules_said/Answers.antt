use Rattle.std.proofs.Common.{ap, subst, sym, ◌∙◌}
use Rattle.aspect_items.specs.Items.{seen_aspects}
use Rattle.attr_rules.specs.Rules.{AreRules, EquationsRise}
use Rattle.attr_types.specs.Phases.{rules_of}
use Rattle.attr_types.proofs.Accepted.{accepted}
use Rattle.attr_types.proofs.MadeWell.{equations_made}
use Rattle.monotone_check.specs.Equations.{equations_broken}
use Rattle.monotone_check.proofs.PermittedRises.{equations_rise}
use Rattle.rag_tests.proofs.programs.rules_said.Goals as goal

pub returns-in-Ok-clause-rules : goal.returns-in-Ok-clause-rules
returns-in-Ok-clause-rules c =
    let g = c.args.grammar.now in
    subst (AreRules g) (sym c.in_ok-rules.ensures.rules) (accepted g (seen_aspects c.in_ok-aspects.aspects) c.requires c.in_ok-rules.ensures.phases)

pub returns-in-Ok-clause-rising : goal.returns-in-Ok-clause-rising
returns-in-Ok-clause-rising c =
    let g = c.args.grammar.now in
    let items = seen_aspects c.in_ok-aspects.aspects in
    subst EquationsRise (sym c.in_ok-rules.ensures.rules) (equations_rise (rules_of g items) (equations_made g items) (ap equations_broken (sym c.in_ok-rules.ensures.rules) ∙ c.in-Ok.ensures))
