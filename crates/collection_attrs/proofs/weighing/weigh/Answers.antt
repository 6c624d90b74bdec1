use Rattle.std.proofs.Common.{◌∙◌, suc, sym}
use Rattle.equation_law.specs.Codes.{instance_by, reference_by}
use Rattle.equation_law.specs.Systems.{program_of}
use Rattle.equation_law.proofs.Grown.{grows_on}
use Rattle.expr_eval.proofs.Growing.{comes_more}
use Rattle.collection_attrs.proofs.Known.{value_node_known}
use Rattle.collection_attrs.proofs.Stepping.{at_rules, condition_is, receiver_known}
use Rattle.collection_attrs.proofs.Outcomes.{given, stopped, weighs_halted, weighs_met, weighs_stuck, weighs_unmet}
use Rattle.collection_attrs.proofs.weighing.weigh.Goals as goal

pub returns-in_err-instance-clause-kept : goal.returns-in_err-instance-clause-kept
returns-in_err-instance-clause-kept g c =
    let p = program_of c.args.system.now in
    let at = at_rules p c.rules.ensures c.contribution-contribution.ensures in
    let first = c.in_err-instance.ensures.evaluates at.contribution.condition (condition_is p c.rules.ensures c.contribution-contribution.ensures) in
    first.kept

pub returns-in-Need-clause-kept : goal.returns-in-Need-clause-kept
returns-in-Need-clause-kept g c =
    let p = program_of c.args.system.now in
    let at = at_rules p c.rules.ensures c.contribution-contribution.ensures in
    let first = c.in_ok-instance.ensures.evaluates at.contribution.condition (condition_is p c.rules.ensures c.contribution-contribution.ensures) in
    first.kept

pub returns-in-Need-clause-weighed : goal.returns-in-Need-clause-weighed
returns-in-Need-clause-weighed g c = λ b is stands.
    let p = program_of c.args.system.now in
    let at = at_rules p c.rules.ensures c.contribution-contribution.ensures in
    let first = c.in_ok-instance.ensures.evaluates at.contribution.condition (condition_is p c.rules.ensures c.contribution-contribution.ensures) in
    let stop = stopped first c.in-Need.is in
    (stop.coded, stop.known, λ names in_it. weighs_halted p (g.R.Reader.tells c.condition.new.reader).has names c.args.number c.args.node (stands names in_it) at.is is (instance_by p names c.in-Need.instance) (stop.wants names in_it))

pub returns-then-not-truth-clause-kept : goal.returns-then-not-truth-clause-kept
returns-then-not-truth-clause-kept g c =
    let p = program_of c.args.system.now in
    let at = at_rules p c.rules.ensures c.contribution-contribution.ensures in
    let first = c.in_ok-instance.ensures.evaluates at.contribution.condition (condition_is p c.rules.ensures c.contribution-contribution.ensures) in
    first.kept

pub returns-then-not-truth-clause-weighed : goal.returns-then-not-truth-clause-weighed
returns-then-not-truth-clause-weighed g c = λ b is stands.
    let p = program_of c.args.system.now in
    let at = at_rules p c.rules.ensures c.contribution-contribution.ensures in
    let first = c.in_ok-instance.ensures.evaluates at.contribution.condition (condition_is p c.rules.ensures c.contribution-contribution.ensures) in
    λ names in_it. weighs_unmet p (g.R.Reader.tells c.condition.new.reader).has names c.args.number c.args.node (stands names in_it) at.is is ((given first c.in-Done.is).comes names in_it) (sym (c.truth.ensures names) ∙ c.if-not-truth.true)

pub evaluate_part-requires-clause-known : goal.evaluate_part-requires-clause-known
evaluate_part-requires-clause-known g c = receiver_known (program_of c.args.system.now) c.rules.ensures c.contribution-contribution.ensures

pub evaluate_part-requires-clause-node : goal.evaluate_part-requires-clause-node
evaluate_part-requires-clause-node g c =
    let p = program_of c.args.system.now in
    let at = at_rules p c.rules.ensures c.contribution-contribution.ensures in
    let first = c.in_ok-instance.ensures.evaluates at.contribution.condition (condition_is p c.rules.ensures c.contribution-contribution.ensures) in
    first.kept.known (suc c.args.node) c.requires.node

pub evaluate_part-requires-clause-sound : goal.evaluate_part-requires-clause-sound
evaluate_part-requires-clause-sound g c =
    let p = program_of c.args.system.now in
    let at = at_rules p c.rules.ensures c.contribution-contribution.ensures in
    let first = c.in_ok-instance.ensures.evaluates at.contribution.condition (condition_is p c.rules.ensures c.contribution-contribution.ensures) in
    first.kept.sound

pub returns-in_err-instance-in-Done-clause-kept : goal.returns-in_err-instance-in-Done-clause-kept
returns-in_err-instance-in-Done-clause-kept g c =
    let p = program_of c.args.system.now in
    let at = at_rules p c.rules.ensures c.contribution-contribution.ensures in
    let first = c.in_ok-instance.ensures.evaluates at.contribution.condition (condition_is p c.rules.ensures c.contribution-contribution.ensures) in
    let second = c.in_err-instance-in-Done.ensures.evaluates at.contribution.receiver at.receiver in
    grows_on first.kept second.kept

pub returns-in-Need-2-clause-kept : goal.returns-in-Need-2-clause-kept
returns-in-Need-2-clause-kept g c =
    let p = program_of c.args.system.now in
    let at = at_rules p c.rules.ensures c.contribution-contribution.ensures in
    let first = c.in_ok-instance.ensures.evaluates at.contribution.condition (condition_is p c.rules.ensures c.contribution-contribution.ensures) in
    let second = c.in_ok-instance-in-Done.ensures.evaluates at.contribution.receiver at.receiver in
    grows_on first.kept second.kept

pub returns-in-Need-2-clause-weighed : goal.returns-in-Need-2-clause-weighed
returns-in-Need-2-clause-weighed g c = λ b is stands.
    let p = program_of c.args.system.now in
    let at = at_rules p c.rules.ensures c.contribution-contribution.ensures in
    let first = c.in_ok-instance.ensures.evaluates at.contribution.condition (condition_is p c.rules.ensures c.contribution-contribution.ensures) in
    let second = c.in_ok-instance-in-Done.ensures.evaluates at.contribution.receiver at.receiver in
    let stop = stopped second c.in-Need-2.is in (
      stop.coded,
      stop.known,
      λ names in_it. weighs_stuck p (g.R.Reader.tells c.evaluate_part.new.reader).has names c.args.number c.args.node (stands names in_it) at.is is (instance_by p names c.in-Need-2.instance) (comes_more second.kept.values ((given first c.in-Done.is).comes names (second.kept.names names in_it))) (sym (c.truth.ensures names) ∙ c.if-not-truth.false) (stop.wants names in_it),
    )

pub returns-in-Done-2-clause-kept : goal.returns-in-Done-2-clause-kept
returns-in-Done-2-clause-kept g c =
    let p = program_of c.args.system.now in
    let at = at_rules p c.rules.ensures c.contribution-contribution.ensures in
    let first = c.in_ok-instance.ensures.evaluates at.contribution.condition (condition_is p c.rules.ensures c.contribution-contribution.ensures) in
    let second = c.in_ok-instance-in-Done.ensures.evaluates at.contribution.receiver at.receiver in
    grows_on first.kept second.kept

pub returns-in-Done-2-clause-weighed : goal.returns-in-Done-2-clause-weighed
returns-in-Done-2-clause-weighed g c = λ b is stands.
    let p = program_of c.args.system.now in
    let at = at_rules p c.rules.ensures c.contribution-contribution.ensures in
    let first = c.in_ok-instance.ensures.evaluates at.contribution.condition (condition_is p c.rules.ensures c.contribution-contribution.ensures) in
    let second = c.in_ok-instance-in-Done.ensures.evaluates at.contribution.receiver at.receiver in
    let last = given second c.in-Done-2.is in (
      value_node_known second.kept.sound _ last.known c.node.ensures,
      λ names in_it. weighs_met p (g.R.Reader.tells c.evaluate_part.new.reader).has names c.args.number c.args.node (stands names in_it) at.is is (comes_more second.kept.values ((given first c.in-Done.is).comes names (second.kept.names names in_it))) (sym (c.truth.ensures names) ∙ c.if-not-truth.false) (last.comes names in_it) (reference_by names.node c.node.result.0) (c.node.ensures names),
    )
