use Rattle.std.proofs.Common.{ap, map, sym, ◌∙◌}
use Rattle.broken_rules.proofs.Exits.{says_passed}
use Rattle.attr_heads.specs.Targets.{targets_of}
use Rattle.attr_rules.specs.Rules.{AttributeSet}
use Rattle.attr_scope.specs.Seen.{seen_given, seen_head, seen_offer}
use Rattle.attr_types.specs.Phases.{phases_over}
use Rattle.attr_types.proofs.Checked.{dispatches_same, first_stops, fourth_is, fourth_stops, kept_targets, none_broken, rules_made, second_is, second_stops, targets_all, third_is, third_stops}
use Rattle.attr_types.proofs.checking.check_written.Goals as goal

pub returns-in_err-attributes-clause-phases : goal.returns-in_err-attributes-clause-phases
returns-in_err-attributes-clause-phases c =
    let g = c.args.grammar.now in
    let heads = map seen_head c.args.heads.now in
    let equations = map seen_given c.args.equations.now in
    let offered = map seen_offer c.args.offered.now in
    let e = c.in_err-attributes.field-0.0 in
    says_passed (phases_over g heads equations offered) c.from_residual.result e c.from_residual.ensures.1
    (first_stops g heads equations offered e c.in_err-attributes.ensures.phase)

pub returns-in_err-targets-clause-phases : goal.returns-in_err-targets-clause-phases
returns-in_err-targets-clause-phases c =
    let g = c.args.grammar.now in
    let heads = map seen_head c.args.heads.now in
    let equations = map seen_given c.args.equations.now in
    let offered = map seen_offer c.args.offered.now in
    let e = c.in_err-targets.field-0.0 in
    let attributes = ap (λ (a : AttributeSet). a.attributes) c.in_ok-attributes.ensures.attributes in
    says_passed (phases_over g heads equations offered) c.from_residual-in_err-targets.result e c.from_residual-in_err-targets.ensures.1
    (second_stops g heads equations offered e (second_is g heads equations offered attributes) c.in_ok-attributes.ensures.phase c.in_err-targets.ensures.phase)

pub returns-in_err-check_completeness-clause-phases : goal.returns-in_err-check_completeness-clause-phases
returns-in_err-check_completeness-clause-phases c =
    let g = c.args.grammar.now in
    let heads = map seen_head c.args.heads.now in
    let equations = map seen_given c.args.equations.now in
    let offered = map seen_offer c.args.offered.now in
    let e = c.in_err-check_completeness.field-0.0 in
    let attributes = ap (λ (a : AttributeSet). a.attributes) c.in_ok-attributes.ensures.attributes in
    let targets = c.deref.ensures.value ∙ c.in_ok-targets.ensures.targets ∙ (λ i. targets_of g (attributes i) equations) in
    says_passed (phases_over g heads equations offered) c.from_residual-in_err-check_completeness.result e c.from_residual-in_err-check_completeness.ensures.1
    (third_stops g heads equations offered e (second_is g heads equations offered attributes) (third_is g heads equations offered attributes targets) c.in_ok-attributes.ensures.phase c.in_ok-targets.ensures.phase (c.in_err-check_completeness.ensures c.deref.result.now c.in_ok-dispatch.ensures))

pub returns-in_err-bodies-clause-phases : goal.returns-in_err-bodies-clause-phases
returns-in_err-bodies-clause-phases c =
    let g = c.args.grammar.now in
    let heads = map seen_head c.args.heads.now in
    let equations = map seen_given c.args.equations.now in
    let offered = map seen_offer c.args.offered.now in
    let e = c.in_err-bodies.field-0.0 in
    let attributes = ap (λ (a : AttributeSet). a.attributes) c.in_ok-attributes.ensures.attributes in
    let targets = c.deref.ensures.value ∙ c.in_ok-targets.ensures.targets ∙ (λ i. targets_of g (attributes i) equations) in
    says_passed (phases_over g heads equations offered) c.from_residual-in_err-bodies.result e c.from_residual-in_err-bodies.ensures.1
    (fourth_stops g heads equations offered e (second_is g heads equations offered attributes) (third_is g heads equations offered attributes targets) (fourth_is g heads equations offered attributes) c.in_ok-attributes.ensures.phase c.in_ok-targets.ensures.phase (c.in_ok-check_completeness.ensures c.deref.result.now c.in_ok-dispatch.ensures) c.in_err-bodies.ensures.phase)

pub of_targets-requires : goal.of_targets-requires
of_targets-requires c =
    targets_all c.args.grammar.now c.in_ok-attributes.attributes.attributes (map seen_given c.args.equations.now) (map seen_offer c.args.offered.now) c.len.ensures.number (c.deref.ensures.value ∙ c.in_ok-targets.ensures.targets) c.in_ok-targets.ensures.phase

pub of_parts-requires-clause-dispatched : goal.of_parts-requires-clause-dispatched
of_parts-requires-clause-dispatched c =
    let g = c.args.grammar.now in
    let attributes = c.in_ok-attributes.attributes.attributes in
    let equations = map seen_given c.args.equations.now in
    let above = ap (λ (a : AttributeSet). a.superclasses) c.in_ok-attributes.ensures.attributes in
    let targets = c.deref.ensures.value ∙ c.in_ok-targets.ensures.targets in
    dispatches_same (sym above) (targets ∙ sym (kept_targets g attributes c.in_ok-bodies.bodies.equations.items equations c.in_ok-bodies.ensures.says)) c.in_ok-dispatch.ensures

pub of_parts-requires-clause-numbered : goal.of_parts-requires-clause-numbered
of_parts-requires-clause-numbered c = c.in_ok-bodies.ensures.numbered

pub returns-in-Ok-clause-phases : goal.returns-in-Ok-clause-phases
returns-in-Ok-clause-phases c =
    let g = c.args.grammar.now in
    let heads = map seen_head c.args.heads.now in
    let equations = map seen_given c.args.equations.now in
    let offered = map seen_offer c.args.offered.now in
    let attributes = ap (λ (a : AttributeSet). a.attributes) c.in_ok-attributes.ensures.attributes in
    let targets = c.deref.ensures.value ∙ c.in_ok-targets.ensures.targets ∙ (λ i. targets_of g (attributes i) equations) in
    none_broken g heads equations offered (second_is g heads equations offered attributes) (third_is g heads equations offered attributes targets) (fourth_is g heads equations offered attributes) c.in_ok-attributes.ensures.phase c.in_ok-targets.ensures.phase (c.in_ok-check_completeness.ensures c.deref.result.now c.in_ok-dispatch.ensures) c.in_ok-bodies.ensures.phase

pub returns-in-Ok-clause-rules : goal.returns-in-Ok-clause-rules
returns-in-Ok-clause-rules c =
    rules_made c.args.grammar.now (map seen_head c.args.heads.now) (map seen_given c.args.equations.now) (map seen_offer c.args.offered.now) c.in_ok-bodies.bodies.equations.items c.in-Ok.ensures c.in_ok-attributes.ensures.attributes c.in_ok-bodies.ensures.says
    c.in_ok-bodies.ensures.offered
