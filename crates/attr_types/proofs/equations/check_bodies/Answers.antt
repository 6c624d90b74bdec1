use Rattle.std.proofs.Common.{Err, Ok, ap, length, map, refl, subst, ◌∙◌}
use Rattle.broken_rules.proofs.Exits.{ends_passed, ends_with}
use Rattle.broken_rules.proofs.Noting.{ends_of, notes_then}
use Rattle.attr_equations.specs.KeptContributions.{AreNumbered}
use Rattle.attr_types.specs.Phases.{bodies_broken}
use Rattle.attr_scope.specs.Seen.{seen_given, seen_offer}
use Rattle.attr_types.proofs.equations.check_bodies.Goals as goal

pub returns-in_err-answer-clause-phase : goal.returns-in_err-answer-clause-phase
returns-in_err-answer-clause-phase c =
    let bodies = bodies_broken c.args.grammar.now c.args.attributes.now.attributes (map seen_given c.args.equations.now) (map seen_offer c.args.contributions.now) in
    let first = ends_of c.new-faults.ensures (notes_then c.in_ok-list.ensures.noted c.in_ok-offered.ensures.noted) refl in
    let e = c.in_err-answer.field-0.0 in
    ends_passed bodies c.from_residual-in_err-answer.result e c.from_residual-in_err-answer.ensures.1 (ends_with bodies _ (Err e) c.in_err-answer.ensures first)

pub returns-clause-phase : goal.returns-clause-phase
returns-clause-phase c =
    let first = ends_of c.new-faults.ensures (notes_then c.in_ok-list.ensures.noted c.in_ok-offered.ensures.noted) refl in
    ends_with (bodies_broken c.args.grammar.now c.args.attributes.now.attributes (map seen_given c.args.equations.now) (map seen_offer c.args.contributions.now)) _ (Ok tt) c.in_ok-answer.ensures first

pub returns-clause-numbered : goal.returns-clause-numbered
returns-clause-numbered c = subst (λ n. AreNumbered n c.in_ok-offered.offered.items) (c.in_ok-count.ensures ∙ ap length c.deref.ensures.value) c.in_ok-offered.ensures.numbered
