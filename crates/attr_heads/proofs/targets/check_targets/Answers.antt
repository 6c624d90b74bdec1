use Rattle.std.proofs.Common.{Err, Ok, map, refl}
use Rattle.broken_rules.proofs.Exits.{ends_passed, ends_with}
use Rattle.broken_rules.proofs.Noting.{ends_of, notes_then}
use Rattle.attr_heads.specs.Contributions.{uses_broken}
use Rattle.attr_scope.specs.Seen.{seen_given, seen_offer}
use Rattle.attr_heads.proofs.targets.check_targets.Goals as goal

pub returns-in_err-answer-clause-phase : goal.returns-in_err-answer-clause-phase
returns-in_err-answer-clause-phase c =
    let uses = uses_broken c.args.grammar.now c.args.attributes.now.attributes (map seen_given c.args.equations.now) (map seen_offer c.args.contributions.now) in
    let first = ends_of c.new-faults.ensures (notes_then c.in_ok-targets.ensures.noted c.check_contributions.ensures) refl in
    let e = c.in_err-answer.field-0.0 in
    ends_passed uses c.from_residual-in_err-answer.result e c.from_residual-in_err-answer.ensures.1 (ends_with uses _ (Err e) c.in_err-answer.ensures first)

pub returns-clause-phase : goal.returns-clause-phase
returns-clause-phase c =
    let first = ends_of c.new-faults.ensures (notes_then c.in_ok-targets.ensures.noted c.check_contributions.ensures) refl in
    ends_with (uses_broken c.args.grammar.now c.args.attributes.now.attributes (map seen_given c.args.equations.now) (map seen_offer c.args.contributions.now)) _ (Ok tt) c.in_ok-answer.ensures first
