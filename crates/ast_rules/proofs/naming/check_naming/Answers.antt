use Rattle.std.proofs.Common.{rules, refl}
use Rattle.std.specs.Prelude.{Ok, Err}
use Rattle.broken_rules.proofs.Exits.{ends_with, ends_passed}
use Rattle.ast_rules.proofs.Known.{naming_ends, naming_names}
use Rattle.ast_rules.proofs.Seen.{notes_each_seen, notes_all_seen}
use Rattle.ast_rules.specs.Naming.{naming_broken}
use Rattle.ast_rules.specs.Written.{seen_rules}
use Rattle.ast_rules.proofs.naming.check_naming.Goals as goal

pub loop-rule-preserved : goal.loop-rule-preserved
loop-rule-preserved c = search (rules, notes_each_seen)

pub returns-in_err-answer-clause-phase : goal.returns-in_err-answer-clause-phase
returns-in_err-answer-clause-phase c =
    let phase = naming_broken (seen_rules c.args.rules.now) in
    let first = naming_ends (seen_rules c.args.rules.now) c.in_ok-names.ensures.names c.new-faults.ensures c.in_ok-names.ensures.noted (search (rules, notes_all_seen)) refl in
    ends_passed phase c.from_residual-in_err-answer.result c.in_err-answer.field-0.0 c.from_residual-in_err-answer.ensures.1 (ends_with phase _ (Err c.in_err-answer.field-0.0) c.in_err-answer.ensures first)

pub returns-clause-phase : goal.returns-clause-phase
returns-clause-phase c =
    let first = naming_ends (seen_rules c.args.rules.now) c.in_ok-names.ensures.names c.new-faults.ensures c.in_ok-names.ensures.noted (search (rules, notes_all_seen)) refl in
    ends_with (naming_broken (seen_rules c.args.rules.now)) _ (Ok tt) c.in_ok-answer.ensures first

pub returns-clause-names : goal.returns-clause-names
returns-clause-names c = naming_names (seen_rules c.args.rules.now) c.in_ok-names.ensures.numbers (returns-clause-phase c)
