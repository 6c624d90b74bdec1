use Rattle.std.proofs.Common.{refl, map, ap}
use Rattle.ast_rules.specs.Written.{seen_component, seen_rule, seen_rules}
use Rattle.ast_rules.proofs.Inheriting.{on_ok, class_noted}
use Rattle.ast_rules.proofs.members.check_class.Goals as goal

pub returns : goal.returns
returns c = on_ok c.check_own.result (λ h. class_noted (seen_rules c.args.rules.now) c.args.superclasses.now c.args.number (seen_rule c.args.rule.now) c.in_ok-inherited.inherited.names c.in_ok-inherited.inherited.count c.in_ok-inherited.ensures (ap (map seen_component) c.as_slice-components.ensures.value) refl c.note_if.ensures h) c.check_own.ensures
