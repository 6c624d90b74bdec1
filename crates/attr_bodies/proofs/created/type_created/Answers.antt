use Rattle.attr_scope.specs.Seen.{seen_scope}
use Rattle.attr_bodies.proofs.CreatedForms.{root_noted}
use Rattle.attr_bodies.proofs.created.type_created.Goals as goal

pub returns-in_ok-arguments-in-New-clause-noted : goal.returns-in_ok-arguments-in-New-clause-noted
returns-in_ok-arguments-in-New-clause-noted c =
    root_noted (seen_scope c.args.scope.now) c.in-New.arguments c.deref.result.now c.check_class-class.result c.in-New.is c.deref.ensures.value c.check_class-class.ensures.class c.args.wanted _ c.new_said-said.result _
    c.check_class-class.ensures.noted c.in_ok-arguments-in-New.ensures.noted c.type_of_class.ensures c.check_fit.ensures c.in_ok-arguments-in-New.ensures.says c.new_said-said.ensures c.check_size.ensures
