use Rattle.aspect_items.specs.Items.{seen_parameter}
use Rattle.attr_heads.proofs.ParametersNoted.{parameter_noted}
use Rattle.attr_heads.proofs.parameters.check_parameter.Goals as goal

pub returns-clause-noted : goal.returns-clause-noted
returns-clause-noted c = λ outer before known long.
    parameter_noted c.args.grammar.now outer before (seen_parameter c.args.parameter.now) known c.deref.ensures.value c.is_no_parameter-is_other.ensures c.in_ok-is_new.ensures.added long c.note_if.ensures c.note_if-2.ensures c.note_if-3.ensures
