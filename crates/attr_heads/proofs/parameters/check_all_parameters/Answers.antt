use Rattle.std.proofs.Common.{ap, map, option_map}
use Rattle.std.proofs.lemmas.Result.{on_ok_weaker}
use Rattle.std.specs.Borrow.{Bor}
use Rattle.aspect_items.specs.declared.items.Signature as kept_signature
use Rattle.aspect_items.specs.Items.{Signature, seen_parameter, seen_signature}
use Rattle.attr_heads.proofs.ParametersNoted.{all_noted}
use Rattle.attr_heads.proofs.parameters.check_all_parameters.Goals as goal

abbrev seen : Bor kept_signature.Signature → Signature
seen s = seen_signature s.now

pub returns : goal.returns
returns c =
    on_ok_weaker c.check_parameters-2.result
    (λ h. all_noted c.args.grammar.now (option_map seen c.args.path) (seen_signature c.args.attribute.now) c.new-names.ensures c.path_parameters.ensures (ap (map seen_parameter) c.deref.ensures.value) c.in_ok-check_parameters.ensures.names
    c.in_ok-check_parameters.ensures.noted h)
    c.check_parameters-2.ensures.noted
