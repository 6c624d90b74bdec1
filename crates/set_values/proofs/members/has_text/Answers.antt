use Rattle.std.proofs.Common.{ap, sym, ◌∙◌}
use Rattle.equation_law.specs.Sets.{has}
use Rattle.equation_law.specs.Systems.{program_of}
use Rattle.set_values.specs.CodedSets.{text_set}
use Rattle.set_values.proofs.TextCodes.{has_text_code}
use Rattle.set_values.proofs.members.has_text.Goals as goal

pub returns : goal.returns
returns c =
    let system = c.args.system.now in
    c.has.ensures
    ∙ sym (has_text_code system c.known_text.result c.known_text.ensures.within c.args.codes.now c.requires)
    ∙ ap (has (text_set (program_of system) c.args.codes.now)) c.known_text.ensures.text
