use Rattle.aspect_items.specs.Expressions.{seen_name}
use Rattle.attr_heads.proofs.TargetsNoted.{held_more, second_noted}
use Rattle.attr_heads.proofs.targets.check_second.Goals as goal

pub returns-clause-noted : goal.returns-clause-noted
returns-clause-noted c = λ g attributes before held. second_noted g attributes before (seen_name c.args.name.now) c.in-Some.is held c.in-Ok.ensures.added c.note_if.ensures

pub returns-clause-held : goal.returns-clause-held
returns-clause-held c = λ g attributes before e held is. held_more g attributes before e c.in-Some.is is held c.in-Ok.ensures.updates
