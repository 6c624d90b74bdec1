use Rattle.std.proofs.Common.{sym, ◌∙◌}
use Rattle.caller_pass.proofs.Asked.{any_has}
use Rattle.caller_pass.proofs.asking.stands_before.Goals as goal

pub returns-in-Some : goal.returns-in-Some
returns-in-Some c = λ there. (c.in-Some.front.now, any_has c.in-Some.front.now c.args.on.now (sym c.contains.ensures.value ∙ there), (c.in-Some.field-0-0.now, sym c.list.ensures ∙ c.in-Some.ensures.cases.0))
