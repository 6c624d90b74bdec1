use Rattle.std.proofs.Common.{refl, ◌∙◌}
use Rattle.broken_rules.proofs.Rules.{code_at}
use Rattle.broken_rules.proofs.rule.Rule.code.Goals as goal

pub returns : goal.returns
returns c = c.text_at.ensures ∙ code_at _ _ c.args.self refl (c.from.ensures ∙ c.number.ensures)
