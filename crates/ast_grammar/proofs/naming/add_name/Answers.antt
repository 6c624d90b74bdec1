use Rattle.std.proofs.Common.{◌∙◌}
use Rattle.ast_grammar.proofs.Table.{with_text_is}
use Rattle.ast_grammar.proofs.naming.add_name.Goals as goal

pub returns-in-Ok : goal.returns-in-Ok
returns-in-Ok c = c.in-Ok.ensures.added ∙ with_text_is c.args.names.now c.args.name.now
