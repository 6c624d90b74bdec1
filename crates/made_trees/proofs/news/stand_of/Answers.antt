use Rattle.std.proofs.Common.{sym, ap, ◌∙◌}
use Rattle.std.specs.Option.{option_map}
use Rattle.attr_rules.specs.Expression.{new_arguments_of}
use Rattle.made_trees.specs.Stands.{stand_of}
use Rattle.made_trees.proofs.Finding.{from_root}
use Rattle.made_trees.proofs.news.stand_of.Goals as goal

pub returns : goal.returns
returns c = from_root (record { class = c.args.class; arguments = new_arguments_of c.args.parts.now }) c.args.position c.find.result c.if-position-eq0.false c.find.ensures ∙ ap (option_map stand_of) (sym c.ok.ensures.value)
