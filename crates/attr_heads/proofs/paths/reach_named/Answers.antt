use Rattle.attr_heads.proofs.TargetsNoted.{within_superclasses}
use Rattle.attr_heads.proofs.paths.reach_named.Goals as goal

pub created_attribute-requires : goal.created_attribute-requires
created_attribute-requires c = within_superclasses c.args.grammar.now c.requires.superclasses c.requires.within
