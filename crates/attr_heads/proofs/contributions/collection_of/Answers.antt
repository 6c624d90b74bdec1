use Rattle.attr_heads.proofs.TargetsNoted.{within_superclasses}
use Rattle.attr_heads.proofs.contributions.collection_of.Goals as goal

pub collection_named-requires : goal.collection_named-requires
collection_named-requires c = within_superclasses c.args.grammar.now c.requires c.in_ok-class.ensures.within
