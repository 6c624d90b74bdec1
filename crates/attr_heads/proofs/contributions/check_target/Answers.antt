use Rattle.std.proofs.Common.{◌<◌, IfSome, length, subst}
use Rattle.ast_grammar.specs.declared.grammar.ClassId.{ClassId}
use Rattle.attr_heads.proofs.TargetsNoted.{within_superclasses}
use Rattle.attr_heads.proofs.contributions.check_target.Goals as goal

pub collection_named-collection-requires : goal.collection_named-collection-requires
collection_named-collection-requires c =
    let g = c.args.grammar.now in
    within_superclasses g c.requires.superclasses (subst (λ o. IfSome o (λ (x : ClassId). x.0 < length g)) c.in-Some.is c.requires.within)
