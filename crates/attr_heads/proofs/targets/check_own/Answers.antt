use Rattle.std.proofs.Common.{◌<◌, IfSome, length, subst}
use Rattle.ast_grammar.specs.declared.grammar.ClassId.{ClassId}
use Rattle.attr_heads.proofs.TargetsNoted.{within_superclasses}
use Rattle.attr_heads.proofs.targets.check_own.Goals as goal

pub own_attribute-attribute-requires : goal.own_attribute-attribute-requires
own_attribute-attribute-requires c =
    let g = c.args.grammar.now in
    within_superclasses g c.requires.superclasses (subst (λ o. IfSome o (λ (x : ClassId). x.0 < length g)) c.in_ok-class.was c.requires.within)
