use Rattle.std.proofs.Common.{◌<◌, ◌^◌, subst}
use Rattle.attr_rules.specs.declared.kinds.Kind.{Kind}
use Rattle.equation_law.specs.Codes.{IsCode}
use Rattle.equation_law.specs.Systems.{program_of}
use Rattle.made_trees.proofs.Ordered.{by_integers, by_texts}
use Rattle.made_trees.proofs.order.by_codes.Goals as goal

pub returns-in-Int : goal.returns-in-Int
returns-in-Int c n e last names few low =
    let left : c.args.left < 2 ^ 32 = subst (λ (k : Kind). IsCode (program_of c.args.system.now) k c.args.left) c.in-Int.is c.requires.left in
    let right : c.args.right < 2 ^ 32 = subst (λ (k : Kind). IsCode (program_of c.args.system.now) k c.args.right) c.in-Int.is c.requires.right in
    by_integers n c.args.kind c.args.left c.args.right c.cast_signed.result c.cast_signed-in-Int.result c.cmp-in-Int.result c.in-Int.is left right c.cast_signed.ensures c.cast_signed-in-Int.ensures c.cmp-in-Int.ensures

pub returns-in-Text : goal.returns-in-Text
returns-in-Text c n e last names few low =
    by_texts (program_of c.args.system.now) n names c.args.kind c.args.left c.args.right c.get.result.now c.get-in-Text.result.now c.pool-pool.result.now c.cmp-in-Text.result c.in-Text.is c.pool-pool.ensures c.get.ensures.text c.get-in-Text.ensures.text c.cmp-in-Text.ensures
