use Rattle.std.proofs.Common.{length, refl}
use Rattle.attr_rules.proofs.NamedAttributes.{so_far_more}
use Rattle.attr_rules.proofs.attributes.numbered.Goals as goal

pub loop-attribute-preserved : goal.loop-attribute-preserved
loop-attribute-preserved c =
    so_far_more c.loop-attribute.names c.number_name.new.names c.args.list.now c.loop-attribute.attribute-index (length c.args.names.now) _ _ c.loop-attribute-test.true
    c.in_ok-name.ensures.kept c.in_ok-name.ensures.few c.in_ok-name.ensures.number refl refl c.in_ok-push.ensures c.loop-attribute.invariant
