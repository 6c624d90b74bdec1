use Rattle.std.proofs.Common.{refl}
use Rattle.attr_rules.proofs.OwnRows.{own_all, own_more, put_within}
use Rattle.attr_rules.proofs.dispatch.own_rows.Goals as goal

pub loop-i-preserved : goal.loop-i-preserved
loop-i-preserved c =
    own_more c.args.targets.now c.args.attributes c.args.classes c.loop-i.i _ (record { 0 = c.loop-i.i }) c.loop-i-test.true refl
    (put_within _ _ c.loop-i.rows c.deref_mut.ensures.value c.put.ensures refl) c.loop-i.invariant

pub returns : goal.returns
returns c = own_all c.args.targets.now c.args.attributes c.args.classes c.loop-i.i c.loop-i-test.false c.loop-i.invariant
