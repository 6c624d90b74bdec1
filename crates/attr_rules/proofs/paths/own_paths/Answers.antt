use Rattle.std.proofs.Common.{refl}
use Rattle.attr_rules.proofs.OwnPaths.{adds_within, paths_all, paths_more}
use Rattle.attr_rules.proofs.paths.own_paths.Goals as goal

pub loop-i-preserved : goal.loop-i-preserved
loop-i-preserved c =
    paths_more c.args.classes c.args.targets.now c.loop-i.i _ (record { 0 = c.loop-i.i }) c.loop-i-test.true refl (adds_within _ _ c.loop-i.lists c.deref_mut.ensures.value c.in_ok-add.ensures refl) c.loop-i.invariant

pub returns : goal.returns
returns c = paths_all c.args.classes c.args.targets.now c.loop-i.i c.loop-i-test.false c.loop-i.invariant
