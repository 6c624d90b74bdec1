use Rattle.plain_rounds.specs.Places.{kept_place}
use Rattle.plain_rounds.proofs.Kept.{next_kept}
use Rattle.plain_rounds.proofs.places.Places.of_names.Goals as goal

pub loop-k-preserved : goal.loop-k-preserved
loop-k-preserved c =
    next_kept c.args.names.now c.loop-k.k _ (kept_place c.loop-k.map) (kept_place c.keep_first.new.map) c.loop-k-test.true c.loop-k.invariant c.in_ok-keep_first.ensures
