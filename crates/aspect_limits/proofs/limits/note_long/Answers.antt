use Rattle.std.proofs.Common.{arith, get_or}
use Rattle.rag_io.specs.Tokens.{seen_tokens}
use Rattle.aspect_limits.proofs.NotedLong.{counted_few, noted_all, turn_action, turn_token}
use Rattle.aspect_limits.proofs.limits.note_long.Goals as goal
use Rattle.aspect_limits.proofs.limits.note_long.Goals.{else-event, then-event}

pub loop-event-preserved : goal.loop-event-preserved
loop-event-preserved c =
    let ts = seen_tokens c.args.tokens.now in
    let es = c.args.sentence.now in
    let i = c.loop-event.event-index in
    let so_far = c.loop-event.invariant in
    let next = c.counted-inside.result in
    let counts = c.counted-inside.ensures in
    elim c.if-event.branch [
      | then-event w ↦ record {
        few = omega (arith, so_far.few, w.at-is);
        few_inside = counted_few (get_or es i 0) c.loop-event.inside next i so_far.few_inside counts;
        notes = turn_token ts es c.args.broken.now c.loop-event.broken c.loop-event.inside c.loop-event.at i 0 c.loop-event-test.true so_far.notes
            c.if-event.broken next c.if-event.at w.if-event.true w.at-is (rw w.broken-is w.note_token.ensures) counts;
      }
      | else-event w ↦ record {
        few = omega (arith, so_far.few, w.at-is);
        few_inside = counted_few (get_or es i 0) c.loop-event.inside next i so_far.few_inside counts;
        notes = turn_action ts es c.args.broken.now c.loop-event.broken c.loop-event.inside c.loop-event.at i 0 c.loop-event-test.true so_far.notes
            c.if-event.broken next c.if-event.at w.if-event.false w.at-is w.broken-is counts;
      }
    ]

pub returns : goal.returns
returns c =
    noted_all (seen_tokens c.args.tokens.now) c.args.sentence.now c.args.broken.now c.loop-event.broken c.loop-event.inside _ c.loop-event.event-index
    c.loop-event-test.false c.loop-event.invariant.notes
