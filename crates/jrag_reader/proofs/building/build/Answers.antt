use Rattle.std.proofs.Common.{Err, ap, sym, subst, ◌∙◌, slice_index_or}
use Rattle.rag_io.specs.Tokens.{seen_tokens}
use Rattle.jrag_reader.specs.Building.{seen_builder}
use Rattle.jrag_reader.specs.Running.{step}
use Rattle.jrag_reader.specs.Stack.{Makes}
use Rattle.jrag_reader.proofs.Ongoing.{going_on, never_stuck}
use Rattle.jrag_reader.proofs.building.build.Goals as goal

pub unreachable-requires : goal.unreachable-requires
unreachable-requires g c =
    let ts = seen_tokens c.args.tokens.now in
    let e = slice_index_or c.args.sentence.now c.events.event-index 0 in
    never_stuck c.args.start g.texts ts (seen_builder c.events.b) (seen_builder c.step.new.b) c.requires.1.to c.args.sentence.now c.events.event-index
    c.events-test.true (c.events.invariant ∙ c.requires.1.is)
    (subst (λ z. Makes (step c.args.start g.texts ts (seen_builder c.events.b) e) z (seen_builder c.step.new.b)) (c.in-Err-Misfit.is ∙ ap Err c.in-Err-Misfit.field-0-is) c.step.ensures)

pub events-preserved : goal.events-preserved
events-preserved g c =
    let ts = seen_tokens c.args.tokens.now in
    let e = slice_index_or c.args.sentence.now c.events.event-index 0 in
    sym (going_on c.args.start g.texts ts (seen_builder c.events.b) (seen_builder c.step.new.b) c.args.sentence.now c.events.event-index c.in-Ok.field-0 c.events-test.true
    (subst (λ z. Makes (step c.args.start g.texts ts (seen_builder c.events.b) e) z (seen_builder c.step.new.b)) c.in-Ok.is c.step.ensures))
    ∙ c.events.invariant
