use Rattle.std.proofs.Common.{◌≡◌, ◌<◌, ◌∙◌, ap, arith, length, subst, sym}
use Rattle.equation_law.specs.Systems.{program_of}
use Rattle.memo_cells.specs.declared.view.Frame.{Frame}
use Rattle.memo_cells.specs.Working.{told_by}
use Rattle.memo_cells.proofs.Holding.{reads_itself, reads_then}
use Rattle.collection_attrs.specs.Walks.{IsWalk, Walk}
use Rattle.collection_attrs.proofs.Walked.{walk_begins}
use Rattle.rag_tests.proofs.walks.all_along.Goals as goal

pub loop-place-init : goal.loop-place-init
loop-place-init c =
    let p = program_of c.args.system.now in
    let t = told_by c.args.work.now in
    let same : length c.tree.result.now ≡ length p.tree = ap length c.tree.ensures in
    let some : 0 < length p.tree = omega (arith, same, c.len.ensures.number, c.len.ensures.some) in
    record {
      on = reads_itself c.args.work.now c.requires.own;
      walk = subst (λ (w : Walk). IsWalk p t w) (sym c.new-offers.ensures) (walk_begins p t 4 0 some);
    }

pub sum_along-requires-clause-same : goal.sum_along-requires-clause-same
sum_along-requires-clause-same c = ap (λ (f : Frame). f.system.value) c.loop-place.invariant.on.on.cells ∙ c.requires.same

pub loop-place-preserved : goal.loop-place-preserved
loop-place-preserved c = record {
  on = reads_then c.args.work.now c.loop-place.work c.sum_along.new.work c.loop-place.invariant.on c.sum_along.ensures.on;
  walk = c.sum_along.ensures.walk;
}
