use Rattle.std.proofs.Common.{◌+◌, List, subst, sym}
use Rattle.equation_law.specs.declared.coding.Instance.{Instance as CodedInstance}
use Rattle.memo_cells.specs.Sealing.{AreSealedTo, SealsTo, TellsNext, places, places_left}
use Rattle.memo_cells.specs.Standing.{IsTold}
use Rattle.memo_cells.proofs.Sealing.{seals_none, seals_then, tells_more, tells_none}
use Rattle.memo_cells.proofs.cells.Cells.mark_all.Goals as goal

pub loop-number-init : goal.loop-number-init
loop-number-init c = record {
  words = seals_none c.args.self.now c.args.known.now.value.made (places c.args.set.now) (places c.args.set.now) c.args.keys.now.items c.args.words.now.items c.requires.noted;
  told = tells_none c.args.self.now c.args.known.now.value.made c.args.set.now c.args.keys.now.items c.args.words.now.items c.args.known.now.value c.requires.told;
}

pub loop-number-preserved : goal.loop-number-preserved
loop-number-preserved c =
    let ms = c.args.known.now.value.made in
    let same = c.loop-number.invariant.told.told.made in
    record {
      words = seals_then c.args.self.now ms (places c.args.set.now) (places_left 0 c.args.set.now) (places_left c.loop-number.number c.args.set.now) (places_left (c.loop-number.number + 1) c.args.set.now) c.args.keys.now.items c.args.words.now.items c.loop-number.words.items c.mark_one.new.words.items c.loop-number.invariant.words (subst (λ (l : List CodedInstance). SealsTo c.args.self.now l c.args.set.now c.loop-number.number (c.loop-number.number + 1) c.args.keys.now.items c.loop-number.words.items c.mark_one.new.words.items) same c.mark_one.ensures.sealed);
      told = tells_more c.args.self.now ms c.args.set.now c.loop-number.number c.args.keys.now.items c.loop-number.words.items c.mark_one.new.words.items c.args.known.now.value c.loop-number.known.value c.mark_one.new.known.value c.loop-number.invariant.told (subst (λ (l : List CodedInstance). TellsNext c.args.self.now l c.args.set.now c.loop-number.number c.args.keys.now.items c.mark_one.new.words.items c.loop-number.known.value c.mark_one.new.known.value) same c.mark_one.ensures.told);
    }

pub mark_one-requires-clause-noted : goal.mark_one-requires-clause-noted
mark_one-requires-clause-noted c = subst (λ (l : List CodedInstance). AreSealedTo c.args.self.now l c.args.set.now c.loop-number.number c.args.keys.now.items c.loop-number.words.items) (sym c.loop-number.invariant.told.told.made) c.loop-number.invariant.words.sealing

pub mark_one-requires-clause-told : goal.mark_one-requires-clause-told
mark_one-requires-clause-told c = subst (λ (l : List CodedInstance). IsTold c.args.self.now l c.args.keys.now.items c.loop-number.words.items c.loop-number.known.value) (sym c.loop-number.invariant.told.told.made) c.loop-number.invariant.told.told
