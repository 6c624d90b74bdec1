-- The slots before the next one are sealed, and the pass knows it.
use Rattle.memo_cells.specs.Sealing.{SealsTo, TellsSealed}
use Rattle.memo_cells.proofs.cells.Cells.mark_all.Given as goal

abbrev pub invariant-loop-number : goal.invariant-loop-number
invariant-loop-number l = record {
  words : SealsTo l.self l.initial.known.value.made l.set 0 l.number l.keys.items l.initial.words.items l.words.items;
  told : TellsSealed l.self l.initial.known.value.made l.set l.number l.keys.items l.words.items l.initial.known.value l.known.value;
}
