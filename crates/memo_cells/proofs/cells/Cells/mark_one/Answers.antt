use Rattle.std.proofs.Common.{rules, get_or, set, refl, sym, subst}
use Rattle.memo_cells.specs.declared.view.View.{View}
use Rattle.memo_cells.specs.declared.keys.Slot.{Slot}
use Rattle.memo_cells.specs.Sealing.{LogsNext, TellsNext}
use Rattle.memo_cells.proofs.Sealing.{next_found, next_inside, next_marked, next_told}
use Rattle.memo_cells.proofs.cells.Cells.mark_one.Goals as goal

pub index-found-requires : goal.index-found-requires
index-found-requires c =
    let place = next_inside c.args.self.now c.args.known.now.value.made c.args.set.now c.args.number c.args._keys.now.items c.args.words.now.items (record { 0 = 0 }) c.requires.number c.requires.noted in
    search (rules, place)

pub index_mut-requires : goal.index_mut-requires
index_mut-requires c =
    let place = next_inside c.args.self.now c.args.known.now.value.made c.args.set.now c.args.number c.args._keys.now.items c.args.words.now.items (record { 0 = 0 }) c.requires.number c.requires.noted in
    search (rules, place)

pub returns-clause-sealed : goal.returns-clause-sealed
returns-clause-sealed c = next_marked c.args.self.now c.args.known.now.value.made c.args.set.now c.args.number c.args._keys.now.items c.args.words.now.items _ c.requires.number c.requires.noted _ c.index-found.result.now c.with_mark-left.result refl c.index-found.ensures c.with_mark-left.ensures

pub returns-clause-found : goal.returns-clause-found
returns-clause-found c =
    let slot : Slot = record { 0 = 0 } in
    subst (λ (w : View). LogsNext c.args.self.now c.args.set.now c.args.number c.args.words.now.items c.args.known.now.value w) (sym c.learn.ensures)
    (next_found c.args.self.now c.args.set.now c.args.number c.args.words.now.items slot c.args.known.now.value c.requires.told.frame _ c.index-found.result.now c.with_mark-left.result refl c.index-found.ensures)

pub returns-clause-told : goal.returns-clause-told
returns-clause-told c =
    let slot : Slot = record { 0 = 0 } in
    subst (λ (w : View). TellsNext c.args.self.now c.args.known.now.value.made c.args.set.now c.args.number c.args._keys.now.items (set c.args.words.now.items (get_or c.args.set.now c.args.number slot).0 c.with_mark-left.result) c.args.known.now.value w) (sym c.learn.ensures)
    (next_told c.args.self.now c.args.known.now.value.made c.args.set.now c.args.number c.args._keys.now.items c.args.words.now.items _ c.requires.number c.requires.noted c.args.known.now.value c.requires.told _ c.index-found.result.now c.with_mark-left.result refl c.index-found.ensures c.with_mark-left.ensures)
