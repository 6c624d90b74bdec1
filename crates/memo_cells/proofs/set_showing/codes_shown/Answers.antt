use Rattle.std.proofs.Common.{rules, ◌/◌, subst, sym, ℕ, List}
use Rattle.memo_cells.proofs.Holding.{cell_on, reads_then}
use Rattle.memo_cells.specs.SetShown.{AddsWord, AreCodesShownAt}
use Rattle.memo_cells.specs.Working.{program_at}
use Rattle.memo_cells.proofs.SetReading.{ReadsBelow, adds_none, none_shown, reads_next, reads_none, shown_all}
use Rattle.memo_cells.proofs.set_showing.codes_shown.Goals.{then-bits-ne0+in_ok-add_word, else-bits-ne0}
use Rattle.memo_cells.proofs.set_showing.codes_shown.Goals as goal

pub returns-then-to-from-clause-shown : goal.returns-then-to-from-clause-shown
returns-then-to-from-clause-shown g c =
    let d = g.W.Words.held c.args.work.now in
    subst (λ (cs : List ℕ). AreCodesShownAt d d c.args.slot.0 c.args.from c.args.to cs) (sym c.none-codes.ensures) (none_shown d c.args.slot.0 c.args.from c.args.to c.requires.own (search rules))

pub loop-word-init : goal.loop-word-init
loop-word-init g c =
    let d = g.W.Words.held c.args.work.now in
    subst (λ (cs : List ℕ). ReadsBelow d d c.args.slot.0 c.args.from c.args.to (c.args.from / 64) cs) (sym c.none-codes.ensures) (reads_none d c.args.slot.0 c.args.from c.args.to c.requires.own)

pub returns-clause-shown : goal.returns-clause-shown
returns-clause-shown g c = λ i cell set.
    let d = g.W.Words.held c.args.work.now in
    shown_all (program_at d) d.view (g.W.Words.held c.loop-word.work).view i c.args.from c.args.to c.loop-word.word c.loop-word.codes (search rules) (c.loop-word.invariant.shown i cell set)

pub word-bits-requires-clause-cell : goal.word-bits-requires-clause-cell
word-bits-requires-clause-cell g c = (c.requires.cell.0, cell_on (g.W.Words.held c.args.work.now) (g.W.Words.held c.loop-word.work) c.loop-word.invariant.on.on c.requires.cell.0 c.args.slot.0 c.requires.cell.1)

pub loop-word-preserved : goal.loop-word-preserved
loop-word-preserved g c =
    reads_next (g.W.Words.held c.args.work.now) (g.W.Words.held c.loop-word.work) (g.W.Words.held c.word-bits.new.self) c.args.slot.0 c.args.from c.args.to c.loop-word.word c.word-bits.result c.loop-word.codes c.if-bits-ne0.codes c.loop-word.invariant c.word-bits.ensures.on c.word-bits.ensures.word c.word-bits.ensures.settled
    (elim c.if-bits-ne0.branch [
      | then-bits-ne0+in_ok-add_word w ↦ subst (λ (l : List ℕ). AddsWord c.loop-word.word c.word-bits.result c.args.from c.args.to c.loop-word.codes l) (sym w.codes-is) w.in_ok-add_word.ensures
      | else-bits-ne0 w ↦ subst (λ (y : ℕ × List ℕ). AddsWord c.loop-word.word y.0 c.args.from c.args.to c.loop-word.codes y.1) (λ i. (sym w.if-bits-ne0.false i, sym w.codes-is i)) (adds_none c.loop-word.word c.args.from c.args.to c.loop-word.codes)
    ])

pub returns-in_err-add_word-clause-on : goal.returns-in_err-add_word-clause-on
returns-in_err-add_word-clause-on g c = reads_then (g.W.Words.held c.args.work.now) (g.W.Words.held c.loop-word.work) (g.W.Words.held c.word-bits.new.self) c.loop-word.invariant.on c.word-bits.ensures.on
