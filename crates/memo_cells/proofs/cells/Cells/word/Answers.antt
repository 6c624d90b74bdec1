use Rattle.std.proofs.Common.{[]}
use Rattle.equation_law.specs.Systems.{program_of}
use Rattle.equation_law.proofs.Pooled.{texts_pooled}
use Rattle.memo_cells.proofs.Agreeing.{own_open}
use Rattle.memo_cells.proofs.Causes.{log_then}
use Rattle.memo_cells.proofs.More.{at_least_then}
use Rattle.memo_cells.proofs.Naming.{knows_later}
use Rattle.memo_cells.proofs.Showing.{word_before}
use Rattle.memo_cells.proofs.Telling.{kind_other, kind_true, known_value, other_known, truth_known, word_of_other, word_of_truth}
use Rattle.memo_cells.proofs.cells.Cells.word.Goals as goal

pub returns-then-is_of_truth-clause-word : goal.returns-then-is_of_truth-clause-word
returns-then-is_of_truth-clause-word c = λ i at. word_of_truth (program_of c.args.self.now.system.value) c.args.self.now c.args.pass.now c.look_bits.new.pass (at_least_then c.is_of_truth.ensures.kept c.look_bits.ensures.kept) c.look_bits.ensures.own (texts_pooled c.args.self.now.system.value) (own_open c.args.self.now c.look_bits.new.pass [] c.look_bits.ensures.own) c.args.slot.0 c.is_of_truth.result c.is_of_truth.ensures.truth c.requires.cell c.is_of_truth.new.pass c.args.word c.look_bits.result c.if-is_of_truth.true c.look_bits.ensures.seen i at

pub returns-then-is_of_truth-clause-settled : goal.returns-then-is_of_truth-clause-settled
returns-then-is_of_truth-clause-settled c = λ i at known.
    truth_known c.args.self.now c.args.pass.now c.is_of_truth.new.pass c.look_bits.new.pass c.is_of_truth.ensures.kept c.look_bits.ensures.kept c.look_bits.ensures.own i known c.args.slot.0 at c.args.word c.look_bits.result
    (kind_true (program_of c.args.self.now.system.value) c.args.self.now c.args.pass.now c.look_bits.new.pass (at_least_then c.is_of_truth.ensures.kept c.look_bits.ensures.kept) c.look_bits.ensures.own (texts_pooled c.args.self.now.system.value) (own_open c.args.self.now c.look_bits.new.pass [] c.look_bits.ensures.own) c.args.slot.0 c.is_of_truth.result c.is_of_truth.ensures.truth c.requires.cell c.if-is_of_truth.true i at)
    c.look_bits.ensures.seen

pub returns-else-is_of_truth-clause-word : goal.returns-else-is_of_truth-clause-word
returns-else-is_of_truth-clause-word c = λ i at. word_of_other (program_of c.args.self.now.system.value) c.args.self.now c.args.pass.now c.word_of_set.new.pass (at_least_then c.is_of_truth.ensures.kept c.word_of_set.ensures.kept) c.word_of_set.ensures.own (texts_pooled c.args.self.now.system.value) (own_open c.args.self.now c.word_of_set.new.pass [] c.word_of_set.ensures.own) c.args.slot.0 c.is_of_truth.result c.is_of_truth.ensures.truth c.requires.cell c.args.word c.word_of_set.result c.if-is_of_truth.false c.word_of_set.ensures.word i at

pub returns-else-is_of_truth-clause-settled : goal.returns-else-is_of_truth-clause-settled
returns-else-is_of_truth-clause-settled c = λ i at known.
    let program = program_of c.args.self.now.system.value in
    let kept = at_least_then c.is_of_truth.ensures.kept c.word_of_set.ensures.kept in
    let before = knows_later c.args.pass.now c.is_of_truth.new.pass c.is_of_truth.ensures.kept program i known in
    other_known program c.args.pass.now.made i c.args.word c.word_of_set.result
    (kind_other program c.args.self.now c.args.pass.now c.word_of_set.new.pass kept c.word_of_set.ensures.own (texts_pooled c.args.self.now.system.value) (own_open c.args.self.now c.word_of_set.new.pass [] c.word_of_set.ensures.own) c.args.slot.0 c.is_of_truth.result c.is_of_truth.ensures.truth c.requires.cell c.if-is_of_truth.false i at)
    (λ set. word_before program c.is_of_truth.ensures.kept.made (own_open c.args.self.now c.is_of_truth.new.pass [] c.is_of_truth.ensures.own) i c.args.word c.word_of_set.result (c.word_of_set.ensures.settled i at set before)) (known_value c.args.self.now c.args.pass.now c.requires.own i known)

pub returns-then-is_of_truth-clause-log : goal.returns-then-is_of_truth-clause-log
returns-then-is_of_truth-clause-log c = log_then c.is_of_truth.ensures.log c.look_bits.ensures.log

pub returns-else-is_of_truth-clause-log : goal.returns-else-is_of_truth-clause-log
returns-else-is_of_truth-clause-log c = log_then c.is_of_truth.ensures.log c.word_of_set.ensures.log
