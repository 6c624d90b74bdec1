use Rattle.std.proofs.Common.{rules, [], ◌∙◌, ⊎_elim}
use Rattle.equation_law.specs.Systems.{program_of}
use Rattle.equation_law.proofs.Pooled.{texts_pooled}
use Rattle.memo_cells.proofs.Agreeing.{own_open}
use Rattle.memo_cells.proofs.Causes.{log_then}
use Rattle.memo_cells.proofs.Telling.{kind_told, raises_set, raises_truth, refused_set, truth_word}
use Rattle.memo_cells.proofs.More.{at_least_then}
use Rattle.memo_cells.proofs.Showing.{not_both}
use Rattle.memo_cells.proofs.cells.Cells.raise.Goals as goal

pub is_of_truth-requires-clause-cell : goal.is_of_truth-requires-clause-cell
is_of_truth-requires-clause-cell c = ⊎_elim (λ a. (a.0.of, (a.0.key, (c.requires.slot, a.0.here), a.0.stands))) (λ a. (a.of, (a.key, (c.requires.slot, a.here), a.stands))) c.requires.may

pub raise_truth-requires-clause-may : goal.raise_truth-requires-clause-may
raise_truth-requires-clause-may c = (raises_truth (program_of c.args.self.now.system.value) c.args.self.now c.args.pass.now c.is_of_truth.new.pass c.is_of_truth.ensures.kept c.args.slot.0 c.args.word c.args.bits c.requires.slot c.requires.some (search rules) c.is_of_truth.result c.is_of_truth.ensures.truth c.if-is_of_truth.true c.requires.may).0

pub returns-then-is_of_truth-clause-raised : goal.returns-then-is_of_truth-clause-raised
returns-then-is_of_truth-clause-raised c =
    let t = raises_truth (program_of c.args.self.now.system.value) c.args.self.now c.args.pass.now c.is_of_truth.new.pass c.is_of_truth.ensures.kept c.args.slot.0 c.args.word c.args.bits c.requires.slot c.requires.some (search rules) c.is_of_truth.result c.is_of_truth.ensures.truth c.if-is_of_truth.true c.requires.may in
    truth_word (program_of c.args.self.now.system.value) c.args.self.now c.raise_truth.new.pass c.args.slot.0 c.args.word c.args.bits c.raise_truth.result t.1 t.2 c.raise_truth.ensures.raised

pub raise_set-requires-clause-may : goal.raise_set-requires-clause-may
raise_set-requires-clause-may c = raises_set (program_of c.args.self.now.system.value) c.args.self.now c.args.pass.now c.is_of_truth.new.pass c.is_of_truth.ensures.kept c.args.slot.0 c.args.word c.args.bits c.requires.slot c.requires.some (search rules) c.is_of_truth.result c.is_of_truth.ensures.truth c.if-is_of_truth.false c.requires.may

pub returns-else-is_of_truth-clause-set : goal.returns-else-is_of_truth-clause-set
returns-else-is_of_truth-clause-set c =
    refused_set (program_of c.args.self.now.system.value) c.args.self.now c.is_of_truth.new.pass c.raise_set.new.pass c.raise_set.ensures.kept c.raise_set.ensures.own (texts_pooled c.args.self.now.system.value) (own_open c.args.self.now c.raise_set.new.pass [] c.raise_set.ensures.own) c.args.slot.0 c.args.word c.args.bits c.requires.some (search rules)
    (raises_set (program_of c.args.self.now.system.value) c.args.self.now c.args.pass.now c.is_of_truth.new.pass c.is_of_truth.ensures.kept c.args.slot.0 c.args.word c.args.bits c.requires.slot c.requires.some (search rules) c.is_of_truth.result c.is_of_truth.ensures.truth c.if-is_of_truth.false c.requires.may) c.raise_set.result

pub returns-else-is_of_truth-clause-truth : goal.returns-else-is_of_truth-clause-truth
returns-else-is_of_truth-clause-truth c = λ i at e.
    absurd (not_both c.if-is_of_truth.false (kind_told (program_of c.args.self.now.system.value) c.args.self.now c.args.pass.now c.raise_set.new.pass (at_least_then c.is_of_truth.ensures.kept c.raise_set.ensures.kept) c.raise_set.ensures.own (texts_pooled c.args.self.now.system.value) (own_open c.args.self.now c.raise_set.new.pass [] c.raise_set.ensures.own) c.args.slot.0 c.is_of_truth.result c.is_of_truth.ensures.truth (⊎_elim (λ a. (a.0.of, (a.0.key, (c.requires.slot, a.0.here), a.0.stands))) (λ a. (a.of, (a.key, (c.requires.slot, a.here), a.stands))) c.requires.may) i at ∙ e))

pub returns-then-is_of_truth-clause-log : goal.returns-then-is_of_truth-clause-log
returns-then-is_of_truth-clause-log c = log_then c.is_of_truth.ensures.log c.raise_truth.ensures.log

pub returns-else-is_of_truth-clause-log : goal.returns-else-is_of_truth-clause-log
returns-else-is_of_truth-clause-log c = log_then c.is_of_truth.ensures.log c.raise_set.ensures.log
