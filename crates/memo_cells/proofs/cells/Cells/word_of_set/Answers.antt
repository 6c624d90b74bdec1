use Rattle.std.proofs.Common.{rules, []}
use Rattle.equation_law.specs.Systems.{program_of}
use Rattle.equation_law.proofs.Pooled.{texts_pooled}
use Rattle.memo_cells.specs.Keys.{set_word}
use Rattle.memo_cells.proofs.Agreeing.{own_open}
use Rattle.memo_cells.proofs.Causes.{log_then}
use Rattle.memo_cells.proofs.More.{at_least_itself}
use Rattle.memo_cells.proofs.Naming.{knows_later}
use Rattle.memo_cells.proofs.Seeing.{none_seen, set_seen}
use Rattle.memo_cells.proofs.Showing.{word_before}
use Rattle.memo_cells.proofs.Telling.{known_key}
use Rattle.memo_cells.proofs.cells.Cells.word_of_set.Goals as goal

pub returns-in-Some-clause-word : goal.returns-in-Some-clause-word
returns-in-Some-clause-word c = λ i cell set. set_seen (program_of c.args.self.now.system.value) c.args.self.now c.look_bits.new.pass c.look_bits.ensures.own (texts_pooled c.args.self.now.system.value) (own_open c.args.self.now c.look_bits.new.pass [] c.look_bits.ensures.own) i c.args.slot.0 cell c.seek.new.pass c.args.word c.look_bits.result c.in-Some.place.0 set (search rules) (search rules) c.in-Some.ensures.slot.1 (c.look_bits.ensures.kept.keys c.in-Some.place.0 _ c.in-Some.ensures.slot.1) c.look_bits.ensures.seen

pub returns-in-None-clause-word : goal.returns-in-None-clause-word
returns-in-None-clause-word c = λ i cell set. none_seen (program_of c.args.self.now.system.value) c.args.self.now c.seek.new.pass c.seek.ensures.own (texts_pooled c.args.self.now.system.value) (own_open c.args.self.now c.seek.new.pass [] c.seek.ensures.own) i c.args.slot.0 cell c.args.word set (search rules) (search rules) c.in-None.ensures.none.nowhere

pub returns-in-Some-clause-settled : goal.returns-in-Some-clause-settled
returns-in-Some-clause-settled c = λ i cell set known.
    let program = program_of c.args.self.now.system.value in
    word_before program c.seek.ensures.kept.made (own_open c.args.self.now c.seek.new.pass [] c.seek.ensures.own) i c.args.word c.look_bits.result
    (c.look_bits.ensures.seen.word (set_word c.args.slot.0 c.args.word) c.in-Some.ensures.slot.1 i c.args.word
    (known_key c.args.self.now c.args.pass.now c.seek.new.pass c.look_bits.new.pass c.seek.ensures.kept c.look_bits.ensures.kept c.look_bits.ensures.own i known c.args.slot.0 cell c.args.word (search rules) (search rules) c.requires.own)
    set (knows_later c.args.pass.now c.seek.new.pass c.seek.ensures.kept program i known))

pub returns-in-None-clause-settled : goal.returns-in-None-clause-settled
returns-in-None-clause-settled c = λ i cell set known.
    let program = program_of c.args.self.now.system.value in
    word_before program c.seek.ensures.kept.made (own_open c.args.self.now c.seek.new.pass [] c.seek.ensures.own) i c.args.word 0
    (c.in-None.ensures.none.word i c.args.word
    (known_key c.args.self.now c.args.pass.now c.seek.new.pass c.seek.new.pass c.seek.ensures.kept (at_least_itself c.seek.new.pass) c.seek.ensures.own i known c.args.slot.0 cell c.args.word (search rules) (search rules) c.requires.own)
    set (knows_later c.args.pass.now c.seek.new.pass c.seek.ensures.kept program i known))

pub returns-in-Some-clause-log : goal.returns-in-Some-clause-log
returns-in-Some-clause-log c = log_then c.seek.ensures.log c.look_bits.ensures.log
