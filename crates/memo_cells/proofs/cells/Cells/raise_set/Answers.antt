use Rattle.std.proofs.Common.{rules, []}
use Rattle.equation_law.specs.Systems.{program_of}
use Rattle.equation_law.proofs.Pooled.{texts_pooled}
use Rattle.memo_cells.proofs.Agreeing.{own_open}
use Rattle.memo_cells.proofs.Causes.{log_then}
use Rattle.memo_cells.proofs.More.{at_least_then}
use Rattle.memo_cells.proofs.Seeing.{formed_word, has_set, may_add}
use Rattle.memo_cells.proofs.cells.Cells.raise_set.Goals as goal

pub claim-requires-clause-key : goal.claim-requires-clause-key
claim-requires-clause-key c = formed_word (program_of c.args.self.now.system.value) c.args.self.now c.args.pass.now c.args.slot.0 c.args.word c.args.bits (search rules) (search rules) c.requires.some (search rules) c.requires.may

pub add_bits-requires-clause-may : goal.add_bits-requires-clause-may
add_bits-requires-clause-may c = may_add (program_of c.args.self.now.system.value) c.args.self.now c.args.pass.now c.claim.new.pass c.claim.ensures.kept c.args.slot.0 c.args.word c.args.bits c.in_ok-place.place.0 (search rules) (search rules) c.requires.may c.in_ok-place.ensures.slot.1

pub returns-clause-raised : goal.returns-clause-raised
returns-clause-raised c = has_set (program_of c.args.self.now.system.value) c.args.self.now c.args.pass.now c.add_bits.new.pass (at_least_then c.claim.ensures.kept c.add_bits.ensures.kept) c.add_bits.ensures.own (texts_pooled c.args.self.now.system.value) (own_open c.args.self.now c.add_bits.new.pass [] c.add_bits.ensures.own) c.claim.new.pass c.args.slot.0 c.args.word c.args.bits c.in_ok-place.place.0 c.add_bits.result (search rules) (search rules) c.requires.some (search rules) c.requires.may c.in_ok-place.ensures.slot.1 c.add_bits.ensures.kept c.add_bits.ensures.added

pub returns-clause-log : goal.returns-clause-log
returns-clause-log c = log_then c.claim.ensures.log c.add_bits.ensures.log
