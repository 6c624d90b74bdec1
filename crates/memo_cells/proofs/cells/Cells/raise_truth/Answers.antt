use Rattle.std.proofs.Common.{[]}
use Rattle.equation_law.specs.Systems.{program_of}
use Rattle.equation_law.proofs.Pooled.{texts_pooled}
use Rattle.memo_cells.proofs.Agreeing.{own_open}
use Rattle.memo_cells.proofs.Seeing.{has_truth}
use Rattle.memo_cells.proofs.cells.Cells.raise_truth.Goals as goal

pub returns-clause-raised : goal.returns-clause-raised
returns-clause-raised c = has_truth (program_of c.args.self.now.system.value) c.args.self.now c.args.pass.now c.add_truth.new.pass c.add_truth.ensures.kept c.add_truth.ensures.own (texts_pooled c.args.self.now.system.value) (own_open c.args.self.now c.add_truth.new.pass [] c.add_truth.ensures.own) c.args.slot.0 c.add_truth.result c.requires.may c.add_truth.ensures.added
