use Rattle.code_sets.proofs.Success.{on_ok}
use Rattle.memo_cells.proofs.SetAdding.{adds_word}
use Rattle.memo_cells.proofs.set_showing.add_word.Goals as goal

pub returns : goal.returns
returns c =
    on_ok c.add_word.result
    (adds_word c.args.word c.args.bits c.args.from c.args.to c.bits_below-below.result c.bits_below-before.result c.bits_below-before.type_inv c.bits_below-below.ensures c.bits_below-before.ensures c.args.codes.now c.add_word.new.self)
    c.add_word.ensures.made
