use Rattle.memo_cells.specs.Working.{program_at}
use Rattle.set_values.proofs.TextCodes.{first_text_by}
use Rattle.circular_eval.proofs.Admitting.{bottom_begins, bottom_known}
use Rattle.circular_eval.proofs.visiting.first_value.Goals as goal

pub returns-then-opened-clause-begins : goal.returns-then-opened-clause-begins
returns-then-opened-clause-begins g c = λ i _ kind ordered names agrees.
    let d = g.W.Words.held c.args.work.now in
    let p = program_at d in
    bottom_begins p names d.view i c.args.kind c.default_of.result kind ordered (c.default_of.ensures.value names (first_text_by d.frame.system.value agrees.named)) (c.default_of.ensures.elements p) (bottom_known d c.requires.own c.args.kind c.default_of.result c.default_of.ensures.value)
