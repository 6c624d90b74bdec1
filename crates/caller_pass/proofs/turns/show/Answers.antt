use Rattle.std.proofs.Common.{[], ◌∙◌, ◌≡◌}
use Rattle.equation_law.specs.Codes.{instance_by}
use Rattle.made_trees.specs.Made.{naming_by_makers}
use Rattle.memo_cells.specs.Working.{program_at}
use Rattle.memo_cells.proofs.Agreeing.{agrees_before, own_open}
use Rattle.memo_cells.proofs.Holding.{own_then}
use Rattle.caller_pass.specs.declared.faults.AskFault.{AskFault}
use Rattle.caller_pass.specs.declared.faults.AskFault.TheVariants.{CellsFull}
use Rattle.caller_pass.specs.Answering.{AnswersShow}
use Rattle.caller_pass.proofs.Finishing.{may_show_codes, show_claims, show_done, show_fault, show_full}
use Rattle.caller_pass.proofs.Stepping.{err_is}
use Rattle.caller_pass.proofs.turns.show.Goals as goal

pub raise_codes-requires-clause-may : goal.raise_codes-requires-clause-may
raise_codes-requires-clause-may c =
    let d = c.args.desk.now in
    let p = program_at d in
    let names = naming_by_makers p d.view.made in
    let named = own_open d.frame d.view [] c.requires.own in
    let i = instance_by p names c.args.i in
    let ended = c.requires.ended names named in
    (i, may_show_codes names d.frame d.view named c.requires.program i (c.requires.instance names named) (c.requires.undeclared names named) c.args.slot.0 (c.requires.slot names named) c.args.value.now ended c.deref.result.now (c.deref.ensures.value ∙ c.in_ok-codes.ensures))

pub returns-in_err-raise_codes-clause-claims : goal.returns-in_err-raise_codes-clause-claims
returns-in_err-raise_codes-clause-claims c = λ names named.
    let d = c.args.desk.now in
    let p = program_at d in
    let before = agrees_before p c.in_err-raise_codes.ensures.on.kept.made named in
    let i = instance_by p names c.args.i in
    let are = c.deref.ensures.value ∙ c.in_ok-codes.ensures in
    let ended = c.requires.ended names before in
    let may = may_show_codes names d.frame d.view before c.requires.program i (c.requires.instance names before) (c.requires.undeclared names before) c.args.slot.0 (c.requires.slot names before) c.args.value.now ended c.deref.result.now are in
    show_claims names d.frame d.view before c.requires.program i (c.requires.instance names before) (c.requires.undeclared names before) c.args.slot.0 (c.requires.slot names before) c.args.value.now ended c.deref.result.now are c.raise_codes.new.work c.in_err-raise_codes.ensures.on.cells c.in_err-raise_codes.ensures.on.kept (own_then d c.raise_codes.new.work c.in_err-raise_codes.ensures.on) (c.in_err-raise_codes.ensures.claims i may)

pub returns-in_err-raise_codes-clause-answer : goal.returns-in_err-raise_codes-clause-answer
returns-in_err-raise_codes-clause-answer c = λ names named.
    let d = c.args.desk.now in
    let p = program_at d in
    let before = agrees_before p c.in_err-raise_codes.ensures.on.kept.made named in
    let i = instance_by p names c.args.i in
    let are = c.deref.ensures.value ∙ c.in_ok-codes.ensures in
    let ended = c.requires.ended names before in
    let may = may_show_codes names d.frame d.view before c.requires.program i (c.requires.instance names before) (c.requires.undeclared names before) c.args.slot.0 (c.requires.slot names before) c.args.value.now ended c.deref.result.now are in
    let full = show_full names d.frame d.view before c.requires.program i (c.requires.instance names before) (c.requires.undeclared names before) c.args.slot.0 (c.requires.slot names before) c.args.value.now ended c.deref.result.now are c.raise_codes.new.work c.in_err-raise_codes.ensures.on.cells c.in_err-raise_codes.ensures.on.kept (own_then d c.raise_codes.new.work c.in_err-raise_codes.ensures.on) (c.in_err-raise_codes.ensures.full i may) in
    err_is (AnswersShow p names d.frame c.raise_codes.new.work.view i c.args.value.now) (λ (e : AskFault). e ≡ CellsFull) c.from_residual-in_err-raise_codes.result c.from_residual-in_err-raise_codes.ensures (λ e is. show_fault p names d.frame c.raise_codes.new.work.view i c.args.value.now e is full)

pub returns-clause-claims : goal.returns-clause-claims
returns-clause-claims c = λ names named.
    let d = c.args.desk.now in
    let p = program_at d in
    let before = agrees_before p c.in_ok-raise_codes.ensures.on.kept.made named in
    let i = instance_by p names c.args.i in
    let are = c.deref.ensures.value ∙ c.in_ok-codes.ensures in
    let ended = c.requires.ended names before in
    let may = may_show_codes names d.frame d.view before c.requires.program i (c.requires.instance names before) (c.requires.undeclared names before) c.args.slot.0 (c.requires.slot names before) c.args.value.now ended c.deref.result.now are in
    show_claims names d.frame d.view before c.requires.program i (c.requires.instance names before) (c.requires.undeclared names before) c.args.slot.0 (c.requires.slot names before) c.args.value.now ended c.deref.result.now are c.raise_codes.new.work c.in_ok-raise_codes.ensures.on.cells c.in_ok-raise_codes.ensures.on.kept (own_then d c.raise_codes.new.work c.in_ok-raise_codes.ensures.on) (c.in_ok-raise_codes.ensures.claims i may)

pub returns-clause-answer : goal.returns-clause-answer
returns-clause-answer c = λ names named.
    let d = c.args.desk.now in
    let p = program_at d in
    let before = agrees_before p c.in_ok-raise_codes.ensures.on.kept.made named in
    let i = instance_by p names c.args.i in
    let are = c.deref.ensures.value ∙ c.in_ok-codes.ensures in
    let ended = c.requires.ended names before in
    let may = may_show_codes names d.frame d.view before c.requires.program i (c.requires.instance names before) (c.requires.undeclared names before) c.args.slot.0 (c.requires.slot names before) c.args.value.now ended c.deref.result.now are in
    show_done names d.frame d.view before c.requires.program i (c.requires.instance names before) (c.requires.undeclared names before) c.args.slot.0 (c.requires.slot names before) c.args.value.now ended c.deref.result.now are c.raise_codes.new.work c.in_ok-raise_codes.ensures.on.cells c.in_ok-raise_codes.ensures.on.kept named tt (c.in_ok-raise_codes.ensures.shown i may)
