use Rattle.std.proofs.Common.{refl, subst, sym}
use Rattle.equation_law.specs.Codes.{instance_by}
use Rattle.equation_law.specs.Names.{Instance}
use Rattle.equation_law.specs.Systems.{program_of}
use Rattle.made_trees.specs.Made.{naming_by_makers}
use Rattle.memo_cells.specs.declared.view.Frame.{Frame}
use Rattle.memo_cells.specs.Naming.{IsCellOf}
use Rattle.memo_cells.specs.Working.{program_at}
use Rattle.caller_pass.proofs.Sealing.{is_closed, looked_on, more_falls, more_fault, more_local, more_on, more_program, more_sealing, more_unknown, sealing_first, sealing_memory, sealing_open}
use Rattle.caller_pass.proofs.Solved.{no_cell}
use Rattle.caller_pass.proofs.solving.close.Goals as goal

pub claim_instance-requires-clause-instance : goal.claim_instance-requires-clause-instance
claim_instance-requires-clause-instance g c = c.requires.instance

pub claim_instance-requires-clause-coded : goal.claim_instance-requires-clause-coded
claim_instance-requires-clause-coded g c = c.requires.coded

pub claim_instance-requires-clause-known : goal.claim_instance-requires-clause-known
claim_instance-requires-clause-known g c = c.requires.known

pub returns-in_err-slot-clause-on : goal.returns-in_err-slot-clause-on
returns-in_err-slot-clause-on g c = c.in_err-slot.ensures.on

pub returns-in_err-slot-clause-solved : goal.returns-in_err-slot-clause-solved
returns-in_err-slot-clause-solved g c = no_cell c.args.i c.in_err-slot.ensures.on c.in_err-slot.ensures.full c.in_err-slot.ensures.claims c.from_residual.ensures

pub returns-in_err-local-clause-on : goal.returns-in_err-local-clause-on
returns-in_err-local-clause-on g c = c.in_ok-slot.ensures.on

pub returns-in_err-local-clause-solved : goal.returns-in_err-local-clause-solved
returns-in_err-local-clause-solved g c = sealing_memory c.args.i c.args.evals.now c.in_ok-slot.ensures.on c.in_ok-slot.ensures.claims c.from_residual-in_err-local.ensures

pub closing-init : goal.closing-init
closing-init g c = sealing_first c.args.i c.args.evals.now c.in_ok-slot.ensures.on c.in_ok-slot.ensures.claims c.in_ok-slot.ensures.slot c.requires.instance c.requires.coded c.requires.known c.requires.is_circular c.in_ok-local.ensures.start c.in_ok-local.ensures.local

pub is_settled-requires : goal.is_settled-requires
is_settled-requires g c =
    let p = program_at c.args.desk.now in
    subst (λ (f : Frame). (i : Instance) × IsCellOf (program_of f.system.value) f c.closing.desk.view i c.in_ok-slot.slot.0) (sym c.closing.invariant.cells) (instance_by p (naming_by_makers p c.closing.desk.view.made) c.args.i, c.closing.invariant.cell _ (sealing_open c.closing.invariant))

pub close_more-requires-clause-program : goal.close_more-requires-clause-program
close_more-requires-clause-program g c = more_program c.closing.invariant c.is_settled.ensures.on c.is_settled.result c.is_settled.ensures.told c.closing-test.true c.is_settled.ensures.cause c.requires.program

pub close_more-requires-clause-own : goal.close_more-requires-clause-own
close_more-requires-clause-own g c = c.is_settled.ensures.on.on.own

pub close_more-requires-clause-local : goal.close_more-requires-clause-local
close_more-requires-clause-local g c = more_local c.closing.invariant c.is_settled.ensures.on c.is_settled.result c.is_settled.ensures.told c.closing-test.true c.is_settled.ensures.cause

pub close_more-requires-clause-unknown : goal.close_more-requires-clause-unknown
close_more-requires-clause-unknown g c = more_unknown c.closing.invariant c.is_settled.ensures.on c.is_settled.result c.is_settled.ensures.told c.closing-test.true c.is_settled.ensures.cause

pub closing-smaller : goal.closing-smaller
closing-smaller g c = more_falls c.closing.invariant c.is_settled.ensures.on c.is_settled.result c.is_settled.ensures.told c.closing-test.true c.is_settled.ensures.cause c.in_ok-close_more.ensures.on c.in_ok-close_more.ensures.more refl

pub closing-preserved : goal.closing-preserved
closing-preserved g c = more_sealing c.closing.invariant c.is_settled.ensures.on c.is_settled.result c.is_settled.ensures.told c.closing-test.true c.is_settled.ensures.cause c.in_ok-close_more.ensures.on c.in_ok-close_more.ensures.more c.in_ok-close_more.ensures.local refl

pub returns-in_err-close_more-clause-on : goal.returns-in_err-close_more-clause-on
returns-in_err-close_more-clause-on g c = more_on c.closing.invariant c.is_settled.ensures.on c.is_settled.result c.is_settled.ensures.told c.closing-test.true c.is_settled.ensures.cause c.in_err-close_more.ensures.on c.in_err-close_more.ensures.more

pub returns-in_err-close_more-clause-solved : goal.returns-in_err-close_more-clause-solved
returns-in_err-close_more-clause-solved g c = more_fault c.closing.invariant c.is_settled.ensures.on c.is_settled.result c.is_settled.ensures.told c.closing-test.true c.is_settled.ensures.cause c.in_err-close_more.ensures.on c.in_err-close_more.ensures.more refl c.from_residual-in_err-close_more.ensures

pub returns-clause-on : goal.returns-clause-on
returns-clause-on g c = looked_on c.closing.invariant c.is_settled.ensures.on c.is_settled.result c.is_settled.ensures.told

pub returns-clause-solved : goal.returns-clause-solved
returns-clause-solved g c = is_closed c.closing.invariant c.is_settled.ensures.on c.is_settled.result c.is_settled.ensures.told c.closing-test.false tt
