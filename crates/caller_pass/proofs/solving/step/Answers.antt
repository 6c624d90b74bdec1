use Rattle.std.proofs.Common.{[], inl, inr}
use Rattle.equation_law.specs.Codes.{instance_by}
use Rattle.made_trees.specs.Made.{naming_by_makers}
use Rattle.memo_cells.specs.Working.{program_at}
use Rattle.memo_cells.proofs.Agreeing.{own_open}
use Rattle.caller_pass.proofs.Through.{evaluated, found_settled, program_loaded, turn_loaded, unsettled_loaded}
use Rattle.caller_pass.proofs.solving.step.Goals as goal

pub is_settled-requires : goal.is_settled-requires
is_settled-requires g c =
    let d = c.args.desk.now in
    let p = program_at d in
    let names = naming_by_makers p d.view.made in
    (instance_by p names c.args.i, (c.requires.frame names (own_open d.frame d.view [] c.requires.own)).placed.slot)

pub returns-then-is_settled : goal.returns-then-is_settled
returns-then-is_settled g c = record { went = inl (found_settled c.requires.frame c.is_settled.ensures.on c.is_settled.result c.is_settled.ensures.told c.if-is_settled.true c.args.evals.now) }

pub evaluate-requires : goal.evaluate-requires
evaluate-requires g c = record {
  own = c.is_settled.ensures.on.on.own;
  program = program_loaded c.requires.frame c.is_settled.ensures.on c.is_settled.result c.is_settled.ensures.told c.if-is_settled.false c.is_settled.ensures.cause c.requires.program;
  turn = turn_loaded c.requires.frame c.is_settled.ensures.on c.is_settled.result c.is_settled.ensures.told c.if-is_settled.false c.is_settled.ensures.cause;
  unsettled = unsettled_loaded c.requires.frame c.is_settled.ensures.on c.is_settled.result c.is_settled.ensures.told c.if-is_settled.false c.is_settled.ensures.cause;
}

pub returns : goal.returns
returns g c = record { went = inr (evaluated c.requires.frame c.is_settled.ensures.on c.is_settled.result c.is_settled.ensures.told c.if-is_settled.false c.is_settled.ensures.cause c.evaluate.ensures.went) }
