use Rattle.std.proofs.Common.{◌-◌, ◌+◌, ◌∙◌, arith}
use Rattle.equation_law.specs.Systems.{program_of}
use Rattle.memo_cells.proofs.Causes.{log_one, log_then}
use Rattle.memo_cells.proofs.Firsts.{behind_end, behind_first, behind_last, behind_next, behind_place}
use Rattle.memo_cells.proofs.More.{at_least_then}
use Rattle.memo_cells.proofs.cells.Cells.first_key.Goals as goal

pub loop-done-init : goal.loop-done-init
loop-done-init c = record {
  own = c.look_key-word.ensures.own;
  kept = c.look_key-word.ensures.kept;
  log = log_one c.look_key-word.ensures.seen.log;
  behind = λ i cell. behind_first c.args.self.now c.args.pass.now c.look_key-word.new.pass c.look_key-word.ensures.own c.look_key-word.ensures.kept (program_of c.args.self.now.system.value) i c.args.slot.0 c.look_key-word.result c.look_key-word.ensures.seen cell;
  claims = c.look_key-word.ensures.seen.claims;
}

pub look_key-word-requires-in-loop-done-clause-place : goal.look_key-word-requires-in-loop-done-clause-place
look_key-word-requires-in-loop-done-clause-place c = behind_place c.args.self.now c.loop-done.pass c.requires.cell.0 c.loop-done.word (3 - c.loop-done._done) c.loop-done.invariant.own (c.loop-done.invariant.behind c.requires.cell.0 c.requires.cell.1) c.if-word-ne2.false

pub loop-done-preserved : goal.loop-done-preserved
loop-done-preserved c = record {
  own = c.look_key-word-in-loop-done.ensures.own;
  kept = at_least_then c.loop-done.invariant.kept c.look_key-word-in-loop-done.ensures.kept;
  log = log_then c.loop-done.invariant.log (log_one c.look_key-word-in-loop-done.ensures.seen.log);
  behind = λ i cell. behind_next c.args.self.now c.loop-done.pass c.look_key-word-in-loop-done.new.pass c.look_key-word-in-loop-done.ensures.own c.look_key-word-in-loop-done.ensures.kept i c.loop-done.word (3 - c.loop-done._done) (3 - (c.loop-done._done + 1)) c.look_key-word-in-loop-done.result (c.loop-done.invariant.behind i cell) c.if-word-ne2.false c.look_key-word-in-loop-done.ensures.seen (omega arith);
  claims = c.look_key-word-in-loop-done.ensures.seen.claims ∙ c.loop-done.invariant.claims;
}

pub returns-then-word-ne2-clause-first : goal.returns-then-word-ne2-clause-first
returns-then-word-ne2-clause-first c = λ i cell. behind_end c.loop-done.pass i c.loop-done.word (3 - c.loop-done._done) (c.loop-done.invariant.behind i cell) c.if-word-ne2.true

pub returns-clause-first : goal.returns-clause-first
returns-clause-first c = λ i cell. behind_last c.loop-done.pass i c.loop-done.word (3 - c.loop-done._done) (c.loop-done.invariant.behind i cell) (omega (arith, c.loop-done-test.false))
