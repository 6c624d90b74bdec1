use Rattle.std.proofs.Common.{[], refl, sym, subst}
use Rattle.equation_law.specs.Systems.{program_of}
use Rattle.memo_cells.specs.declared.view.View.{View}
use Rattle.memo_cells.specs.Causes.{IsLogOn, LogsValue}
use Rattle.memo_cells.specs.Standing.{AreWords, IsPassOf, IsTold}
use Rattle.memo_cells.specs.Steps.{BitsSeen}
use Rattle.memo_cells.specs.Views.{IsAtLeast, framed}
use Rattle.memo_cells.proofs.Facts.{read_bits, read_now, read_own}
use Rattle.memo_cells.proofs.Causes.{log_one}
use Rattle.memo_cells.proofs.Learnt.{own_inside, step_told, value_learnt, value_logged}
use Rattle.memo_cells.proofs.cells.Cells.look_bits.Goals as goal

pub invariant_of-pass : goal.invariant_of-pass
invariant_of-pass c = (
  c.pass.invariant.0,
  c.pass.invariant.1,
  c.pass.invariant.2,
  subst (λ (y : View). AreWords (framed c.pass.inside.system c.pass.inside.size) y.made [] c.pass.inside.keys.items c.pass.inside.values.items) (sym c.learn.ensures) c.pass.invariant.3,
  subst (λ (y : View). IsTold (framed c.pass.inside.system c.pass.inside.size) y.made c.pass.inside.keys.items c.pass.inside.values.items y) (sym c.learn.ensures) (read_now (framed c.pass.inside.system c.pass.inside.size) c.pass.inside.known.value.made c.pass.inside.keys.items c.pass.inside.values.items c.pass.invariant.1 c.pass.invariant.2 c.pass.invariant.3 c.pass.inside.known.value c.pass.invariant.4 c.args.self.now (own_inside c.pass.view_is c.requires.own) c.args.place c.requires.place c.index-found.result.now c.index-found.ensures),
)

pub returns-clause-own : goal.returns-clause-own
returns-clause-own c = subst (λ (y : View). IsPassOf c.args.self.now y) (sym c.learn.ensures) (read_own (framed c.pass.inside.system c.pass.inside.size) c.pass.inside.known.value.made c.pass.inside.keys.items c.pass.inside.values.items c.pass.invariant.1 c.pass.invariant.2 c.pass.invariant.3 c.pass.inside.known.value c.pass.invariant.4 c.args.self.now (own_inside c.pass.view_is c.requires.own) c.args.place c.requires.place c.index-found.result.now c.index-found.ensures)

pub returns-clause-kept : goal.returns-clause-kept
returns-clause-kept c = step_told IsAtLeast c.pass.view_is c.learn.ensures (value_learnt c.pass.inside.known.value c.args.place c.index-found.result.now c.index-found.result.now)

pub returns-clause-log : goal.returns-clause-log
returns-clause-log c = step_told IsLogOn c.pass.view_is c.learn.ensures (log_one refl)

pub returns-clause-found : goal.returns-clause-found
returns-clause-found c = step_told (λ u w. LogsValue c.args.self.now u w c.args.place c.index-found.result.now) c.pass.view_is c.learn.ensures (value_logged c.pass.inside.known.value c.args.place c.index-found.result.now c.index-found.result.now (own_inside c.pass.view_is c.requires.own).frame)

pub returns-clause-seen : goal.returns-clause-seen
returns-clause-seen c = step_told (λ u w. BitsSeen (program_of c.args.self.now.system.value) u w c.args.place c.index-found.result.now) c.pass.view_is c.learn.ensures (read_bits (framed c.pass.inside.system c.pass.inside.size) c.pass.inside.known.value.made c.pass.inside.keys.items c.pass.inside.values.items c.pass.invariant.1 c.pass.invariant.2 c.pass.invariant.3 c.pass.inside.known.value c.pass.invariant.4 c.args.self.now (own_inside c.pass.view_is c.requires.own) c.args.place c.requires.place c.index-found.result.now c.index-found.ensures)
