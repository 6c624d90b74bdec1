use Rattle.std.proofs.Common.{[], sym, subst}
use Rattle.memo_cells.specs.declared.view.View.{View}
use Rattle.memo_cells.specs.Standing.{AreWords, IsPassOf, IsTold}
use Rattle.memo_cells.specs.Steps.{ValueSeen}
use Rattle.memo_cells.specs.Views.{IsAtLeast, IsPlain, framed}
use Rattle.memo_cells.proofs.Facts.{read_now, read_own, value_seen}
use Rattle.memo_cells.proofs.Learnt.{own_inside, step_told, value_learnt}
use Rattle.memo_cells.proofs.cells.Cells.look_value.Goals as goal

pub invariant_of-pass : goal.invariant_of-pass
invariant_of-pass c = (
  c.pass.invariant.0,
  c.pass.invariant.1,
  c.pass.invariant.2,
  subst (λ (y : View). AreWords (framed c.pass.inside.system c.pass.inside.size) y.made [] c.pass.inside.keys.items c.pass.inside.values.items) (sym c.learn.ensures) c.pass.invariant.3,
  subst (λ (y : View). IsTold (framed c.pass.inside.system c.pass.inside.size) y.made c.pass.inside.keys.items c.pass.inside.values.items y) (sym c.learn.ensures) (read_now (framed c.pass.inside.system c.pass.inside.size) c.pass.inside.known.value.made c.pass.inside.keys.items c.pass.inside.values.items c.pass.invariant.1 c.pass.invariant.2 c.pass.invariant.3 c.pass.inside.known.value c.pass.invariant.4 c.args.self.now (own_inside c.pass.view_is c.requires.own) c.args.place c.requires.place c.index-found.result.now c.index-found.ensures),
)

pub returns-clause-own : goal.returns-clause-own
returns-clause-own c = subst (λ (y : View). IsPassOf c.args.self.now y) (sym c.learn.ensures) (read_own (framed c.pass.inside.system c.pass.inside.size) c.pass.inside.known.value.made c.pass.inside.keys.items c.pass.inside.values.items c.pass.invariant.1 c.pass.invariant.2 c.pass.invariant.3 c.pass.inside.known.value c.pass.invariant.4 c.args.self.now (own_inside c.pass.view_is c.requires.own) c.args.place c.requires.place c.index-found.result.now c.index-found.ensures)

pub returns-clause-kept : goal.returns-clause-kept
returns-clause-kept c = step_told IsAtLeast c.pass.view_is c.learn.ensures (value_learnt c.pass.inside.known.value c.args.place c.index-found.result.now c.index-found.result.now)

pub returns-clause-seen : goal.returns-clause-seen
returns-clause-seen c = step_told (λ u w. ValueSeen c.args.self.now u w c.args.place c.index-found.result.now) c.pass.view_is c.learn.ensures (value_seen (framed c.pass.inside.system c.pass.inside.size) c.pass.inside.known.value.made c.pass.inside.keys.items c.pass.inside.values.items c.pass.invariant.1 c.pass.invariant.2 c.pass.invariant.3 c.pass.inside.known.value c.pass.invariant.4 c.args.self.now (own_inside c.pass.view_is c.requires.own) c.args.place c.requires.place c.index-found.result.now c.index-found.ensures (subst (λ (y : View). IsPlain y c.args.place) (sym c.pass.view_is) c.requires.plain))
