use Rattle.std.proofs.Common.{[], sym, subst}
use Rattle.memo_cells.specs.declared.view.View.{View}
use Rattle.memo_cells.specs.Standing.{AreWords, IsPassOf, IsTold}
use Rattle.memo_cells.specs.Steps.{KeySeen}
use Rattle.memo_cells.specs.Views.{framed}
use Rattle.memo_cells.proofs.Facts.{key_now, key_own, key_seen}
use Rattle.memo_cells.proofs.Learnt.{own_inside, step_told}
use Rattle.memo_cells.proofs.cells.Cells.look_key.Goals as goal

pub invariant_of-pass : goal.invariant_of-pass
invariant_of-pass c = (
  c.pass.invariant.0,
  c.pass.invariant.1,
  c.pass.invariant.2,
  subst (λ (y : View). AreWords (framed c.pass.inside.system c.pass.inside.size) y.made [] c.pass.inside.keys.items c.pass.inside.values.items) (sym c.learn.ensures) c.pass.invariant.3,
  subst (λ (y : View). IsTold (framed c.pass.inside.system c.pass.inside.size) y.made c.pass.inside.keys.items c.pass.inside.values.items y) (sym c.learn.ensures) (key_now (framed c.pass.inside.system c.pass.inside.size) c.pass.inside.known.value.made c.pass.inside.keys.items c.pass.inside.values.items c.pass.invariant.1 c.pass.invariant.2 c.pass.invariant.3 c.pass.inside.known.value c.pass.invariant.4 c.args.self.now (own_inside c.pass.view_is c.requires.own) c.args.place c.requires.place c.index-found.result.now c.index-found.ensures),
)

pub returns-clause-own : goal.returns-clause-own
returns-clause-own c = subst (λ (y : View). IsPassOf c.args.self.now y) (sym c.learn.ensures) (key_own (framed c.pass.inside.system c.pass.inside.size) c.pass.inside.known.value.made c.pass.inside.keys.items c.pass.inside.values.items c.pass.invariant.1 c.pass.invariant.2 c.pass.invariant.3 c.pass.inside.known.value c.pass.invariant.4 c.args.self.now (own_inside c.pass.view_is c.requires.own) c.args.place c.requires.place c.index-found.result.now c.index-found.ensures)

pub returns-clause-seen : goal.returns-clause-seen
returns-clause-seen c = step_told (λ u w. KeySeen c.args.self.now u w c.args.place c.index-found.result.now) c.pass.view_is c.learn.ensures (key_seen (framed c.pass.inside.system c.pass.inside.size) c.pass.inside.known.value.made c.pass.inside.keys.items c.pass.inside.values.items c.pass.invariant.1 c.pass.invariant.2 c.pass.invariant.3 c.pass.inside.known.value c.pass.invariant.4 c.args.self.now (own_inside c.pass.view_is c.requires.own) c.args.place c.requires.place c.index-found.result.now c.index-found.ensures)
