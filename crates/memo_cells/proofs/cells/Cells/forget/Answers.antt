use Rattle.std.proofs.Common.{[], ◌≡◌, ◌≤◌, Some, ap, sym, subst, ◌∙◌}
use Rattle.memo_cells.specs.declared.view.Frame.{Frame}
use Rattle.memo_cells.specs.declared.view.View.{View}
use Rattle.memo_cells.specs.Learning.{forgotten}
use Rattle.memo_cells.specs.Standing.{AreWords, IsPassOf, IsTold}
use Rattle.memo_cells.specs.Views.{framed}
use Rattle.memo_cells.proofs.Facts.{told_own}
use Rattle.memo_cells.proofs.Learnt.{forgotten_told}
use Rattle.memo_cells.proofs.cells.Cells.forget.Goals as goal

pub invariant_of-pass : goal.invariant_of-pass
invariant_of-pass c = (
  c.pass.invariant.0,
  c.pass.invariant.1,
  c.pass.invariant.2,
  subst (λ (y : View). AreWords (framed c.pass.inside.system c.pass.inside.size) y.made [] c.pass.inside.keys.items c.pass.inside.values.items) (sym c.learn.ensures) c.pass.invariant.3,
  subst (λ (y : View). IsTold (framed c.pass.inside.system c.pass.inside.size) y.made c.pass.inside.keys.items c.pass.inside.values.items y) (sym c.learn.ensures) (forgotten_told (framed c.pass.inside.system c.pass.inside.size) c.pass.inside.known.value.made c.pass.inside.keys.items c.pass.inside.values.items c.pass.inside.known.value c.pass.invariant.4),
)

pub returns-clause-own : goal.returns-clause-own
returns-clause-own c =
    let f : Frame = framed c.pass.inside.system c.pass.inside.size in
    let v = c.pass.inside.known.value in
    let told = c.pass.invariant.4 in
    let same : f ≡ c.args.self.now = (let e : Some f ≡ Some c.args.self.now = sym told.frame ∙ ap (λ (y : View). y.frame) c.pass.view_is ∙ c.requires.own.frame in cc) in
    subst (λ (y : View). IsPassOf c.args.self.now y) (sym c.learn.ensures)
    (subst (λ (g : Frame). IsPassOf g (forgotten v)) same (told_own f v.made c.pass.inside.keys.items c.pass.inside.values.items c.pass.invariant.1 c.pass.invariant.2 c.pass.invariant.3 (subst (λ (g : Frame). g.cells ≤ 4194304) (sym same) c.requires.own.few) (forgotten v) (forgotten_told f v.made c.pass.inside.keys.items c.pass.inside.values.items v told)))

pub returns-clause-forgot : goal.returns-clause-forgot
returns-clause-forgot c = c.learn.ensures ∙ ap forgotten c.pass.view_is
