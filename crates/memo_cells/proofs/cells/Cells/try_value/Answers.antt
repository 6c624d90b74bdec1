use Rattle.std.proofs.Common.{[], ℕ, ◌+◌, ◌^◌, set, refl, sym, ap, subst, ◌∙◌, length-set}
use Rattle.equation_law.specs.Systems.{program_of}
use Rattle.memo_cells.specs.declared.learning.Step.TheVariants.{Value}
use Rattle.memo_cells.specs.declared.view.View.{View}
use Rattle.memo_cells.specs.Learning.{after}
use Rattle.memo_cells.specs.Causes.{IsLogOn, LogsValue}
use Rattle.memo_cells.specs.Standing.{AreWords, IsPassOf, IsTold, MaySettle}
use Rattle.memo_cells.specs.Steps.{ValueTried}
use Rattle.memo_cells.specs.Views.{IsAtLeast, framed}
use Rattle.memo_cells.proofs.Facts.{read_now, read_own, settled_now, settled_own, settled_words, value_lost, value_won}
use Rattle.memo_cells.proofs.Causes.{log_one}
use Rattle.memo_cells.proofs.Learnt.{own_inside, step_told, value_learnt, value_logged}
use Rattle.memo_cells.proofs.cells.Cells.try_value.Goals as goal

pub invariant_of-pass : goal.invariant_of-pass
invariant_of-pass c = (
  c.pass.invariant.0,
  c.pass.invariant.1,
  c.pass.invariant.2,
  subst (λ (y : View). AreWords (framed c.pass.inside.system c.pass.inside.size) y.made [] c.pass.inside.keys.items c.pass.inside.values.items) (sym c.learn.ensures) c.pass.invariant.3,
  subst (λ (y : View). IsTold (framed c.pass.inside.system c.pass.inside.size) y.made c.pass.inside.keys.items c.pass.inside.values.items y) (sym c.learn.ensures) (read_now (framed c.pass.inside.system c.pass.inside.size) c.pass.inside.known.value.made c.pass.inside.keys.items c.pass.inside.values.items c.pass.invariant.1 c.pass.invariant.2 c.pass.invariant.3 c.pass.inside.known.value c.pass.invariant.4 c.args.self.now (own_inside c.pass.view_is c.requires.own) c.args.place c.requires.place c.index-found.result.now c.index-found.ensures),
)

pub returns-then-found-ne0-clause-own : goal.returns-then-found-ne0-clause-own
returns-then-found-ne0-clause-own c = subst (λ (y : View). IsPassOf c.args.self.now y) (sym c.learn.ensures) (read_own (framed c.pass.inside.system c.pass.inside.size) c.pass.inside.known.value.made c.pass.inside.keys.items c.pass.inside.values.items c.pass.invariant.1 c.pass.invariant.2 c.pass.invariant.3 c.pass.inside.known.value c.pass.invariant.4 c.args.self.now (own_inside c.pass.view_is c.requires.own) c.args.place c.requires.place c.index-found.result.now c.index-found.ensures)

pub returns-then-found-ne0-clause-kept : goal.returns-then-found-ne0-clause-kept
returns-then-found-ne0-clause-kept c = step_told IsAtLeast c.pass.view_is c.learn.ensures (value_learnt c.pass.inside.known.value c.args.place c.index-found.result.now c.index-found.result.now)

pub returns-then-found-ne0-clause-log : goal.returns-then-found-ne0-clause-log
returns-then-found-ne0-clause-log c = step_told IsLogOn c.pass.view_is c.learn.ensures (log_one refl)

pub returns-then-found-ne0-clause-found : goal.returns-then-found-ne0-clause-found
returns-then-found-ne0-clause-found c = step_told (λ u w. LogsValue c.args.self.now u w c.args.place c.index-found.result.now) c.pass.view_is c.learn.ensures (value_logged c.pass.inside.known.value c.args.place c.index-found.result.now c.index-found.result.now (own_inside c.pass.view_is c.requires.own).frame)

pub returns-then-found-ne0-clause-tried : goal.returns-then-found-ne0-clause-tried
returns-then-found-ne0-clause-tried c = step_told (λ u w. ValueTried u w c.args.place c.args.code c.index-found.result.now) c.pass.view_is c.learn.ensures (value_lost (framed c.pass.inside.system c.pass.inside.size) c.pass.inside.known.value.made c.pass.inside.keys.items c.pass.inside.values.items c.pass.invariant.1 c.pass.invariant.2 c.pass.invariant.3 c.pass.inside.known.value c.pass.invariant.4 c.args.self.now (own_inside c.pass.view_is c.requires.own) c.args.place c.requires.place c.args.code (subst (λ (y : View). MaySettle (program_of c.args.self.now.system.value) y c.args.place c.args.code) (sym c.pass.view_is) c.requires.code) c.index-found.result.now c.index-found.result.now c.index-found.ensures c.if-found-ne0.true refl)

pub invariant_of-pass-2 : goal.invariant_of-pass-2
invariant_of-pass-2 c = (
  c.pass.invariant.0,
  c.pass.invariant.1,
  length-set c.pass.inside.values.items c.args.place (c.from.result + 2 ^ 63) ∙ c.pass.invariant.2,
  subst (λ (y : View). AreWords (framed c.pass.inside.system c.pass.inside.size) y.made [] c.pass.inside.keys.items (set c.pass.inside.values.items c.args.place (c.from.result + 2 ^ 63))) (sym c.learn-2.ensures) (settled_words (framed c.pass.inside.system c.pass.inside.size) c.pass.inside.known.value.made c.pass.inside.keys.items c.pass.inside.values.items c.pass.invariant.1 c.pass.invariant.2 c.pass.invariant.3 c.pass.inside.known.value c.pass.invariant.4 c.args.self.now (own_inside c.pass.view_is c.requires.own) c.args.place c.requires.place c.args.code (subst (λ (y : View). MaySettle (program_of c.args.self.now.system.value) y c.args.place c.args.code) (sym c.pass.view_is) c.requires.code) c.index-found.result.now (c.from.result + 2 ^ 63) c.index-found.ensures c.if-found-ne0.false (ap (λ (x : ℕ). x + 2 ^ 63) c.from.ensures)),
  subst (λ (y : View). IsTold (framed c.pass.inside.system c.pass.inside.size) y.made c.pass.inside.keys.items (set c.pass.inside.values.items c.args.place (c.from.result + 2 ^ 63)) y) (sym c.learn-2.ensures) (settled_now (framed c.pass.inside.system c.pass.inside.size) c.pass.inside.known.value.made c.pass.inside.keys.items c.pass.inside.values.items c.pass.invariant.1 c.pass.invariant.2 c.pass.invariant.3 c.pass.inside.known.value c.pass.invariant.4 c.args.self.now (own_inside c.pass.view_is c.requires.own) c.args.place c.requires.place c.args.code (subst (λ (y : View). MaySettle (program_of c.args.self.now.system.value) y c.args.place c.args.code) (sym c.pass.view_is) c.requires.code) c.index-found.result.now (c.from.result + 2 ^ 63) c.index-found.ensures c.if-found-ne0.false (ap (λ (x : ℕ). x + 2 ^ 63) c.from.ensures)),
)

pub returns-clause-own : goal.returns-clause-own
returns-clause-own c = subst (λ (y : View). IsPassOf c.args.self.now y) (sym c.learn-2.ensures) (settled_own (framed c.pass.inside.system c.pass.inside.size) c.pass.inside.known.value.made c.pass.inside.keys.items c.pass.inside.values.items c.pass.invariant.1 c.pass.invariant.2 c.pass.invariant.3 c.pass.inside.known.value c.pass.invariant.4 c.args.self.now (own_inside c.pass.view_is c.requires.own) c.args.place c.requires.place c.args.code (subst (λ (y : View). MaySettle (program_of c.args.self.now.system.value) y c.args.place c.args.code) (sym c.pass.view_is) c.requires.code) c.index-found.result.now (c.from.result + 2 ^ 63) c.index-found.ensures c.if-found-ne0.false (ap (λ (x : ℕ). x + 2 ^ 63) c.from.ensures))

pub returns-clause-kept : goal.returns-clause-kept
returns-clause-kept c = step_told IsAtLeast c.pass.view_is c.learn-2.ensures (value_learnt c.pass.inside.known.value c.args.place c.index-found.result.now (c.from.result + 2 ^ 63))

pub returns-clause-log : goal.returns-clause-log
returns-clause-log c = step_told IsLogOn c.pass.view_is c.learn-2.ensures (log_one refl)

pub returns-clause-found : goal.returns-clause-found
returns-clause-found c = step_told (λ u w. LogsValue c.args.self.now u w c.args.place 0) c.pass.view_is c.learn-2.ensures (subst (λ (y : ℕ). LogsValue c.args.self.now c.pass.inside.known.value (after c.pass.inside.known.value (Value c.args.place c.index-found.result.now (c.from.result + 2 ^ 63))) c.args.place y) c.if-found-ne0.false (value_logged c.pass.inside.known.value c.args.place c.index-found.result.now (c.from.result + 2 ^ 63) (own_inside c.pass.view_is c.requires.own).frame))

pub returns-clause-tried : goal.returns-clause-tried
returns-clause-tried c = step_told (λ u w. ValueTried u w c.args.place c.args.code 0) c.pass.view_is c.learn-2.ensures (subst (λ (y : ℕ). ValueTried c.pass.inside.known.value (after c.pass.inside.known.value (Value c.args.place c.index-found.result.now (c.from.result + 2 ^ 63))) c.args.place c.args.code y) c.if-found-ne0.false (value_won (framed c.pass.inside.system c.pass.inside.size) c.pass.inside.known.value.made c.pass.inside.keys.items c.pass.inside.values.items c.pass.invariant.1 c.pass.invariant.2 c.pass.invariant.3 c.pass.inside.known.value c.pass.invariant.4 c.args.self.now (own_inside c.pass.view_is c.requires.own) c.args.place c.requires.place c.args.code (subst (λ (y : View). MaySettle (program_of c.args.self.now.system.value) y c.args.place c.args.code) (sym c.pass.view_is) c.requires.code) c.index-found.result.now (c.from.result + 2 ^ 63) c.index-found.ensures c.if-found-ne0.false (ap (λ (x : ℕ). x + 2 ^ 63) c.from.ensures)))
