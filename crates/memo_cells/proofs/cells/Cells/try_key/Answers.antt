use Rattle.std.proofs.Common.{[], ℕ, set, sym, subst, ◌∙◌, length-set}
use Rattle.equation_law.specs.Systems.{program_of}
use Rattle.memo_cells.specs.declared.learning.Step.TheVariants.{Claim}
use Rattle.memo_cells.specs.declared.view.View.{View}
use Rattle.memo_cells.specs.Learning.{after}
use Rattle.memo_cells.specs.Naming.{IsFormed}
use Rattle.memo_cells.specs.Standing.{AreWords, IsPassOf, IsTold}
use Rattle.memo_cells.specs.Steps.{KeyTried}
use Rattle.memo_cells.specs.Views.{IsPassed, framed}
use Rattle.memo_cells.proofs.Facts.{claim_now, claimed_own, claimed_words, key_lost, key_now, key_own, key_won}
use Rattle.memo_cells.proofs.Learnt.{own_inside, step_told}
use Rattle.memo_cells.proofs.cells.Cells.try_key.Goals as goal

pub invariant_of-pass : goal.invariant_of-pass
invariant_of-pass c = (
  c.pass.invariant.0,
  c.pass.invariant.1,
  c.pass.invariant.2,
  subst (λ (y : View). AreWords (framed c.pass.inside.system c.pass.inside.size) y.made [] c.pass.inside.keys.items c.pass.inside.values.items) (sym c.learn.ensures) c.pass.invariant.3,
  subst (λ (y : View). IsTold (framed c.pass.inside.system c.pass.inside.size) y.made c.pass.inside.keys.items c.pass.inside.values.items y) (sym c.learn.ensures) (key_now (framed c.pass.inside.system c.pass.inside.size) c.pass.inside.known.value.made c.pass.inside.keys.items c.pass.inside.values.items c.pass.invariant.1 c.pass.invariant.2 c.pass.invariant.3 c.pass.inside.known.value c.pass.invariant.4 c.args.self.now (own_inside c.pass.view_is c.requires.own) c.args.place c.requires.place c.index-found.result.now c.index-found.ensures),
)

pub returns-then-found-ne0-clause-own : goal.returns-then-found-ne0-clause-own
returns-then-found-ne0-clause-own c = subst (λ (y : View). IsPassOf c.args.self.now y) (sym c.learn.ensures) (key_own (framed c.pass.inside.system c.pass.inside.size) c.pass.inside.known.value.made c.pass.inside.keys.items c.pass.inside.values.items c.pass.invariant.1 c.pass.invariant.2 c.pass.invariant.3 c.pass.inside.known.value c.pass.invariant.4 c.args.self.now (own_inside c.pass.view_is c.requires.own) c.args.place c.requires.place c.index-found.result.now c.index-found.ensures)

pub returns-then-found-ne0-clause-tried : goal.returns-then-found-ne0-clause-tried
returns-then-found-ne0-clause-tried c = step_told (λ u w. KeyTried u w c.args.place c.args.key c.index-found.result.now) c.pass.view_is c.learn.ensures (key_lost (framed c.pass.inside.system c.pass.inside.size) c.pass.inside.known.value.made c.pass.inside.keys.items c.pass.inside.values.items c.pass.invariant.1 c.pass.invariant.2 c.pass.invariant.3 c.pass.inside.known.value c.pass.invariant.4 c.args.self.now (own_inside c.pass.view_is c.requires.own) c.args.place c.requires.place c.index-found.result.now c.index-found.ensures c.args.key c.if-found-ne0.true)

pub invariant_of-pass-2 : goal.invariant_of-pass-2
invariant_of-pass-2 c = (
  c.pass.invariant.0,
  length-set c.pass.inside.keys.items c.args.place c.args.key ∙ c.pass.invariant.1,
  c.pass.invariant.2,
  subst (λ (y : View). AreWords (framed c.pass.inside.system c.pass.inside.size) y.made [] (set c.pass.inside.keys.items c.args.place c.args.key) c.pass.inside.values.items) (sym c.learn-2.ensures) (claimed_words (framed c.pass.inside.system c.pass.inside.size) c.pass.inside.known.value.made c.pass.inside.keys.items c.pass.inside.values.items c.pass.invariant.1 c.pass.invariant.2 c.pass.invariant.3 c.pass.inside.known.value c.pass.invariant.4 c.args.self.now (own_inside c.pass.view_is c.requires.own) c.args.place c.requires.place c.args.key c.index-found.result.now c.index-found.ensures c.if-found-ne0.false c.requires.key.0 (subst (λ (y : View). IsFormed (program_of c.args.self.now.system.value) y c.args.key) (sym c.pass.view_is) c.requires.key.1) (subst (λ (y : View). IsPassed c.args.self.now y c.args.key c.args.place) (sym c.pass.view_is) c.requires.passed)),
  subst (λ (y : View). IsTold (framed c.pass.inside.system c.pass.inside.size) y.made (set c.pass.inside.keys.items c.args.place c.args.key) c.pass.inside.values.items y) (sym c.learn-2.ensures) (claim_now (framed c.pass.inside.system c.pass.inside.size) c.pass.inside.known.value.made c.pass.inside.keys.items c.pass.inside.values.items c.pass.invariant.1 c.pass.invariant.2 c.pass.invariant.3 c.pass.inside.known.value c.pass.invariant.4 c.args.self.now (own_inside c.pass.view_is c.requires.own) c.args.place c.requires.place c.args.key c.index-found.result.now c.index-found.ensures c.if-found-ne0.false c.requires.key.0 (subst (λ (y : View). IsFormed (program_of c.args.self.now.system.value) y c.args.key) (sym c.pass.view_is) c.requires.key.1) (subst (λ (y : View). IsPassed c.args.self.now y c.args.key c.args.place) (sym c.pass.view_is) c.requires.passed)),
)

pub returns-clause-own : goal.returns-clause-own
returns-clause-own c = subst (λ (y : View). IsPassOf c.args.self.now y) (sym c.learn-2.ensures) (claimed_own (framed c.pass.inside.system c.pass.inside.size) c.pass.inside.known.value.made c.pass.inside.keys.items c.pass.inside.values.items c.pass.invariant.1 c.pass.invariant.2 c.pass.invariant.3 c.pass.inside.known.value c.pass.invariant.4 c.args.self.now (own_inside c.pass.view_is c.requires.own) c.args.place c.requires.place c.args.key c.index-found.result.now c.index-found.ensures c.if-found-ne0.false c.requires.key.0 (subst (λ (y : View). IsFormed (program_of c.args.self.now.system.value) y c.args.key) (sym c.pass.view_is) c.requires.key.1) (subst (λ (y : View). IsPassed c.args.self.now y c.args.key c.args.place) (sym c.pass.view_is) c.requires.passed))

pub returns-clause-tried : goal.returns-clause-tried
returns-clause-tried c = step_told (λ u w. KeyTried u w c.args.place c.args.key 0) c.pass.view_is c.learn-2.ensures (subst (λ (y : ℕ). KeyTried c.pass.inside.known.value (after c.pass.inside.known.value (Claim c.args.place c.args.key)) c.args.place c.args.key y) c.if-found-ne0.false (key_won (framed c.pass.inside.system c.pass.inside.size) c.pass.inside.known.value.made c.pass.inside.keys.items c.pass.inside.values.items c.pass.invariant.1 c.pass.invariant.2 c.pass.invariant.3 c.pass.inside.known.value c.pass.invariant.4 c.args.self.now (own_inside c.pass.view_is c.requires.own) c.args.place c.requires.place c.args.key c.index-found.result.now c.index-found.ensures c.if-found-ne0.false c.requires.key.0 (subst (λ (y : View). IsFormed (program_of c.args.self.now.system.value) y c.args.key) (sym c.pass.view_is) c.requires.key.1) (subst (λ (y : View). IsPassed c.args.self.now y c.args.key c.args.place) (sym c.pass.view_is) c.requires.passed)))
