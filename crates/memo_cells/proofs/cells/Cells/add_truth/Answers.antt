use Rattle.std.proofs.Common.{[], Bool, if◌then◌else◌, set, refl, sym, ap, subst, eq-eqb, ne_eqb, ◌∙◌, length-set}
use Rattle.equation_law.specs.Systems.{program_of}
use Rattle.memo_cells.specs.declared.view.View.{View}
use Rattle.memo_cells.specs.Causes.{IsLogOn, LogsValue}
use Rattle.memo_cells.specs.Standing.{AreWords, IsPassOf, IsTold, MayRaiseTruth}
use Rattle.memo_cells.specs.Steps.{BitsAdded}
use Rattle.memo_cells.specs.Views.{IsAtLeast, framed}
use Rattle.memo_cells.proofs.Adding.{raised_already, raised_now, raised_own, raised_seen, raised_words}
use Rattle.memo_cells.proofs.Facts.{read_now, read_own}
use Rattle.memo_cells.proofs.Causes.{log_one}
use Rattle.memo_cells.proofs.Learnt.{own_inside, step_told, value_learnt, value_logged}
use Rattle.memo_cells.proofs.cells.Cells.add_truth.Goals as goal

pub invariant_of-pass : goal.invariant_of-pass
invariant_of-pass c = (
  c.pass.invariant.0,
  c.pass.invariant.1,
  c.pass.invariant.2,
  subst (λ (y : View). AreWords (framed c.pass.inside.system c.pass.inside.size) y.made [] c.pass.inside.keys.items c.pass.inside.values.items) (sym c.learn.ensures) c.pass.invariant.3,
  subst (λ (y : View). IsTold (framed c.pass.inside.system c.pass.inside.size) y.made c.pass.inside.keys.items c.pass.inside.values.items y) (sym c.learn.ensures) (read_now (framed c.pass.inside.system c.pass.inside.size) c.pass.inside.known.value.made c.pass.inside.keys.items c.pass.inside.values.items c.pass.invariant.1 c.pass.invariant.2 c.pass.invariant.3 c.pass.inside.known.value c.pass.invariant.4 c.args.self.now (own_inside c.pass.view_is c.requires.own) c.args.place c.requires.place c.index-found.result.now c.index-found.ensures),
)

pub returns-then-found-ne0-clause-own : goal.returns-then-found-ne0-clause-own
returns-then-found-ne0-clause-own c = subst (λ (y : View). IsPassOf c.args.self.now y) (sym c.learn.ensures) (read_own (framed c.pass.inside.system c.pass.inside.size) c.pass.inside.known.value.made c.pass.inside.keys.items c.pass.inside.values.items c.pass.invariant.1 c.pass.invariant.2 c.pass.invariant.3 c.pass.inside.known.value c.pass.invariant.4 c.args.self.now (own_inside c.pass.view_is c.requires.own) c.args.place c.requires.place c.index-found.result.now c.index-found.ensures)

pub returns-then-found-ne0-clause-kept : goal.returns-then-found-ne0-clause-kept
returns-then-found-ne0-clause-kept c = step_told IsAtLeast c.pass.view_is c.learn.ensures (value_learnt c.pass.inside.known.value c.args.place c.index-found.result.now c.index-found.result.now)

pub returns-then-found-ne0-clause-log : goal.returns-then-found-ne0-clause-log
returns-then-found-ne0-clause-log c = step_told IsLogOn c.pass.view_is c.learn.ensures (log_one refl)

pub returns-then-found-ne0-clause-found : goal.returns-then-found-ne0-clause-found
returns-then-found-ne0-clause-found c = record { found = c.index-found.result.now; log = step_told (λ u w. LogsValue c.args.self.now u w c.args.place c.index-found.result.now) c.pass.view_is c.learn.ensures (value_logged c.pass.inside.known.value c.args.place c.index-found.result.now c.index-found.result.now (own_inside c.pass.view_is c.requires.own).frame); is = sym (ap (λ (b : Bool). if b then 1 else c.index-found.result.now) (ne_eqb c.index-found.result.now 0 c.if-found-ne0.true)) }

pub returns-then-found-ne0-clause-added : goal.returns-then-found-ne0-clause-added
returns-then-found-ne0-clause-added c = step_told (λ u w. BitsAdded (program_of c.args.self.now.system.value) u w c.args.place 1 c.index-found.result.now) c.pass.view_is c.learn.ensures (raised_already (framed c.pass.inside.system c.pass.inside.size) c.pass.inside.known.value.made c.pass.inside.keys.items c.pass.inside.values.items c.pass.invariant.1 c.pass.invariant.2 c.pass.invariant.3 c.pass.inside.known.value c.pass.invariant.4 c.args.self.now (own_inside c.pass.view_is c.requires.own) c.args.place c.requires.place c.index-found.result.now c.index-found.result.now c.index-found.ensures (subst (λ (y : View). MayRaiseTruth (program_of c.args.self.now.system.value) y c.args.place) (sym c.pass.view_is) c.requires.may) c.if-found-ne0.true refl)

pub invariant_of-pass-2 : goal.invariant_of-pass-2
invariant_of-pass-2 c = (
  c.pass.invariant.0,
  c.pass.invariant.1,
  length-set c.pass.inside.values.items c.args.place 1 ∙ c.pass.invariant.2,
  subst (λ (y : View). AreWords (framed c.pass.inside.system c.pass.inside.size) y.made [] c.pass.inside.keys.items (set c.pass.inside.values.items c.args.place 1)) (sym c.learn-2.ensures) (raised_words (framed c.pass.inside.system c.pass.inside.size) c.pass.inside.known.value.made c.pass.inside.keys.items c.pass.inside.values.items c.pass.invariant.1 c.pass.invariant.2 c.pass.invariant.3 c.pass.inside.known.value c.pass.invariant.4 c.args.self.now (own_inside c.pass.view_is c.requires.own) c.args.place c.requires.place c.index-found.result.now 1 c.index-found.ensures (subst (λ (y : View). MayRaiseTruth (program_of c.args.self.now.system.value) y c.args.place) (sym c.pass.view_is) c.requires.may) c.if-found-ne0.false refl),
  subst (λ (y : View). IsTold (framed c.pass.inside.system c.pass.inside.size) y.made c.pass.inside.keys.items (set c.pass.inside.values.items c.args.place 1) y) (sym c.learn-2.ensures) (raised_now (framed c.pass.inside.system c.pass.inside.size) c.pass.inside.known.value.made c.pass.inside.keys.items c.pass.inside.values.items c.pass.invariant.1 c.pass.invariant.2 c.pass.invariant.3 c.pass.inside.known.value c.pass.invariant.4 c.args.self.now (own_inside c.pass.view_is c.requires.own) c.args.place c.requires.place c.index-found.result.now 1 c.index-found.ensures (subst (λ (y : View). MayRaiseTruth (program_of c.args.self.now.system.value) y c.args.place) (sym c.pass.view_is) c.requires.may) c.if-found-ne0.false refl),
)

pub returns-clause-own : goal.returns-clause-own
returns-clause-own c = subst (λ (y : View). IsPassOf c.args.self.now y) (sym c.learn-2.ensures) (raised_own (framed c.pass.inside.system c.pass.inside.size) c.pass.inside.known.value.made c.pass.inside.keys.items c.pass.inside.values.items c.pass.invariant.1 c.pass.invariant.2 c.pass.invariant.3 c.pass.inside.known.value c.pass.invariant.4 c.args.self.now (own_inside c.pass.view_is c.requires.own) c.args.place c.requires.place c.index-found.result.now 1 c.index-found.ensures (subst (λ (y : View). MayRaiseTruth (program_of c.args.self.now.system.value) y c.args.place) (sym c.pass.view_is) c.requires.may) c.if-found-ne0.false refl)

pub returns-clause-kept : goal.returns-clause-kept
returns-clause-kept c = step_told IsAtLeast c.pass.view_is c.learn-2.ensures (value_learnt c.pass.inside.known.value c.args.place c.index-found.result.now 1)

pub returns-clause-log : goal.returns-clause-log
returns-clause-log c = step_told IsLogOn c.pass.view_is c.learn-2.ensures (log_one refl)

pub returns-clause-found : goal.returns-clause-found
returns-clause-found c = record { found = c.index-found.result.now; log = step_told (λ u w. LogsValue c.args.self.now u w c.args.place c.index-found.result.now) c.pass.view_is c.learn-2.ensures (value_logged c.pass.inside.known.value c.args.place c.index-found.result.now 1 (own_inside c.pass.view_is c.requires.own).frame); is = sym (ap (λ (b : Bool). if b then 1 else c.index-found.result.now) (eq-eqb c.index-found.result.now 0 c.if-found-ne0.false)) }

pub returns-clause-added : goal.returns-clause-added
returns-clause-added c = step_told (λ u w. BitsAdded (program_of c.args.self.now.system.value) u w c.args.place 1 1) c.pass.view_is c.learn-2.ensures (raised_seen (framed c.pass.inside.system c.pass.inside.size) c.pass.inside.known.value.made c.pass.inside.keys.items c.pass.inside.values.items c.pass.invariant.1 c.pass.invariant.2 c.pass.invariant.3 c.pass.inside.known.value c.pass.invariant.4 c.args.self.now (own_inside c.pass.view_is c.requires.own) c.args.place c.requires.place c.index-found.result.now 1 c.index-found.ensures (subst (λ (y : View). MayRaiseTruth (program_of c.args.self.now.system.value) y c.args.place) (sym c.pass.view_is) c.requires.may) c.if-found-ne0.false refl)
