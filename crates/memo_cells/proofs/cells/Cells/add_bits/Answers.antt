use Rattle.std.proofs.Common.{[], set, refl, sym, subst, ◌∙◌, length-set}
use Rattle.std.specs.Int.Bits.{bit_or}
use Rattle.equation_law.specs.Systems.{program_of}
use Rattle.memo_cells.specs.declared.view.View.{View}
use Rattle.memo_cells.specs.Causes.{IsLogOn, LogsValue}
use Rattle.memo_cells.specs.Standing.{AreWords, IsPassOf, IsTold, MayAdd}
use Rattle.memo_cells.specs.Steps.{BitsAdded}
use Rattle.memo_cells.specs.Views.{IsAtLeast, framed}
use Rattle.memo_cells.proofs.Adding.{added_now, added_own, added_seen, added_words}
use Rattle.memo_cells.proofs.Causes.{log_one}
use Rattle.memo_cells.proofs.Learnt.{own_inside, step_told, value_learnt, value_logged}
use Rattle.memo_cells.proofs.cells.Cells.add_bits.Goals as goal

pub invariant_of-pass : goal.invariant_of-pass
invariant_of-pass c = (
  c.pass.invariant.0,
  c.pass.invariant.1,
  length-set c.pass.inside.values.items c.args.place (bit_or c.index-found.result.now c.args.bits) ∙ c.pass.invariant.2,
  subst (λ (y : View). AreWords (framed c.pass.inside.system c.pass.inside.size) y.made [] c.pass.inside.keys.items (set c.pass.inside.values.items c.args.place (bit_or c.index-found.result.now c.args.bits))) (sym c.learn.ensures) (added_words (framed c.pass.inside.system c.pass.inside.size) c.pass.inside.known.value.made c.pass.inside.keys.items c.pass.inside.values.items c.pass.invariant.1 c.pass.invariant.2 c.pass.invariant.3 c.pass.inside.known.value c.pass.invariant.4 c.args.self.now (own_inside c.pass.view_is c.requires.own) c.args.place c.requires.place c.args.bits c.index-found.result.now (bit_or c.index-found.result.now c.args.bits) c.index-found.ensures refl (subst (λ (y : View). MayAdd (program_of c.args.self.now.system.value) y c.args.place c.args.bits) (sym c.pass.view_is) c.requires.may)),
  subst (λ (y : View). IsTold (framed c.pass.inside.system c.pass.inside.size) y.made c.pass.inside.keys.items (set c.pass.inside.values.items c.args.place (bit_or c.index-found.result.now c.args.bits)) y) (sym c.learn.ensures) (added_now (framed c.pass.inside.system c.pass.inside.size) c.pass.inside.known.value.made c.pass.inside.keys.items c.pass.inside.values.items c.pass.invariant.1 c.pass.invariant.2 c.pass.invariant.3 c.pass.inside.known.value c.pass.invariant.4 c.args.self.now (own_inside c.pass.view_is c.requires.own) c.args.place c.requires.place c.args.bits c.index-found.result.now (bit_or c.index-found.result.now c.args.bits) c.index-found.ensures refl (subst (λ (y : View). MayAdd (program_of c.args.self.now.system.value) y c.args.place c.args.bits) (sym c.pass.view_is) c.requires.may)),
)

pub returns-clause-own : goal.returns-clause-own
returns-clause-own c = subst (λ (y : View). IsPassOf c.args.self.now y) (sym c.learn.ensures) (added_own (framed c.pass.inside.system c.pass.inside.size) c.pass.inside.known.value.made c.pass.inside.keys.items c.pass.inside.values.items c.pass.invariant.1 c.pass.invariant.2 c.pass.invariant.3 c.pass.inside.known.value c.pass.invariant.4 c.args.self.now (own_inside c.pass.view_is c.requires.own) c.args.place c.requires.place c.args.bits c.index-found.result.now (bit_or c.index-found.result.now c.args.bits) c.index-found.ensures refl (subst (λ (y : View). MayAdd (program_of c.args.self.now.system.value) y c.args.place c.args.bits) (sym c.pass.view_is) c.requires.may))

pub returns-clause-kept : goal.returns-clause-kept
returns-clause-kept c = step_told IsAtLeast c.pass.view_is c.learn.ensures (value_learnt c.pass.inside.known.value c.args.place c.index-found.result.now (bit_or c.index-found.result.now c.args.bits))

pub returns-clause-log : goal.returns-clause-log
returns-clause-log c = step_told IsLogOn c.pass.view_is c.learn.ensures (log_one refl)

pub returns-clause-found : goal.returns-clause-found
returns-clause-found c = record { found = c.index-found.result.now; log = step_told (λ u w. LogsValue c.args.self.now u w c.args.place c.index-found.result.now) c.pass.view_is c.learn.ensures (value_logged c.pass.inside.known.value c.args.place c.index-found.result.now (bit_or c.index-found.result.now c.args.bits) (own_inside c.pass.view_is c.requires.own).frame); is = refl }

pub returns-clause-added : goal.returns-clause-added
returns-clause-added c = step_told (λ u w. BitsAdded (program_of c.args.self.now.system.value) u w c.args.place c.args.bits (bit_or c.index-found.result.now c.args.bits)) c.pass.view_is c.learn.ensures (added_seen (framed c.pass.inside.system c.pass.inside.size) c.pass.inside.known.value.made c.pass.inside.keys.items c.pass.inside.values.items c.pass.invariant.1 c.pass.invariant.2 c.pass.invariant.3 c.pass.inside.known.value c.pass.invariant.4 c.args.self.now (own_inside c.pass.view_is c.requires.own) c.args.place c.requires.place c.args.bits c.index-found.result.now (bit_or c.index-found.result.now c.args.bits) c.index-found.ensures refl (subst (λ (y : View). MayAdd (program_of c.args.self.now.system.value) y c.args.place c.args.bits) (sym c.pass.view_is) c.requires.may))
