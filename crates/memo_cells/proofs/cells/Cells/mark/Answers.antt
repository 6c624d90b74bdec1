use Rattle.std.proofs.Common.{sym, subst}
use Rattle.equation_law.specs.Systems.{program_of}
use Rattle.memo_cells.specs.Causes.{IsLogOn}
use Rattle.memo_cells.specs.declared.view.View.{View}
use Rattle.memo_cells.specs.Sealing.{places}
use Rattle.memo_cells.specs.Standing.{MaySeal}
use Rattle.memo_cells.specs.Steps.{AreSealed}
use Rattle.memo_cells.specs.Views.{framed}
use Rattle.memo_cells.proofs.Learnt.{own_inside}
use Rattle.memo_cells.proofs.Sealing.{mark_own, mark_sealed, set_noted}
use Rattle.memo_cells.proofs.cells.Cells.mark.Goals as goal

pub mark_all-requires-clause-noted : goal.mark_all-requires-clause-noted
mark_all-requires-clause-noted c = set_noted (framed c.pass.inside.system c.pass.inside.size) c.pass.inside.known.value.made c.pass.inside.keys.items c.pass.inside.values.items c.pass.invariant.1 c.pass.invariant.2 c.pass.invariant.3 c.pass.inside.known.value c.pass.invariant.4 c.args.self.now (own_inside c.pass.view_is c.requires.own) c.args.set.now (subst (λ (y : View). MaySeal (program_of c.args.self.now.system.value) c.args.self.now y (places c.args.set.now)) (sym c.pass.view_is) c.requires.may)

pub returns-clause-own : goal.returns-clause-own
returns-clause-own c = mark_own (framed c.pass.inside.system c.pass.inside.size) c.pass.inside.known.value.made c.pass.inside.keys.items c.pass.inside.values.items c.pass.invariant.1 c.pass.invariant.2 c.pass.invariant.3 c.pass.inside.known.value c.pass.invariant.4 c.args.self.now (own_inside c.pass.view_is c.requires.own) c.args.set.now (subst (λ (y : View). MaySeal (program_of c.args.self.now.system.value) c.args.self.now y (places c.args.set.now)) (sym c.pass.view_is) c.requires.may) _ c.mark_all.ensures.sealed c.mark_all.new.known.value c.mark_all.ensures.told

pub returns-clause-sealed : goal.returns-clause-sealed
returns-clause-sealed c = subst (λ (y : View). AreSealed y c.mark_all.new.known.value (places c.args.set.now)) c.pass.view_is (mark_sealed (framed c.pass.inside.system c.pass.inside.size) c.pass.inside.known.value.made c.pass.inside.keys.items c.pass.inside.values.items c.pass.invariant.1 c.pass.invariant.2 c.pass.invariant.3 c.pass.inside.known.value c.pass.invariant.4 c.args.self.now (own_inside c.pass.view_is c.requires.own) c.args.set.now (subst (λ (y : View). MaySeal (program_of c.args.self.now.system.value) c.args.self.now y (places c.args.set.now)) (sym c.pass.view_is) c.requires.may) _ c.mark_all.ensures.sealed c.mark_all.new.known.value c.mark_all.ensures.told)

pub returns-clause-log : goal.returns-clause-log
returns-clause-log c = subst (λ (y : View). IsLogOn y c.mark_all.new.known.value) c.pass.view_is c.mark_all.ensures.told.log
