use Rattle.std.proofs.Common.{IsSome, Option, refl, subst, sym}
use Rattle.memo_cells.specs.declared.keys.Slot.{Slot}
use Rattle.circular_eval.specs.Local.{Members}
use Rattle.circular_eval.specs.Parts.{IsSealedAt}
use Rattle.circular_eval.proofs.Parting.{risen_final, settled_copy, settled_risen, settled_same}
use Rattle.circular_eval.proofs.Sealing.{past_sealed, sealed_shut, there_sealed}
use Rattle.circular_eval.proofs.parts.settle.Goals as goal

pub returns-in_default-clause-sealed : goal.returns-in_default-clause-sealed
returns-in_default-clause-sealed c = past_sealed c.args.local.now.members.entries c.args.number c.in_default.ensures

pub returns-in_default-slot-clause-sealed : goal.returns-in_default-slot-clause-sealed
returns-in_default-slot-clause-sealed c = there_sealed c.args.local.now.members.entries c.args.number (c.in-Some.field-0-0.now, c.in-Some.member.now) (sym c.in-Some.ensures) c.in_default-slot.is

pub returns-then-is_same-clause-settles : goal.returns-then-is_same-clause-settles
returns-then-is_same-clause-settles c =
    settled_same c.args.local.now c.seal.new.self c.args.number (c.in-Some.field-0-0.now, c.in-Some.member.now) c.args.value.now (sym c.in-Some.ensures) (c.is_same.ensures.same c.if-is_same.true) c.seal.ensures.start c.seal.ensures.need c.seal.ensures.saved c.seal.ensures.members

pub returns-then-is_same-clause-sealed : goal.returns-then-is_same-clause-sealed
returns-then-is_same-clause-sealed c = subst (λ (es : Members). IsSealedAt es c.args.number) (sym c.seal.ensures.members) (sealed_shut c.args.local.now.members.entries c.args.number)

pub returns-in_err-rise-clause-settles : goal.returns-in_err-rise-clause-settles
returns-in_err-rise-clause-settles c =
    settled_copy c.args.local.now c.rise.new.self c.args.number c.args.value.now c.in_ok-found.found c.in_ok-found.ensures.same c.in_ok-found.ensures.elements
    (risen_final c.args.local.now c.rise.new.self c.args.number (c.in-Some.field-0-0.now, c.in-Some.member.now) c.in_ok-found.found (sym c.in-Some.ensures) (subst (λ (o : Option Slot). IsSome o) (sym c.in-Some-slot.is) refl) c.rise.ensures.start c.rise.ensures.need c.rise.ensures.saved c.rise.ensures.members)

pub returns-clause-settles : goal.returns-clause-settles
returns-clause-settles c =
    settled_copy c.args.local.now c.seal-2.new.self c.args.number c.args.value.now c.in_ok-found.found c.in_ok-found.ensures.same c.in_ok-found.ensures.elements
    (settled_risen c.args.local.now c.rise.new.self c.seal-2.new.self c.args.number c.in_ok-found.found
    (risen_final c.args.local.now c.rise.new.self c.args.number (c.in-Some.field-0-0.now, c.in-Some.member.now) c.in_ok-found.found (sym c.in-Some.ensures) (subst (λ (o : Option Slot). IsSome o) (sym c.in-Some-slot.is) refl) c.rise.ensures.start c.rise.ensures.need c.rise.ensures.saved c.rise.ensures.members)
    c.rise.ensures.members c.seal-2.ensures.start c.seal-2.ensures.need c.seal-2.ensures.saved c.seal-2.ensures.members)

pub returns-clause-sealed : goal.returns-clause-sealed
returns-clause-sealed c = subst (λ (es : Members). IsSealedAt es c.args.number) (sym c.seal-2.ensures.members) (sealed_shut c.rise.new.self.members.entries c.args.number)
