use Rattle.std.proofs.Common.{◌≡◌, ◌-◌, ◌∙◌, ap, arith, subst, sym}
use Rattle.equation_law.specs.Systems.{program_of}
use Rattle.plain_rounds.specs.Named.{value_in}
use Rattle.plain_rounds.specs.Places.{IsHeld}
use Rattle.plain_rounds.specs.Rooms.{IsLow, height, room, top}
use Rattle.plain_rounds.specs.Steps.{known}
use Rattle.plain_rounds.proofs.Imaged.{height_alike}
use Rattle.plain_rounds.proofs.rooms.room.Goals as goal

pub returns-in-Some-clause-room : goal.returns-in-Some-clause-room
returns-in-Some-clause-room c = λ system held n named.
    let p = program_of system in
    let v = c.in-Some.held in
    let h = subst (IsHeld p) c.in-Some.is held in
    let same : c.height.result ≡ height (value_in p n v) = c.height.ensures system h.0 n named ∙ sym (height_alike p n v.value v.image h.1) in
    ap (λ x. top - x) same ∙ sym (ap (λ o. room (known p n o)) c.in-Some.is)

pub returns-in-Some-clause-low : goal.returns-in-Some-clause-low
returns-in-Some-clause-low c = λ system held n named.
    let p = program_of system in
    let v = c.in-Some.held in
    let h = subst (IsHeld p) c.in-Some.is held in
    let same : c.height.result ≡ height (value_in p n v) = c.height.ensures system h.0 n named ∙ sym (height_alike p n v.value v.image h.1) in
    let low = c.height.type_inv in
    subst (λ o. IsLow (known p n o)) (sym c.in-Some.is) (omega (arith, low, same))
