use Rattle.std.proofs.Common.{◌≡◌, ◌∙◌, ◌<◌, ◌-◌, ◌/◌, ℕ, Some, ap, arith, inl, inr, length, slice_get, slice_index_or, subst, sym}
use Rattle.std.proofs.lemmas.Option.{slice_get-get_or}
use Rattle.collection_attrs.specs.declared.lasts.Spot.{Spot}
use Rattle.collection_attrs.specs.Spots.{Leads, below_of, here}
use Rattle.collection_attrs.proofs.Spots.{goes_on, one_more}
use Rattle.collection_attrs.proofs.lasts.way_end.Goals as goal

abbrev nothing : Spot
nothing = record { receiver = record { 0 = 0 }; last = 0; even = 0; odd = 0 }

pub down-init : goal.down-init
down-init c =
    let ss = c.args.spots.now in
    record {
      within = c.requires.some;
      led = here;
      still = λ i s is same. let w = c.requires.tree.led i s is in (w.0, subst (λ (k : ℕ). Leads ss 0 k i w.0) same w.1);
    }

pub returns-then-spot-receiver-clause-ended : goal.returns-then-spot-receiver-clause-ended
returns-then-spot-receiver-clause-ended c s is =
    let ss = c.args.spots.now in
    let here_is = slice_get-get_or ss c.down.at nothing c.down.invariant.within in
    let one : slice_index_or ss c.down.at nothing ≡ s = cc in
    inl (ap (λ (x : Spot). x.receiver.0) (sym one) ∙ c.if-spot-receiver.true)

pub returns-then-next-eq0-clause-ended : goal.returns-then-next-eq0-clause-ended
returns-then-next-eq0-clause-ended c s is =
    let ss = c.args.spots.now in
    let here_is = slice_get-get_or ss c.down.at nothing c.down.invariant.within in
    let one : slice_index_or ss c.down.at nothing ≡ s = cc in
    inr (ap (λ (x : Spot). below_of x c.down.left) (sym one) ∙ sym c.below-next.ensures ∙ c.if-next-eq0.true)

pub down-smaller : goal.down-smaller
down-smaller c =
    let ss = c.args.spots.now in
    let s : Spot = slice_index_or ss c.down.at nothing in
    let is : slice_get ss c.down.at ≡ Some s = slice_get-get_or ss c.down.at nothing c.down.invariant.within in
    let next : c.below-next.result ≡ below_of s c.down.left = c.below-next.ensures in
    let smaller : length ss - c.below-next.result < length ss - c.down.at = elim (c.requires.tree.below c.down.at s c.down.left is) [
      | inl none ↦ absurd (c.if-next-eq0.false (next ∙ none))
      | inr b ↦ let behind = b.0 in let within = b.1 in omega (arith, next, behind, within)
    ] in
    smaller

pub down-preserved : goal.down-preserved
down-preserved c =
    let ss = c.args.spots.now in
    let r = c.args.receiver.0 in
    let s : Spot = slice_index_or ss c.down.at nothing in
    let is : slice_get ss c.down.at ≡ Some s = slice_get-get_or ss c.down.at nothing c.down.invariant.within in
    let next : c.below-next.result ≡ below_of s c.down.left = c.below-next.ensures in
    let some : below_of s c.down.left ≡ 0 → ⊥ = (λ none. c.if-next-eq0.false (next ∙ none)) in
    record {
      within = elim (c.requires.tree.below c.down.at s c.down.left is) [
        | inl none ↦ absurd (some none)
        | inr b ↦ let within = b.1 in omega (arith, next, within)
      ];
      led = subst (λ (k : ℕ). Leads ss 0 r k (c.down.left / 2)) (sym next) (one_more ss c.down.invariant.led s is some);
      still = λ i t there_is own.
          let w = c.down.invariant.still i t there_is own in
          (w.0, subst (λ (k : ℕ). Leads ss k (c.down.left / 2) i w.0) (sym next) (goes_on ss r w.1 s t is there_is own c.if-spot-receiver.false).1);
    }
