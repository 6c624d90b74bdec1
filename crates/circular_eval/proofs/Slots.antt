-- The cells of members, gathered one after the other.
use Rattle.std.proofs.Common.{◌≡◌, ℕ, ◌<◌, ◌+◌, List, [], ◌∷◌, ◌++◌, Option, Some, None, length, option_to_list, slice_get, inl, inr, ⊎_elim, refl, sym, ap, subst, ◌∙◌, arith}
use Rattle.std.specs.Option.{option_and_then}
use Rattle.std.proofs.lemmas.Bool.{cases_order}
use Rattle.std.proofs.lemmas.List.{append-nil}
use Rattle.std.proofs.lemmas.Option.{slice_get_within}
use Rattle.equation_law.specs.declared.coding.Instance.{Instance as CodedInstance}
use Rattle.memo_cells.specs.declared.keys.Slot.{Slot}
use Rattle.memo_cells.specs.Views.{Has}
use Rattle.memo_cells.proofs.Bits.{has_either, has_left, has_right}
use Rattle.circular_eval.specs.declared.members.Member.{Member}
use Rattle.circular_eval.specs.Local.{AreSlots, Members}
use Rattle.circular_eval.proofs.Entries.{at_has, has_at}

-- these are the cells of the first members
pub record AreFirstSlots (es : Members) (n : ℕ) (slots : List Slot) : Type 0 where
  pub within : (s : Slot) → Has slots s → (e : CodedInstance × Member) × Has es e × (e.1.slot ≡ Some s)
  pub all : (k : ℕ) (e : CodedInstance × Member) (s : Slot) → k < n → slice_get es k ≡ Some e → e.1.slot ≡ Some s → Has slots s

pub first_none : (es : Members) → AreFirstSlots es 0 []
first_none es = record { within = λ s h. absurd h; all = λ k e s low at is. absurd (omega (arith, low)) }

pub first_all : (es : Members) (n : ℕ) (slots : List Slot) → n ≡ length es → AreFirstSlots es n slots → AreSlots es slots
first_all es n slots e h = record {
  within = h.within;
  all = λ d s there is.
      let at = has_at es d there in
      let low : at.0 < length es = slice_get_within es at.0 d at.1 in
      h.all at.0 d s (omega (arith, low, e)) at.1 is;
}

slot_of : (o : Option (CodedInstance × Member)) (s : Slot) → option_and_then (λ (e : CodedInstance × Member). e.1.slot) o ≡ Some s → (e : CodedInstance × Member) × (o ≡ Some e) × (e.1.slot ≡ Some s)
slot_of None s h = cc
slot_of (Some e) s h = (e, refl, h)

pub first_more : (es : Members) (n : ℕ) (slots : List Slot) (s : Slot) → Some s ≡ option_and_then (λ (e : CodedInstance × Member). e.1.slot) (slice_get es n) → AreFirstSlots es n slots → AreFirstSlots es (n + 1) (slots ++ s ∷ [])
first_more es n slots s is h =
    let o = slot_of (slice_get es n) s (sym is) in
    record {
      within = λ t there. ⊎_elim (h.within t) (λ x. ⊎_elim (λ q. (o.0, at_has es n o.0 o.1, o.2 ∙ ap Some (sym q))) (λ y. absurd y) x) (has_either slots (s ∷ []) t there);
      all = λ k e t low at placed.
          elim (cases_order k n) [
            | inl q ↦
                let both : Some o.0 ≡ Some e = sym o.1 ∙ ap (λ (j : ℕ). slice_get es j) (sym q) ∙ at in
                let same : o.0 ≡ e = cc in
                let slots_same : Some s ≡ Some t = sym o.2 ∙ ap (λ (x : CodedInstance × Member). x.1.slot) same ∙ placed in
                let one : t ≡ s = cc in
                has_right slots (s ∷ []) t (inl one)
            | inr q ↦ has_left slots (s ∷ []) t (h.all k e t (⊎_elim (λ x. x) (λ x. absurd (omega (arith, low, x))) q) at placed)
          ];
    }

pub first_same : (es : Members) (n : ℕ) (slots : List Slot) → None ≡ option_and_then (λ (e : CodedInstance × Member). e.1.slot) (slice_get es n) → AreFirstSlots es n slots → AreFirstSlots es (n + 1) slots
first_same es n slots is h = record {
  within = h.within;
  all = λ k e t low at placed.
      elim (cases_order k n) [
        | inl q ↦
            let here : slice_get es n ≡ Some e = ap (λ (j : ℕ). slice_get es j) (sym q) ∙ at in
            let none : None ≡ Some t = is ∙ ap (λ (o : Option (CodedInstance × Member)). option_and_then (λ (x : CodedInstance × Member). x.1.slot) o) here ∙ placed in
            absurd (let e : ⊥ = cc in e)
        | inr q ↦ h.all k e t (⊎_elim (λ x. x) (λ x. absurd (omega (arith, low, x))) q) at placed
      ];
}

pub first_next : (es : Members) (n : ℕ) (slots : List Slot) (o : Option Slot) → o ≡ option_and_then (λ (e : CodedInstance × Member). e.1.slot) (slice_get es n) → AreFirstSlots es n slots → AreFirstSlots es (n + 1) (slots ++ option_to_list o)
first_next es n slots None e h = subst (λ (l : List Slot). AreFirstSlots es (n + 1) l) (sym (append-nil slots)) (first_same es n slots e h)
first_next es n slots (Some s) e h = first_more es n slots s e h
