use Rattle.std.proofs.Common.{◌≡◌, ◌∙◌, ◌⊎◌, ◌++◌, ◌∷◌, ◌<◌, [], ℕ, List, Some, Ok, Err, OnErr, OnOk, ap, arith, inl, inr, length, refl, set, slice_get, subst, sym}
use Rattle.std.proofs.lemmas.Option.{slice_get-get_or}
use Rattle.collection_attrs.specs.declared.lasts.Spot.{Spot}
use Rattle.collection_attrs.specs.Spots.{IsTree, Leads, below_of, hung, last_of}
use Rattle.collection_attrs.proofs.Spots.{ended_other, moved_says, moved_tree}
use Rattle.collection_attrs.proofs.Hung.{alone_tree, bare_below, hung_says, hung_tree}
use Rattle.collection_attrs.proofs.lasts.put.Goals as goal

pub returns-then-place-eq0-clause-tree : goal.returns-then-place-eq0-clause-tree
returns-then-place-eq0-clause-tree c =
    let ss = c.args.spots.now.items in
    let later = c.append.new.spots.items in
    let new : Spot = record { receiver = c.args.receiver; last = c.args.last; even = 0; odd = 0 } in
    let none : length ss ≡ 0 = sym (c.in_ok-place.ensures.0 ∙ ap length c.deref.ensures.value) ∙ c.if-place-eq0.true in
    elim c.append.result as (λ r. OnOk r (later ≡ ss ++ new ∷ []) → OnErr r (later ≡ ss) → IsTree later) [
      | Ok x ↦ λ appended stays. subst IsTree (sym appended) (alone_tree ss c.args.receiver c.args.last none)
      | Err x ↦ λ appended stays. subst IsTree (sym stays) c.requires
    ] c.append.ensures.appended c.append.ensures.stays

pub returns-then-spot-receiver-clause-tree : goal.returns-then-spot-receiver-clause-tree
returns-then-spot-receiver-clause-tree c =
    let ss = c.args.spots.now.items in
    let at = c.way_end-at.result.0 in
    let s : Spot = c.index-spot.result.now in
    let y : Spot = record { receiver = s.receiver; last = c.args.last; even = s.even; odd = s.odd } in
    let within : at < length ss = subst (λ (xs : List Spot). at < length xs) c.deref-2.ensures.value c.way_end-at.ensures.within in
    let is : slice_get ss at ≡ Some s = slice_get-get_or ss at s within ∙ ap (λ (x : Spot). Some x) (sym c.index-spot.ensures) in
    moved_tree ss c.requires at s y is refl (λ l. refl)

pub returns-then-spot-receiver-clause-put : goal.returns-then-spot-receiver-clause-put
returns-then-spot-receiver-clause-put c n =
    let ss = c.args.spots.now.items in
    let q = c.args.receiver in
    let at = c.way_end-at.result.0 in
    let s : Spot = c.index-spot.result.now in
    let y : Spot = record { receiver = s.receiver; last = c.args.last; even = s.even; odd = s.odd } in
    let within : at < length ss = subst (λ (xs : List Spot). at < length xs) c.deref-2.ensures.value c.way_end-at.ensures.within in
    let is : slice_get ss at ≡ Some s = slice_get-get_or ss at s within ∙ ap (λ (x : Spot). Some x) (sym c.index-spot.ensures) in
    let own : s.receiver.0 ≡ q.0 = c.if-spot-receiver.true in
    moved_says ss at s y n q is own refl (λ j t there_is same. c.requires.one at j s t is there_is (own ∙ sym same))

pub returns-clause-tree : goal.returns-clause-tree
returns-clause-tree c =
    let ss = c.args.spots.now.items in
    let q = c.args.receiver in
    let at = c.way_end-at.result.0 in
    let left = c.way_end-at.result.1 in
    let s : Spot = c.index-spot.result.now in
    let new : Spot = record { receiver = q; last = c.args.last; even = 0; odd = 0 } in
    let v = c.deref-2.ensures.value in
    let within : at < length ss = subst (λ (xs : List Spot). at < length xs) v c.way_end-at.ensures.within in
    let is : slice_get ss at ≡ Some s = slice_get-get_or ss at s within ∙ ap (λ (x : Spot). Some x) (sym c.index-spot.ensures) in
    let still = subst (λ (xs : List Spot). (i : ℕ) (t : Spot) → slice_get xs i ≡ Some t → t.receiver.0 ≡ q.0 → (rest : ℕ) × Leads xs at left i rest) v c.way_end-at.ensures.still in
    let ended = subst (λ (xs : List Spot). (t : Spot) → slice_get xs at ≡ Some t → (t.receiver.0 ≡ q.0) ⊎ (below_of t left ≡ 0)) v c.way_end-at.ensures.ended in
    let led = subst (λ (xs : List Spot). Leads xs 0 q.0 at left) v c.way_end-at.ensures.led in
    let end : below_of s left ≡ 0 = elim (ended s is) [ inl own ↦ absurd (c.if-spot-receiver.false own) | inr e ↦ e ] in
    let place : c.in_ok-place.place ≡ length ss = c.in_ok-place.ensures.0 ∙ ap length c.deref.ensures.value in
    let few = c.in_ok-place.ensures.1 in
    let appended : c.append-2.new.spots.items ≡ ss ++ new ∷ [] = c.in_ok-append.ensures.appended in
    let below : c.with_below.result ≡ hung s left (length ss) = c.with_below.ensures ∙ ap (hung s left) place in
    subst IsTree (sym (λ i. set (appended i) at (below i)))
    (hung_tree ss c.requires at left s new is end led (ended_other ss c.requires q at left s is still (ended s is) c.if-spot-receiver.false) (bare_below q c.args.last) (omega (arith, few, place)))

pub returns-clause-put : goal.returns-clause-put
returns-clause-put c n =
    let ss = c.args.spots.now.items in
    let q = c.args.receiver in
    let at = c.way_end-at.result.0 in
    let left = c.way_end-at.result.1 in
    let s : Spot = c.index-spot.result.now in
    let new : Spot = record { receiver = q; last = c.args.last; even = 0; odd = 0 } in
    let v = c.deref-2.ensures.value in
    let within : at < length ss = subst (λ (xs : List Spot). at < length xs) v c.way_end-at.ensures.within in
    let is : slice_get ss at ≡ Some s = slice_get-get_or ss at s within ∙ ap (λ (x : Spot). Some x) (sym c.index-spot.ensures) in
    let still = subst (λ (xs : List Spot). (i : ℕ) (t : Spot) → slice_get xs i ≡ Some t → t.receiver.0 ≡ q.0 → (rest : ℕ) × Leads xs at left i rest) v c.way_end-at.ensures.still in
    let ended = subst (λ (xs : List Spot). (t : Spot) → slice_get xs at ≡ Some t → (t.receiver.0 ≡ q.0) ⊎ (below_of t left ≡ 0)) v c.way_end-at.ensures.ended in
    let led = subst (λ (xs : List Spot). Leads xs 0 q.0 at left) v c.way_end-at.ensures.led in
    let end : below_of s left ≡ 0 = elim (ended s is) [ inl own ↦ absurd (c.if-spot-receiver.false own) | inr e ↦ e ] in
    let place : c.in_ok-place.place ≡ length ss = c.in_ok-place.ensures.0 ∙ ap length c.deref.ensures.value in
    let few = c.in_ok-place.ensures.1 in
    let appended : c.append-2.new.spots.items ≡ ss ++ new ∷ [] = c.in_ok-append.ensures.appended in
    let below : c.with_below.result ≡ hung s left (length ss) = c.with_below.ensures ∙ ap (hung s left) place in
    ap (λ (xs : List Spot). last_of xs n) (λ i. set (appended i) at (below i))
    ∙ hung_says ss c.requires at left s new is end led (ended_other ss c.requires q at left s is still (ended s is) c.if-spot-receiver.false) (bare_below q c.args.last) (omega (arith, few, place)) n
