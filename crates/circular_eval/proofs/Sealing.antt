-- Members that are sealed stay so, under their numbers.
use Rattle.std.proofs.Common.{◌≡◌, ◌∙◌, ◌++◌, ℕ, zero, suc, ◌+◌, ◌<◌, ◌≤◌, Bool, true, false, List, [], ◌∷◌, Option, Some, None, IsSome, Result, Ok, Err, Contains, length, slice_get, slice_index_or, inl, inr, ⊎_elim, refl, sym, ap, subst, arith}
use Rattle.std.proofs.lemmas.Bool.{cases_order}
use Rattle.std.proofs.lemmas.List.Elements.{Contains-append_cases, Contains-append_left, Contains-push}
use Rattle.std.proofs.lemmas.Option.{slice_get_within}
use Rattle.std.specs.Option.{option_and_then, option_map}
use Rattle.std.specs.Prelude.{OnOk}
use Rattle.rag_io.specs.declared.Memory.{Memory}
use Rattle.equation_law.specs.declared.coding.Instance.{Instance as CodedInstance}
use Rattle.equation_law.specs.declared.coding.Value.{Value as CodedValue}
use Rattle.equation_law.specs.Codes.{instance_by}
use Rattle.equation_law.specs.Program.{Program}
use Rattle.memo_cells.specs.declared.keys.Slot.{Slot}
use Rattle.memo_cells.specs.Agreeing.{ByEachAgreeing}
use Rattle.memo_cells.specs.Working.{GoesOn, Held}
use Rattle.memo_cells.proofs.Holding.{goes_then}
use Rattle.circular_eval.specs.declared.local.Local.{Local}
use Rattle.circular_eval.specs.declared.members.Member.{Member}
use Rattle.circular_eval.specs.Local.{IsAbsent, Members, with_value}
use Rattle.circular_eval.specs.Parts.{AnswersPart, AreClosedMembers, HadToWait, IsMissingFrom, IsSealedAt, IsSealedIn, SameMembers, SealsMember, Takes, unsealed_at, without_slot}
use Rattle.circular_eval.specs.Sealed.{IsMemberAt}
use Rattle.worklists.specs.Waiting.{AreClosed, IsClosed}
use Rattle.circular_eval.proofs.Entries.{at_has, changed_at}
use Rattle.circular_eval.proofs.Going.{program_on}
use Rattle.worklists.proofs.Noting.{number_is}
use Rattle.worklists.proofs.Numbers.{number_within}
use Rattle.worklists.proofs.Searching.{contains_none, contains_one}

-- the members under their numbers
pub same_itself : (es : Members) → SameMembers es es
same_itself es = record { same = λ n e at. (e, at, refl, λ h. h) }

pub same_then : (es fs gs : Members) → SameMembers es fs → SameMembers fs gs → SameMembers es gs
same_then es fs gs a b = record {
  same = λ n e at.
      let c = b.same n e at in
      let d = a.same n c.0 c.1 in
      (d.0, d.1, c.2 ∙ d.2, λ h. c.3 (d.3 h));
}

pub same_risen : (es fs : Members) (n : ℕ) (x : CodedValue) → fs ≡ with_value es n x → SameMembers es fs
same_risen es fs n x is = record {
  same = λ k e at.
      let c = changed_at es n x k e (subst (λ (u : Members). slice_get u k ≡ Some e) is at) in
      (c.0, c.1, c.2.instance, λ h. c.2.slot ∙ h);
}

-- a member without a cell is sealed
slot_map : (o : Option Slot) (i : CodedInstance) → option_map (λ (s : Slot). i) o ≡ None → o ≡ None
slot_map None i h = refl
slot_map (Some s) i h = cc

pub sealed_entry : (es : Members) (n : ℕ) (d : CodedInstance × Member) → slice_get es n ≡ Some d → IsSealedAt es n → d.1.slot ≡ None
sealed_entry es n d at h = slot_map d.1.slot d.0 (ap (λ (o : Option (CodedInstance × Member)). option_and_then (λ (e : CodedInstance × Member). option_map (λ (s : Slot). e.0) e.1.slot) o) (sym at) ∙ h)

entry_none : (o : Option (CodedInstance × Member)) → ((e : CodedInstance × Member) → o ≡ Some e → e.1.slot ≡ None) → option_and_then (λ (e : CodedInstance × Member). option_map (λ (s : Slot). e.0) e.1.slot) o ≡ None
entry_none None h = refl
entry_none (Some e) h = ap (λ (o : Option Slot). option_map (λ (s : Slot). e.0) o) (h e refl)

pub entry_sealed : (es : Members) (n : ℕ) → ((e : CodedInstance × Member) → slice_get es n ≡ Some e → e.1.slot ≡ None) → IsSealedAt es n
entry_sealed es n h = entry_none (slice_get es n) h

pub there_sealed : (es : Members) (n : ℕ) (d : CodedInstance × Member) → slice_get es n ≡ Some d → d.1.slot ≡ None → IsSealedAt es n
there_sealed es n d at none = entry_sealed es n (λ e there. let both : Some d ≡ Some e = sym at ∙ there in let one : d ≡ e = cc in subst (λ (x : CodedInstance × Member). x.1.slot ≡ None) one none)

pub past_sealed : (es : Members) (n : ℕ) → None ≡ slice_get es n → IsSealedAt es n
past_sealed es n past = entry_sealed es n (λ e there. let both : None ≡ Some e = past ∙ there in absurd (let x : ⊥ = cc in x))

pub sealed_shut : (es : Members) (n : ℕ) → IsSealedAt (without_slot es n) n
sealed_shut [] n = refl
sealed_shut (e ∷ es) zero = refl
sealed_shut (e ∷ es) (suc n) = sealed_shut es n

-- and stays so
pub sealed_later : (es fs : Members) (n : ℕ) → SameMembers es fs → IsSealedAt es n → IsSealedAt fs n
sealed_later es fs n s h = entry_sealed fs n (λ e at. let d = s.same n e at in d.3 (sealed_entry es n d.0 d.1 h))

sealed_in_later : (es fs : Members) (i : CodedInstance) → SameMembers es fs → IsSealedIn es i → IsSealedIn fs i
sealed_in_later es fs i s h n e at is = let d = s.same n e at in d.3 (h n d.0 d.1 (sym d.2 ∙ is))

-- a member that isn't sealed wasn't
map_some : (o : Option Slot) (i j : CodedInstance) → option_map (λ (s : Slot). i) o ≡ Some j → (s : Slot) × (o ≡ Some s) × (i ≡ j)
map_some None i j h = cc
map_some (Some s) i j h = (s, refl, cc)

entry_some : (o : Option (CodedInstance × Member)) (i : CodedInstance) → option_and_then (λ (e : CodedInstance × Member). option_map (λ (s : Slot). e.0) e.1.slot) o ≡ Some i → (e : CodedInstance × Member) × (o ≡ Some e) × ((s : Slot) × (e.1.slot ≡ Some s) × (e.0 ≡ i))
entry_some None i h = cc
entry_some (Some e) i h = (e, refl, map_some e.1.slot e.0 i h)

unsealed_of : (o : Option Slot) (i : CodedInstance) → ¬ (o ≡ None) → option_map (λ (s : Slot). i) o ≡ Some i
unsealed_of None i h = absurd (h refl)
unsealed_of (Some s) i h = refl

pub unsealed_before : (es fs : Members) (n : ℕ) (i : CodedInstance) → SameMembers es fs → unsealed_at fs n ≡ Some i → unsealed_at es n ≡ Some i
unsealed_before es fs n i s h =
    let e = entry_some (slice_get fs n) i h in
    let d = s.same n e.0 e.1 in
    let some : ¬ (d.0.1.slot ≡ None) = λ none. (let both : None ≡ Some e.2.0 = sym (d.3 none) ∙ e.2.1 in let x : ⊥ = cc in x) in
    ap (λ (o : Option (CodedInstance × Member)). option_and_then (λ (x : CodedInstance × Member). option_map (λ (t : Slot). x.0) x.1.slot) o) d.1 ∙ unsealed_of d.0.1.slot d.0.0 some ∙ ap Some (sym d.2 ∙ e.2.2)

-- a member that had to wait in a part of a longer call
waited_before : (c d e : Held) (i : CodedInstance) → GoesOn c d → HadToWait d e i → HadToWait c e i
waited_before c d e i on w =
    let same = program_on c d on in
    record {
      then = w.then;
      before = goes_then c d w.then on w.before;
      after = w.after;
      need = w.need;
      missing = subst (λ (p : Program). ByEachAgreeing p w.then.view.made (λ names. IsMissingFrom p names w.then.view i w.need)) same w.missing;
    }

-- a member that had to wait in a later part
pub waits_before : (c d e : Held) (es fs gs hs : Members) (n : ℕ) → SameMembers es fs → GoesOn c d → AnswersPart d e fs gs n false → AnswersPart c e es hs n false
waits_before c d e es fs gs hs n s on a = (a.0, unsealed_before es fs n a.0 s a.1, waited_before c d e a.0 on a.2)

-- whether it is sealed now, or had to wait
pub is_sealed : (b : Bool) (d e : Held) (es fs : Members) (n : ℕ) → AnswersPart d e es fs n b → b ≡ true → IsSealedAt fs n
is_sealed b d e es fs n a h = subst (λ (c : Bool). AnswersPart d e es fs n c) h a

pub was_waiting : (b : Bool) (d e : Held) (es fs : Members) (n : ℕ) → AnswersPart d e es fs n b → b ≡ false → AnswersPart d e es fs n false
was_waiting b d e es fs n a h = subst (λ (c : Bool). AnswersPart d e es fs n c) h a

-- a member of a part, in the set
pub member_past : (part l : Local) (k : ℕ) → length part.members.entries ≤ k → SealsMember part l l k
member_past part l k past p names f v h sealed e at = let low : k < length part.members.entries = slice_get_within part.members.entries k e at in absurd (omega (arith, low, past))

pub member_absent : (part l : Local) (k : ℕ) (i : CodedInstance) (x : CodedValue) → IsMemberAt part.members.entries k i x → IsAbsent l.members.entries i → SealsMember part l l k
member_absent part l k i x there absent p names f v h sealed e at n d in_l is =
    let both : Some there.entry ≡ Some e = sym there.at ∙ at in
    let one : there.entry ≡ e = cc in
    absurd (absent d (at_has l.members.entries n d in_l) (is ∙ ap (λ (q : CodedInstance × Member). q.0) (sym one) ∙ there.is))

member_settled : (part l m : Local) (k number : ℕ) (i : CodedInstance) (x y : CodedValue) → IsMemberAt part.members.entries k i x → IsMemberAt l.members.entries number i y → SameMembers l.members.entries m.members.entries → IsSealedAt m.members.entries number → SealsMember part l m k
member_settled part l m k number i x y there here same shut p names f v h sealed e at n d in_m is =
    let both : Some there.entry ≡ Some e = sym there.at ∙ at in
    let one : there.entry ≡ e = cc in
    let of : d.0 ≡ i = is ∙ ap (λ (q : CodedInstance × Member). q.0) (sym one) ∙ there.is in
    let c = same.same n d in_m in
    let number_is : n ≡ number = h.set.different n number (instance_by p names i) (record { entry = c.0; at = c.1; is = ap (instance_by p names) (sym c.2 ∙ of) }) (record { entry = here.entry; at = here.at; is = ap (instance_by p names) here.is }) in
    sealed_entry m.members.entries n d in_m (subst (λ (u : ℕ). IsSealedAt m.members.entries u) (sym number_is) shut)

pub member_settled_ok : (r : Result Unit Memory) (part l m : Local) (k number : ℕ) (i : CodedInstance) (x y : CodedValue) → IsMemberAt part.members.entries k i x → IsMemberAt l.members.entries number i y → SameMembers l.members.entries m.members.entries → OnOk r (IsSealedAt m.members.entries number) → OnOk r (SealsMember part l m k)
member_settled_ok (Ok u) part l m k number i x y there here same shut = member_settled part l m k number i x y there here same shut
member_settled_ok (Err e) part l m k number i x y there here same shut = tt

-- and of the first members of a part
abbrev pub AreTaken : Local → Local → Local → ℕ → Type 0
AreTaken part l m n = (k : ℕ) → k < n → SealsMember part l m k

pub taken_none : (part l : Local) → AreTaken part l l 0
taken_none part l k low = absurd (omega (arith, low))

pub taken_more : (part l m n : Local) (k : ℕ) → Takes part l m → Takes part m n → AreTaken part l m k → SealsMember part m n k → AreTaken part l n (k + 1)
taken_more part l m n k a b before now j low = elim (cases_order j k) [
  | inl same ↦ λ p names f v h sealed e at. now p names f v (a.kept p names f v h sealed) sealed e (subst (λ (u : ℕ). slice_get part.members.entries u ≡ Some e) same at)
  | inr other ↦ λ p names f v h sealed e at. sealed_in_later m.members.entries n.members.entries e.0 b.members (before j (⊎_elim (λ x. x) (λ x. absurd (omega (arith, low, x))) other) p names f v h sealed e at)
]

pub taken_all : (part l m : Local) (n : ℕ) → length part.members.entries ≤ n → AreTaken part l m n → (k : ℕ) → SealsMember part l m k
taken_all part l m n all h k p names f v local sealed e at = let low : k < length part.members.entries = slice_get_within part.members.entries k e at in h k (omega (arith, low, all)) p names f v local sealed e at

-- of the first ones of a list, the members that aren't sealed
pub record AreUnsealed (es : Members) (found : List ℕ) (i : ℕ) (closed : List ℕ) : Type 0 where
  pub within : (k : ℕ) → Contains closed k → Contains found k × IsSome (unsealed_at es k)
  pub all : (j k : ℕ) → j < i → slice_index_or found j k ≡ k → IsSome (unsealed_at es k) → Contains closed k

pub unsealed_none : (es : Members) (found closed : List ℕ) → closed ≡ [] → AreUnsealed es found 0 closed
unsealed_none es found closed none = record { within = λ k h. absurd (contains_none k (subst (λ (ks : List ℕ). Contains ks k) none h)); all = λ j k low. absurd (omega (arith, low)) }

pub unsealed_more : (es : Members) (found closed more : List ℕ) (i : ℕ) → i < length found → IsSome (unsealed_at es (slice_index_or found i 0)) → more ≡ closed ++ slice_index_or found i 0 ∷ [] → AreUnsealed es found i closed → AreUnsealed es found (i + 1) more
unsealed_more es found closed more i low some is h =
    let n = slice_index_or found i 0 in
    record {
      within = λ k x. elim (Contains-append_cases closed (n ∷ []) k (subst (λ (ks : List ℕ). Contains ks k) is x)) [
        | inl y ↦ h.within k y
        | inr y ↦
            let one : k ≡ n = contains_one k n y in
            ((i, low, number_within found i k 0 low ∙ sym one), subst (λ (m : ℕ). IsSome (unsealed_at es m)) (sym one) some)
      ];
      all = λ j k less at unsealed.
          subst (λ (ks : List ℕ). Contains ks k) (sym is)
          (elim (cases_order j i) [
            | inl now ↦ subst (λ (m : ℕ). Contains (closed ++ n ∷ []) m) (number_is found i j k low now at) (Contains-push closed n)
            | inr before ↦ Contains-append_left closed (n ∷ []) k (h.all j k (⊎_elim (λ l. l) (λ l. absurd (omega (arith, less, l))) before) at unsealed)
          ]);
    }

pub unsealed_same : (es : Members) (found closed : List ℕ) (i : ℕ) → i < length found → ¬ IsSome (unsealed_at es (slice_index_or found i 0)) → AreUnsealed es found i closed → AreUnsealed es found (i + 1) closed
unsealed_same es found closed i low sealed h = record {
  within = h.within;
  all = λ j k less at unsealed. elim (cases_order j i) [
    | inl now ↦ absurd (sealed (subst (λ (m : ℕ). IsSome (unsealed_at es m)) (sym (number_is found i j k low now at)) unsealed))
    | inr before ↦ h.all j k (⊎_elim (λ l. l) (λ l. absurd (omega (arith, less, l))) before) at unsealed
  ];
}

-- all of them are the closed members of the set
pub closed_members : (l : Local) (stopped : ℕ × CodedInstance) (found closed : List ℕ) (i : ℕ) → l.need ≡ Some stopped → AreClosed l.worklist stopped.0 found → length found ≤ i → AreUnsealed l.members.entries found i closed → AreClosedMembers l closed
closed_members l stopped found closed i need are all h = record {
  closed = λ k x. let y = h.within k x in record { stopped = stopped; need = need; closed = are.closed k y.0; unsealed = y.1 };
  all = λ k m.
      let both : Some m.stopped ≡ Some stopped = sym m.need ∙ need in
      let one : m.stopped ≡ stopped = cc in
      let there = are.all k (subst (λ (s : ℕ × CodedInstance). IsClosed l.worklist s.0 k) one m.closed) in
      let low : there.0 < length found = there.1 in
      h.all there.0 k (omega (arith, low, all)) there.2 m.unsealed;
}

pub closed_none : (l : Local) (closed : List ℕ) → l.need ≡ None → closed ≡ [] → AreClosedMembers l closed
closed_none l closed need none = record {
  closed = λ k x. absurd (contains_none k (subst (λ (ks : List ℕ). Contains ks k) none x));
  all = λ k m. let both : None ≡ Some m.stopped = sym need ∙ m.need in absurd (let e : ⊥ = cc in e);
}

-- where nothing was found, nothing is left
empty : (ks : List ℕ) → ((k : ℕ) → ¬ Contains ks k) → ks ≡ []
empty [] h = refl
empty (k ∷ ks) h = absurd (h k (0, omega arith, refl))

pub unsealed_empty : (es : Members) (found closed : List ℕ) (i : ℕ) → found ≡ [] → AreUnsealed es found i closed → closed ≡ []
unsealed_empty es found closed i none h = empty closed (λ k x. contains_none k (subst (λ (ks : List ℕ). Contains ks k) none (h.within k x).0))

-- those so far are sealed
pub sealed_more : (es fs : Members) (closed : List ℕ) (i : ℕ) → i < length closed → SameMembers es fs → IsSealedAt fs (slice_index_or closed i 0) → ((j k : ℕ) → j < i → slice_index_or closed j k ≡ k → IsSealedAt es k) → (j k : ℕ) → j < i + 1 → slice_index_or closed j k ≡ k → IsSealedAt fs k
sealed_more es fs closed i low same now before j k less at = elim (cases_order j i) [
  | inl is ↦ subst (λ (m : ℕ). IsSealedAt fs m) (number_is closed i j k low is at) now
  | inr other ↦ sealed_later es fs k same (before j k (⊎_elim (λ l. l) (λ l. absurd (omega (arith, less, l))) other) at)
]
