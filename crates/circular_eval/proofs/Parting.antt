-- Parts of a local set that are sealed: the set stays one.
use Rattle.std.proofs.Common.{◌≡◌, ◌⊎◌, ℕ, zero, suc, ◌<◌, Bool, true, false, cond, [], ◌∷◌, Option, Some, None, IsSome, Result, Ok, Err, length, slice_get, inl, inr, ⊎_elim, refl, sym, ap, subst, ◌∙◌}
use Rattle.std.specs.Option.{option_and_then, option_map}
use Rattle.std.specs.Prelude.{IfErr, OnOk}
use Rattle.equation_law.specs.declared.coding.Instance.{Instance as CodedInstance}
use Rattle.equation_law.specs.declared.coding.Value.{Value as CodedValue}
use Rattle.equation_law.specs.declared.system.System.{System}
use Rattle.equation_law.specs.Checked.{IsInstance}
use Rattle.equation_law.specs.Codes.{AreElements, IsCoded, Naming, instance_by, value_by}
use Rattle.equation_law.specs.Equations.{HasValue, equations_of, kind_in}
use Rattle.equation_law.specs.Loops.{Chain, Leads}
use Rattle.equation_law.specs.Names.{Instance, same_instance}
use Rattle.equation_law.specs.Orders.{FitsKind}
use Rattle.equation_law.specs.Program.{Program}
use Rattle.equation_law.specs.Systems.{program_of}
use Rattle.equation_law.specs.Values.{Value}
use Rattle.expr_eval.specs.declared.saved.Saved.{Saved}
use Rattle.made_trees.specs.Made.{naming_by_makers}
use Rattle.memo_cells.specs.declared.keys.Slot.{Slot}
use Rattle.memo_cells.specs.declared.view.Frame.{Frame}
use Rattle.memo_cells.specs.declared.view.View.{View}
use Rattle.memo_cells.specs.Agreeing.{ByEachAgreeing, IsKnownInstance}
use Rattle.memo_cells.specs.Claiming.{ClaimsKeys}
use Rattle.memo_cells.specs.Standing.{Knows}
use Rattle.memo_cells.specs.Views.{Has}
use Rattle.memo_cells.specs.Working.{Held, program_at}
use Rattle.memo_cells.proofs.Agreeing.{IsOpen, agrees_before, own_open}
use Rattle.memo_cells.proofs.Claiming.{claims_same, claims_then, fills_more}
use Rattle.memo_cells.proofs.Holding.{goes_itself}
use Rattle.memo_cells.proofs.More.{at_least_itself}
use Rattle.circular_eval.specs.declared.advancing.CircFault.{CircFault}
use Rattle.circular_eval.specs.declared.advancing.CircFault.TheVariants.{CellsFull, Memory}
use Rattle.circular_eval.specs.declared.advancing.CircTurn.{CircTurn}
use Rattle.circular_eval.specs.declared.advancing.CircTurn.TheVariants as turn
use Rattle.circular_eval.specs.declared.local.Local.{Local}
use Rattle.circular_eval.specs.declared.members.Member.{Member}
use Rattle.circular_eval.specs.Advancing.{AnswersFault, AnswersTurn}
use Rattle.circular_eval.specs.Local.{AreMembers, IsKept, IsLedBy, IsLocal, IsLocalOf, IsMember, IsMemberOf, IsNeedOf, IsNumberOf, IsPlaced, IsStillLocal, Members, StillMembers, local_value, reads_here, with_value}
use Rattle.circular_eval.specs.Parts.{AnswersPart, IsFinal, IsFinalAt, IsSealedAt, IsSealedSet, SameMembers, SealsMember, SealsPart, Settles, Takes, unsealed_at, without_slot}
use Rattle.circular_eval.specs.Sealed.{IsMemberAt}
use Rattle.circular_eval.specs.Visiting.{Advances, GoesOnWith, IsReady}
use Rattle.circular_eval.proofs.Admitting.{local_is_here}
use Rattle.circular_eval.proofs.Entries.{at_has, changed_at, length_changed}
use Rattle.circular_eval.proofs.Ending.{head_of}
use Rattle.circular_eval.proofs.Going.{member_chain, program_on, with_then}
use Rattle.circular_eval.proofs.Growing.{local_risen}
use Rattle.circular_eval.proofs.Knowing.{copy_known}
use Rattle.circular_eval.proofs.Later.{set_later}
use Rattle.circular_eval.proofs.Passing.{goes_looked, missing_same}
use Rattle.circular_eval.proofs.Resuming.{kept_on}
use Rattle.circular_eval.proofs.Sealing.{entry_sealed, same_itself, same_risen, same_then}

-- the member that is sealed: its entry, but for the cell
pub record IsShut (n : ℕ) (k : ℕ) (d e : CodedInstance × Member) : Type 0 where
  pub instance : e.0 ≡ d.0
  pub value : e.1.value ≡ d.1.value
  pub by : e.1.by ≡ d.1.by
  pub slot : ((k ≡ n) × (e.1.slot ≡ None)) ⊎ (e.1.slot ≡ d.1.slot)

pub shut_at : (es : Members) (n k : ℕ) (e : CodedInstance × Member) → slice_get (without_slot es n) k ≡ Some e → (d : CodedInstance × Member) × (slice_get es k ≡ Some d) × IsShut n k d e
shut_at [] n k e at = cc
shut_at (d ∷ es) zero zero e at =
    let is : (d.0, record { slot = None; value = d.1.value; by = d.1.by }) ≡ e = cc in
    (d, refl, record { instance = ap (λ (q : CodedInstance × Member). q.0) (sym is); value = ap (λ (q : CodedInstance × Member). q.1.value) (sym is); by = ap (λ (q : CodedInstance × Member). q.1.by) (sym is); slot = inl (refl, ap (λ (q : CodedInstance × Member). q.1.slot) (sym is)) })
shut_at (d ∷ es) zero (suc k) e at = (e, at, record { instance = refl; value = refl; by = refl; slot = inr refl })
shut_at (d ∷ es) (suc n) zero e at = (e, at, record { instance = refl; value = refl; by = refl; slot = inr refl })
shut_at (d ∷ es) (suc n) (suc k) e at =
    let r = shut_at es n k e at in
    (r.0, r.1, record { instance = r.2.instance; value = r.2.value; by = r.2.by; slot = ⊎_elim (λ h. inl (ap suc h.0, h.1)) inr r.2.slot })

length_shut : (es : Members) (n : ℕ) → length (without_slot es n) ≡ length es
length_shut [] n = refl
length_shut (e ∷ es) zero = refl
length_shut (e ∷ es) (suc n) = ap suc (length_shut es n)

stays_shut : (es : Members) (n k : ℕ) (d : CodedInstance × Member) → slice_get es k ≡ Some d → (e : CodedInstance × Member) × (slice_get (without_slot es n) k ≡ Some e) × (e.0 ≡ d.0)
stays_shut [] n k d at = cc
stays_shut (c ∷ es) zero zero d at = let is : c ≡ d = cc in ((c.0, record { slot = None; value = c.1.value; by = c.1.by }), refl, ap (λ (q : CodedInstance × Member). q.0) is)
stays_shut (c ∷ es) zero (suc k) d at = (d, at, refl)
stays_shut (c ∷ es) (suc n) zero d at = (d, at, refl)
stays_shut (c ∷ es) (suc n) (suc k) d at = stays_shut es n k d at

-- the values stay
value_shut : (p : Program) (names : Naming) (es : Members) (n : ℕ) (j : Instance) → local_value p names (without_slot es n) j ≡ local_value p names es j
value_shut p names [] n j = refl
value_shut p names (e ∷ es) zero j = refl
value_shut p names (e ∷ es) (suc n) j = ap (λ x. cond (same_instance j (instance_by p names e.0)) (value_by names e.1.value) x) (value_shut p names es n j)

member_shut : (p : Program) (names : Naming) (es : Members) (n : ℕ) (j : Instance) → IsMemberOf p names es j → IsMemberOf p names (without_slot es n) j
member_shut p names [] n j (e, there, is) = absurd there
member_shut p names (d ∷ es) zero j (e, inl q, is) = ((d.0, record { slot = None; value = d.1.value; by = d.1.by }), inl refl, ap (λ (x : CodedInstance × Member). instance_by p names x.0) (sym q) ∙ is)
member_shut p names (d ∷ es) zero j (e, inr q, is) = (e, inr q, is)
member_shut p names (d ∷ es) (suc n) j (e, inl q, is) = (e, inl q, is)
member_shut p names (d ∷ es) (suc n) j (e, inr q, is) = let r = member_shut p names es n j (e, q, is) in (r.0, inr r.1, r.2)

still_shut : (p : Program) (names : Naming) (es : Members) (n : ℕ) → StillMembers p names es (without_slot es n)
still_shut p names es n = record { members = λ j m. member_shut p names es n j m; values = λ j m. value_shut p names es n j }

-- who leads to a member
led_shut : (p : Program) (names : Naming) (es : Members) (n : ℕ) (start : CodedInstance) (number : ℕ) (i : CodedInstance) (by : Option ℕ) → IsLedBy p names es start number i by → IsLedBy p names (without_slot es n) start number i by
led_shut p names es n start number i None h = h
led_shut p names es n start number i (Some b) h =
    let s = stays_shut es n b h.1.0 h.1.1 in
    (h.0, (s.0, s.1, subst (λ (j : CodedInstance). Leads p (instance_by p names j) (instance_by p names i)) (sym s.2) h.1.2))

need_shut : (p : Program) (names : Naming) (es : Members) (n : ℕ) (need : Option (ℕ × CodedInstance)) → IsNeedOf p names es need → IsNeedOf p names (without_slot es n) need
need_shut p names es n None h = tt
need_shut p names es n (Some (k, i)) h =
    let s = stays_shut es n k h.0 h.1 in
    (s.0, s.1, subst (λ (j : CodedInstance). Leads p (instance_by p names j) (instance_by p names i)) (sym s.2) h.2)

-- a member that is sealed with its value
module _ (p : Program) (names : Naming) (f : Frame) (v : View) (l : Local) (h : IsLocal p names f v l) (n : ℕ) (final : (d : CodedInstance × Member) → slice_get l.members.entries n ≡ Some d → Knows p v (instance_by p names d.0) × HasValue p (instance_by p names d.0) (value_by names d.1.value)) where
  abbrev es : Members
  es = l.members.entries

  abbrev shut : Members
  shut = without_slot es n

  placed_shut : (k : ℕ) (d e : CodedInstance × Member) → slice_get es k ≡ Some d → IsShut n k d e → IsPlaced p f v (instance_by p names d.0) (value_by names d.1.value) d.1.slot → IsPlaced p f v (instance_by p names d.0) (value_by names d.1.value) e.1.slot
  placed_shut k d e at s placed =
      ⊎_elim
      (λ a. subst (λ (o : Option Slot). IsPlaced p f v (instance_by p names d.0) (value_by names d.1.value) o) (sym a.1) (final d (subst (λ (u : ℕ). slice_get es u ≡ Some d) a.0 at)))
      (λ a. subst (λ (o : Option Slot). IsPlaced p f v (instance_by p names d.0) (value_by names d.1.value) o) (sym a) placed)
      s.slot

  members_shut : (k : ℕ) (e : CodedInstance × Member) → slice_get shut k ≡ Some e → IsMember p names f v shut l.start k e
  members_shut k e at =
      let c = shut_at es n k e at in
      let d = c.0 in
      let m = h.set.members k d c.1 in
      let made : IsMember p names f v shut l.start k (d.0, record { slot = e.1.slot; value = d.1.value; by = d.1.by }) = record {
        instance = m.instance;
        coded = m.coded;
        is_circular = m.is_circular;
        elements = m.elements;
        known = m.known;
        fits = m.fits;
        shown = m.shown;
        placed = placed_shut k d e c.1 c.2 m.placed;
        led = led_shut p names es n l.start k d.0 d.1.by m.led;
      } in
      subst (λ (u : CodedInstance × Member). IsMember p names f v shut l.start k u) (λ j. (sym c.2.instance j, record { slot = e.1.slot; value = sym c.2.value j; by = sym c.2.by j })) made

  first_shut : (e : CodedInstance × Member) → slice_get shut 0 ≡ Some e → e.0 ≡ l.start
  first_shut e at = let c = shut_at es n 0 e at in c.2.instance ∙ h.set.first c.0 c.1

  number_shut : (k : ℕ) (i : Instance) → IsNumberOf p names shut i k → IsNumberOf p names es i k
  number_shut k i a = let c = shut_at es n k a.entry a.at in record { entry = c.0; at = c.1; is = ap (λ (u : CodedInstance). instance_by p names u) (sym c.2.instance) ∙ a.is }

  pub local_shut : (m : Local) → m.start ≡ l.start → m.need ≡ l.need → m.saved ≡ l.saved → m.members.entries ≡ shut → IsLocal p names f v m
  local_shut m s q k e = record {
    instance = subst (λ (u : CodedInstance). IsInstance p (instance_by p names u)) (sym s) h.instance;
    coded = subst (λ (u : CodedInstance). IsCoded p u) (sym s) h.coded;
    known = subst (λ (u : CodedInstance). IsKnownInstance p v.made u) (sym s) h.known;
    is_circular = subst (λ (u : CodedInstance). (equations_of p).circular (instance_by p names u) ≡ true) (sym s) h.is_circular;
    set = subst (λ (u : CodedInstance × Members). AreMembers p names f v u.0 u.1) (λ j. (sym s j, sym e j)) (record { first = first_shut; members = members_shut; different = λ a b i y z. h.set.different a b i (number_shut a i y) (number_shut b i z) });
    need = subst (λ (u : Members × Option (ℕ × CodedInstance)). IsNeedOf p names u.0 u.1) (λ j. (sym e j, sym q j)) (need_shut p names es n l.need h.need);
    saved = subst (λ (u : Members × Option Saved). IsKept f.system.value (reads_here p v u.0) u.1) (λ j. (sym e j, sym k j)) (kept_on p v v (at_least_itself v) es shut (λ others agrees. still_shut p others es n) f.system.value l.saved h.saved);
  }

some_shut : (es fs : Members) (n : ℕ) → fs ≡ without_slot es n → 0 < length es → 0 < length fs
some_shut es fs n is h = subst (λ (k : ℕ). 0 < k) (sym (ap length is ∙ length_shut es n)) h

same_shut : (es fs : Members) (n : ℕ) → fs ≡ without_slot es n → SameMembers es fs
same_shut es fs n is = record {
  same = λ k e at.
      let c = shut_at es n k e (subst (λ (u : Members). slice_get u k ≡ Some e) is at) in
      (c.0, c.1, c.2.instance, λ h. ⊎_elim (λ a. a.1) (λ a. a ∙ h) c.2.slot);
}

some_risen : (es fs : Members) (n : ℕ) (x : CodedValue) → fs ≡ with_value es n x → 0 < length es → 0 < length fs
some_risen es fs n x is h = subst (λ (k : ℕ). 0 < k) (sym (ap length is ∙ length_changed es n x)) h

-- the value with which it is sealed is its value already
pub settled_none : (l : Local) (n : ℕ) (x : CodedValue) → Settles l l n x
settled_none l n x = record { start = refl; members = same_itself l.members.entries; some = λ h. h; kept = λ p names f v h final. h }

pub settled_same : (l m : Local) (n : ℕ) (d : CodedInstance × Member) (x : CodedValue) → slice_get l.members.entries n ≡ Some d → x ≡ d.1.value → m.start ≡ l.start → m.need ≡ l.need → m.saved ≡ l.saved → m.members.entries ≡ without_slot l.members.entries n → Settles l m n x
settled_same l m n d x at same s q k e = record {
  start = s;
  members = same_shut l.members.entries m.members.entries n e;
  some = some_shut l.members.entries m.members.entries n e;
  kept = λ p names f v h final.
      local_shut p names f v l h n
      (λ c there.
      let is : c ≡ d = (let both : Some c ≡ Some d = sym there ∙ at in cc) in
      let a = final c there in
      (a.known, subst (λ (y : CodedValue). HasValue p (instance_by p names c.0) (value_by names y)) (same ∙ ap (λ (u : CodedInstance × Member). u.1.value) (sym is)) a.has))
      m s q k e;
}

-- or the member rose to it
pub risen_final : (l m : Local) (n : ℕ) (d : CodedInstance × Member) (x : CodedValue) → slice_get l.members.entries n ≡ Some d → IsSome d.1.slot → m.start ≡ l.start → m.need ≡ l.need → m.saved ≡ None → m.members.entries ≡ with_value l.members.entries n x → Settles l m n x
risen_final l m n d x at there s q k e = record {
  start = s;
  members = same_risen l.members.entries m.members.entries n x e;
  some = some_risen l.members.entries m.members.entries n x e;
  kept = λ p names f v h final. let a = final d at in local_risen p names f v l h n x d at there a.elements a.value_known a.fits (inr (a.known, a.has)) m s q k e;
}

-- and has it then
risen_has : (es : Members) (n : ℕ) (x : CodedValue) (p : Program) (names : Naming) (v : View) → IsFinalAt p names v es n x → (c : CodedInstance × Member) → slice_get (with_value es n x) n ≡ Some c → c.1.value ≡ x → Knows p v (instance_by p names c.0) × HasValue p (instance_by p names c.0) (value_by names c.1.value)
risen_has es n x p names v final c there is =
    let b = changed_at es n x n c there in
    let a = final b.0 b.1 in
    (subst (λ (u : CodedInstance). Knows p v (instance_by p names u)) (sym b.2.instance) a.known, subst (λ (u : CodedInstance × CodedValue). HasValue p (instance_by p names u.0) (value_by names u.1)) (λ j. (sym b.2.instance j, sym is j)) a.has)

value_there : (es : Members) (n : ℕ) (x : CodedValue) (c : CodedInstance × Member) → slice_get (with_value es n x) n ≡ Some c → c.1.value ≡ x
value_there [] n x c at = cc
value_there (e ∷ es) zero x c at = let is : (e.0, record { slot = e.1.slot; value = x; by = e.1.by }) ≡ c = cc in ap (λ (u : CodedInstance × Member). u.1.value) (sym is)
value_there (e ∷ es) (suc n) x c at = value_there es n x c at

pub settled_risen : (l r m : Local) (n : ℕ) (x : CodedValue) → Settles l r n x → r.members.entries ≡ with_value l.members.entries n x → m.start ≡ r.start → m.need ≡ r.need → m.saved ≡ r.saved → m.members.entries ≡ without_slot r.members.entries n → Settles l m n x
settled_risen l r m n x risen e s2 q2 k2 e2 = record {
  start = s2 ∙ risen.start;
  members = same_then l.members.entries r.members.entries m.members.entries risen.members (same_shut r.members.entries m.members.entries n e2);
  some = λ h. some_shut r.members.entries m.members.entries n e2 (risen.some h);
  kept = λ p names f v h final.
      local_shut p names f v r (risen.kept p names f v h final) n
      (λ c in_r.
      let here : slice_get (with_value l.members.entries n x) n ≡ Some c = subst (λ (u : Members). slice_get u n ≡ Some c) e in_r in
      risen_has l.members.entries n x p names v final c here (value_there l.members.entries n x c here))
      m s2 q2 k2 e2;
}

-- and so it is for a copy of the value
same_final : (p : Program) (names : Naming) (v : View) (es : Members) (n : ℕ) (x y : CodedValue) → ((others : Naming) → value_by others y ≡ value_by others x) → ((q : Program) → AreElements q x → AreElements q y) → IsFinalAt p names v es n x → IsFinalAt p names v es n y
same_final p names v _ n x y same elements final e at =
    let a = final e at in
    let q : value_by names x ≡ value_by names y = sym (same names) in
    record {
      elements = elements p a.elements;
      value_known = copy_known p v.made x y same (elements p a.elements) a.value_known;
      fits = subst (λ (u : Value). FitsKind (kind_in p (instance_by p names e.0)) u) q a.fits;
      known = a.known;
      has = subst (λ (u : Value). HasValue p (instance_by p names e.0) u) q a.has;
    }

pub settled_copy : (l m : Local) (n : ℕ) (x y : CodedValue) → ((others : Naming) → value_by others y ≡ value_by others x) → ((q : Program) → AreElements q x → AreElements q y) → Settles l m n y → Settles l m n x
settled_copy l m n x y same elements s = record {
  start = s.start;
  members = s.members;
  some = s.some;
  kept = λ p names f v h final. s.kept p names f v h (same_final p names v l.members.entries n x y same elements final);
}

-- the value of a member of a sealed set is final
pub member_final : (p : Program) (names : Naming) (f : Frame) (v : View) (l : Local) → IsSealedSet p names f v l → (k : ℕ) (i : CodedInstance) (x : CodedValue) → IsMemberAt l.members.entries k i x → IsFinal p names v (instance_by p names i) x
member_final p names f v l h k i x at =
    let there = at_has l.members.entries k at.entry at.at in
    let m = h.local.set.members k at.entry at.at in
    subst (λ (u : CodedInstance × CodedValue). IsFinal p names v (instance_by p names u.0) u.1) (λ j. (at.is j, at.value j))
    (record { elements = m.elements; value_known = m.known.1; fits = m.fits; known = h.sealed.members at.entry there; has = h.sealed.values at.entry there })

-- and so it is where the instance is a member of another set
pub final_at : (p : Program) (names : Naming) (f : Frame) (v : View) (part : Local) → IsSealedSet p names f v part → (es : Members) (k number : ℕ) (i : CodedInstance) (x y : CodedValue) → IsMemberAt part.members.entries k i x → IsMemberAt es number i y → IsFinalAt p names v es number x
final_at p names f v part sealed es k number i x y there here e at =
    let both : Some e ≡ Some here.entry = sym at ∙ here.at in
    let is : e ≡ here.entry = cc in
    subst (λ (u : CodedInstance). IsFinal p names v (instance_by p names u) x) (sym (ap (λ (q : CodedInstance × Member). q.0) is ∙ here.is)) (member_final p names f v part sealed k i x there)

-- a fault for what is led to
fault_led : (p : Program) (i j : CodedInstance) (f : Frame) (v : View) → ByEachAgreeing p v.made (λ names. Chain p (instance_by p names i) (instance_by p names j)) → (fault : CircFault) → AnswersFault p j f v fault → AnswersFault p i f v fault
fault_led p i j f v c CellsFull h = λ names agrees. fills_more p (instance_by p names i) (instance_by p names j) f v (c names agrees) (h names agrees)
fault_led p i j f v c Memory h = tt

-- where only memory may be wanting
only_memory : {X : Type 0} (p : Program) (i : CodedInstance) (f : Frame) (v : View) (y : Result X CircFault) → ((fault : CircFault) → y ≡ Err fault → fault ≡ Memory) → IfErr y (AnswersFault p i f v)
only_memory p i f v (Ok u) h = tt
only_memory p i f v (Err fault) h = subst (λ (z : CircFault). AnswersFault p i f v z) (sym (h fault refl)) tt

-- the member that isn't sealed
option_slot : (o : Option Slot) (e : CodedInstance × Member) (i : CodedInstance) → e.1.slot ≡ o → option_map (λ (s : Slot). e.0) o ≡ Some i → e.0 ≡ i
option_slot None e i q h = cc
option_slot (Some s) e i q h = cc

entry_unsealed : (o : Option (CodedInstance × Member)) (i : CodedInstance) → option_and_then (λ (e : CodedInstance × Member). option_map (λ (s : Slot). e.0) e.1.slot) o ≡ Some i → (e : CodedInstance × Member) × (o ≡ Some e) × (e.0 ≡ i)
entry_unsealed None i h = cc
entry_unsealed (Some e) i h = (e, refl, option_slot e.1.slot e i refl h)

pub unsealed_entry : (es : Members) (n : ℕ) (i : CodedInstance) → unsealed_at es n ≡ Some i → (e : CodedInstance × Member) × (slice_get es n ≡ Some e) × (e.0 ≡ i)
unsealed_entry es n i h = entry_unsealed (slice_get es n) i h

-- a part begins at a member
module _ (s : System) (d : Held) (l : Local) (r : IsReady s d l) (n : ℕ) (i : CodedInstance) (un : unsealed_at l.members.entries n ≡ Some i) where
  abbrev p : Program
  p = program_at d

  entry : (e : CodedInstance × Member) × (slice_get l.members.entries n ≡ Some e) × (e.0 ≡ i)
  entry = unsealed_entry l.members.entries n i un

  pub part_ready : (part : Local) → IsLocalOf i part → IsReady s d part
  part_ready part begun =
      let q = program_of s in
      record {
        program = r.program;
        same = r.same;
        own = r.own;
        local = λ names agrees.
            let m = (r.local names agrees).set.members n entry.0 entry.1 in
            begun q names d.frame d.view
            (subst (λ (u : CodedInstance). IsInstance q (instance_by q names u)) entry.2 m.instance)
            (subst (λ (u : CodedInstance). IsCoded q u) entry.2 m.coded)
            (subst (λ (u : CodedInstance). IsKnownInstance q d.view.made u) entry.2 m.known.0)
            (subst (λ (u : CodedInstance). (equations_of q).circular (instance_by q names u) ≡ true) entry.2 m.is_circular);
      }

  reached : ByEachAgreeing p d.view.made (λ names. Chain p (instance_by p names l.start) (instance_by p names i))
  reached names agrees = subst (λ (u : CodedInstance). Chain p (instance_by p names l.start) (instance_by p names u)) entry.2 (member_chain p names d.frame d.view l (local_is_here s d l r names agrees) n entry.0 entry.1)

  module _ (e : Held) (begun part : Local) (is : begun.start ≡ i) where
    -- what a part did, the set did
    pub part_goes : (m : Local) → GoesOnWith d e begun part → m.start ≡ l.start → (0 < length l.members.entries → 0 < length m.members.entries) → IsStillLocal d e m → GoesOnWith d e l m
    part_goes m goes start some local = record {
      on = goes.on;
      local = local;
      start = start;
      claims = λ names agrees.
          claims_then p (instance_by p names l.start) (instance_by p names i) d.view d.view e.view (reached names (agrees_before p goes.on.kept.made agrees)) (claims_same p (instance_by p names l.start) d.view d.view refl) goes.on.kept
          (subst (λ (u : CodedInstance). ClaimsKeys p (instance_by p names u) d.view e.view) is (goes.claims names agrees));
      some = some;
    }

    later : GoesOnWith d e begun part → IsStillLocal d e l
    later goes = set_later p d.view e.view goes.on.kept d.frame l (local_is_here s d l r)

    -- it needs what is missing: nothing changed
    pub part_waits : (x : CodedInstance) → Advances d e begun part (Ok (turn.Need x)) → SealsPart d e l l (Ok false)
    part_waits x a = record { goes = part_goes l a.goes refl (λ h. h) (later a.goes); members = same_itself l.members.entries; fault = tt }

    pub part_waited : (x : CodedInstance) → Advances d e begun part (Ok (turn.Need x)) → AnswersPart d e l.members.entries l.members.entries n false
    part_waited x a = (
      i,
      un,
      record {
        then = e;
        before = a.goes.on;
        after = goes_itself e a.goes.on.own;
        need = x;
        missing = λ names agrees.
            let m = a.answer names agrees in
            record {
              reached = subst (λ (u : CodedInstance). Chain p (instance_by p names u) (instance_by p names x)) (a.goes.start ∙ is) m.reached;
              undeclared = m.undeclared;
              unknown = m.unknown;
            };
      },
    )

    pub part_fails : (fault : CircFault) → Advances d e begun part (Err fault) → (y : Result Bool CircFault) → y ≡ Err fault → SealsPart d e l l y
    part_fails fault a y same =
        subst (λ (z : Result Bool CircFault). SealsPart d e l l z) (sym same)
        (record { goes = part_goes l a.goes refl (λ h. h) (later a.goes); members = same_itself l.members.entries; fault = fault_led p l.start i d.frame e.view (λ names agrees. reached names (agrees_before p a.goes.on.kept.made agrees)) fault (subst (λ (u : CodedInstance). AnswersFault p u d.frame e.view fault) (a.goes.start ∙ is) a.answer) })

    -- it was sealed
    pub part_sealed : Advances d e begun part (Ok turn.Closed) → ByEachAgreeing p e.view.made (λ names. IsSealedSet p names d.frame e.view part)
    part_sealed a names agrees = record { local = a.goes.local names agrees; sealed = a.answer names agrees }

    -- some naming agrees then
    open_then : GoesOnWith d e begun part → IsOpen p e.view.made
    open_then goes = subst (λ (u : Program). IsOpen u e.view.made) (program_on d e goes.on) (own_open e.frame e.view [] goes.on.own)

    -- the member is the first one of the part
    first : Advances d e begun part (Ok turn.Closed) → (c : CodedInstance × Member) × (slice_get part.members.entries 0 ≡ Some c) × (c.0 ≡ i)
    first a =
        let c = head_of part.members.entries a.begun in
        (c.0, c.1, (a.goes.local (naming_by_makers p e.view.made) (open_then a.goes)).set.first c.0 c.1 ∙ a.goes.start ∙ is)

    pub part_done : (m : Local) → Advances d e begun part (Ok turn.Closed) → SameMembers l.members.entries m.members.entries → ((k : ℕ) → SealsMember part l m k) → IsSealedAt m.members.entries n
    part_done m a same seals =
        let c = first a in
        let some = naming_by_makers p e.view.made in
        let by = open_then a.goes in
        entry_sealed m.members.entries n
        (λ x at.
        let before = same.same n x at in
        let both : Some before.0 ≡ Some entry.0 = sym before.1 ∙ entry.1 in
        let one : before.0 ≡ entry.0 = cc in
        seals 0 p some d.frame e.view (later a.goes some by) (part_sealed a some by) c.0 c.1 n x at (before.2 ∙ ap (λ (q : CodedInstance × Member). q.0) one ∙ entry.2 ∙ sym c.2))

    pub part_taken : (m : Local) → Advances d e begun part (Ok turn.Closed) → m.start ≡ l.start → SameMembers l.members.entries m.members.entries → (0 < length l.members.entries → 0 < length m.members.entries) → ((q : Program) (names : Naming) (f : Frame) (v : View) → IsLocal q names f v l → IsSealedSet q names f v part → IsLocal q names f v m) → (y : Result Bool CircFault) → ((fault : CircFault) → y ≡ Err fault → fault ≡ Memory) → SealsPart d e l m y
    part_taken m a start same some kept y memory = record {
      goes = part_goes m a.goes start some (λ names agrees. kept p names d.frame e.view (later a.goes names agrees) (part_sealed a names agrees));
      members = same;
      fault = only_memory p l.start d.frame e.view y memory;
    }

-- what was taken over from a part so far
pub takes_none : (part l : Local) → Takes part l l
takes_none part l = record { start = refl; members = same_itself l.members.entries; some = λ h. h; kept = λ p names f v h sealed. h }

pub takes_settled : (part m n : Local) (k number : ℕ) (i : CodedInstance) (x y : CodedValue) → IsMemberAt part.members.entries k i x → IsMemberAt m.members.entries number i y → Settles m n number x → Takes part m n
takes_settled part m n k number i x y there here s = record {
  start = s.start;
  members = s.members;
  some = s.some;
  kept = λ p names f v h sealed. s.kept p names f v h (final_at p names f v part sealed m.members.entries k number i x y there here);
}

pub takes_then : (part l m n : Local) → Takes part l m → Takes part m n → Takes part l n
takes_then part l m n a b = record { start = b.start ∙ a.start; members = same_then l.members.entries m.members.entries n.members.entries a.members b.members; some = λ h. b.some (a.some h); kept = λ p names f v h sealed. b.kept p names f v (a.kept p names f v h sealed) sealed }

-- parts, one after the other
module _ (d e f : Held) (l m n : Local) (h : GoesOnWith d e l m) where
  part_back : {X : Type 0} (y : Result X CircFault) → SealsPart e f m n y → IfErr y (AnswersFault (program_at d) l.start d.frame f.view)
  part_back y v = subst (λ (u : (Program × Frame) × CodedInstance). IfErr y (AnswersFault u.0.0 u.1 u.0.1 f.view)) (λ j. ((program_on d e h.on j, h.on.cells j), h.start j)) v.fault

  pub parts_then : {X : Type 0} → SameMembers l.members.entries m.members.entries → (y : Result X CircFault) → SealsPart e f m n y → SealsPart d f l n y
  parts_then same y v = record { goes = with_then d e f l m n h v.goes; members = same_then l.members.entries m.members.entries n.members.entries same v.members; fault = part_back y v }

  -- going on behind them
  turn_back : (y : Result CircTurn CircFault) → Advances e f m n y → AnswersTurn (program_at d) d.frame f.view n y
  turn_back y v = subst (λ (u : Program × Frame). AnswersTurn u.0 u.1 f.view n y) (λ j. (program_on d e h.on j, h.on.cells j)) v.answer

  pub turns_then : (y : Result CircTurn CircFault) → Advances e f m n y → Advances d f l n y
  turns_then y v = record { goes = with_then d e f l m n h v.goes; begun = v.begun; answer = turn_back y v }

  pub parts_fail : {X : Type 0} (fault : CircFault) → SealsPart {X = X} e f m n (Err fault) → (y : Result CircTurn CircFault) → y ≡ Err fault → Advances d f l n y
  parts_fail {X = X} fault v y is =
      subst (λ (z : Result CircTurn CircFault). Advances d f l n z) (sym is)
      (record { goes = with_then d e f l m n h v.goes; begun = tt; answer = subst (λ (u : CodedInstance). AnswersFault (program_at d) u d.frame f.view fault) (sym (with_then d e f l m n h v.goes).start) (part_back {X = X} (Err fault) v) })

-- where none is sealed
pub parts_none : (s : System) (d : Held) (l m : Local) (r : IsReady s d l) → GoesOnWith d d l m → SameMembers l.members.entries m.members.entries → (y : Result Bool CircFault) → ((fault : CircFault) → y ≡ Err fault → fault ≡ Memory) → SealsPart d d l m y
parts_none s d l m r goes same y memory = record { goes = goes; members = same; fault = only_memory (program_at d) l.start d.frame d.view y memory }

pub ok_memory : {X : Type 0} (x : X) (y : Result X CircFault) → y ≡ Ok x → (fault : CircFault) → y ≡ Err fault → fault ≡ Memory
ok_memory x y is fault e = let both : Ok x ≡ Err fault = sym is ∙ e in cc

pub err_memory : {X : Type 0} (y : Result X CircFault) → y ≡ Err Memory → (fault : CircFault) → y ≡ Err fault → fault ≡ Memory
err_memory y is fault e = let both : Err Memory ≡ Err fault = sym is ∙ e in cc

-- which member is next changes nothing of what is answered
turn_same : (p : Program) (f : Frame) (v : View) (m n : Local) (y : Result CircTurn CircFault) → n.start ≡ m.start → n.members ≡ m.members → n.need ≡ m.need → AnswersTurn p f v m y → AnswersTurn p f v n y
turn_same p f v m n (Ok (turn.Need x)) start members need a = λ names agrees. missing_same p names v m n x start need (a names agrees)
turn_same p f v m n (Ok turn.Closed) start members need a = λ names agrees. record {
  start = subst (λ (u : CodedInstance). Knows p v (instance_by p names u)) (sym start) (a names agrees).start;
  members = λ e there. (a names agrees).members e (subst (λ (es : Members). Has es e) (ap (λ x. x.entries) members) there);
  values = λ e there. (a names agrees).values e (subst (λ (es : Members). Has es e) (ap (λ x. x.entries) members) there);
}
turn_same p f v m n (Err fault) start members need a = subst (λ (u : CodedInstance). AnswersFault p u f v fault) (sym start) a

pub turn_looked : (d e : Held) (l m n : Local) (y : Result CircTurn CircFault) → Advances d e l m y → n.start ≡ m.start → n.members ≡ m.members → n.need ≡ m.need → n.saved ≡ m.saved → Advances d e l n y
turn_looked d e l m n y a start members need saved = record { goes = goes_looked d e l m n start members need saved a.goes; begun = subst (λ u. OnOk y (0 < length u.entries)) (sym members) a.begun; answer = turn_same (program_at d) d.frame e.view m n y start members need a.answer }

pub turn_refused : (d e : Held) (l m n : Local) → GoesOnWith d e l m → n.start ≡ m.start → n.members ≡ m.members → n.need ≡ m.need → n.saved ≡ m.saved → (y : Result CircTurn CircFault) → y ≡ Err Memory → Advances d e l n y
turn_refused d e l m n h start members need saved y is = subst (λ (z : Result CircTurn CircFault). Advances d e l n z) (sym is) (record { goes = goes_looked d e l m n start members need saved h; begun = tt; answer = tt })

pub turn_fails : (d e : Held) (l m : Local) (fault : CircFault) → Advances d e l m (Err fault) → (y : Result CircTurn CircFault) → y ≡ Err fault → Advances d e l m y
turn_fails d e l m fault a y is = subst (λ (z : Result CircTurn CircFault). Advances d e l m z) (sym is) a

pub parts_stop : {X Y : Type 0} (d e f : Held) (l m n : Local) → GoesOnWith d e l m → SameMembers l.members.entries m.members.entries → (fault : CircFault) → SealsPart {X = X} e f m n (Err fault) → (y : Result Y CircFault) → y ≡ Err fault → SealsPart d f l n y
parts_stop {Y = Y} d e f l m n h same fault v y is =
    let back : SealsPart {X = Y} e f m n (Err fault) = record { goes = v.goes; members = v.members; fault = v.fault } in
    subst (λ (z : Result Y CircFault). SealsPart d f l n z) (sym is) (parts_then d e f l m n h same (Err fault) back)
