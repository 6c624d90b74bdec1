-- A local set with one more member, with a value that rose, or with another need is one.
use Rattle.std.proofs.Common.{◌≡◌, ℕ, zero, suc, ◌+◌, ◌*◌, ◌-◌, ◌<◌, ◌≤◌, true, false, [], ◌∷◌, ◌++◌, Option, Some, None, IsSome, slice_get, length, ⊎_elim, sym, ap, subst, ◌∙◌, arith}
use Rattle.equation_law.specs.declared.coding.Instance.{Instance as CodedInstance}
use Rattle.equation_law.specs.declared.coding.Value.{Value as CodedValue}
use Rattle.equation_law.specs.declared.coding.Value.TheVariants as coded
use Rattle.equation_law.specs.Checked.{IsInstance}
use Rattle.equation_law.specs.Codes.{AreElements, IsCoded, Naming, instance_by, value_by}
use Rattle.equation_law.specs.Equations.{equations_of, kind_in}
use Rattle.equation_law.specs.Loops.{Leads}
use Rattle.equation_law.specs.Names.{Instance}
use Rattle.equation_law.specs.Orders.{FitsKind}
use Rattle.equation_law.specs.Program.{Program}
use Rattle.equation_law.specs.Values.{Value}
use Rattle.expr_eval.specs.declared.saved.Saved.{Saved}
use Rattle.memo_cells.specs.declared.keys.Slot.{Slot}
use Rattle.memo_cells.specs.declared.view.Frame.{Frame}
use Rattle.memo_cells.specs.declared.view.View.{View}
use Rattle.memo_cells.specs.Agreeing.{IsKnownInstance, IsKnownValue}
use Rattle.memo_cells.specs.Standing.{IsShown}
use Rattle.memo_cells.proofs.More.{at_least_itself}
use Rattle.circular_eval.specs.declared.local.Local.{Local}
use Rattle.circular_eval.specs.declared.members.Member.{Member}
use Rattle.circular_eval.specs.Left.{code_bound, left, member_bound, room, rooms}
use Rattle.circular_eval.specs.Local.{AreMembers, IsKept, IsLedBy, IsLocal, IsMember, IsNeedOf, IsNumberOf, IsPlaced, Members, reads_here, with_value}
use Rattle.circular_eval.specs.Visiting.{IsNew}
use Rattle.circular_eval.proofs.Entries.{at_either, at_has, at_more, changed_at, length_changed, length_more, rooms_less, rooms_more, stays_at}
use Rattle.circular_eval.proofs.Left.{missing_most, product_less}
use Rattle.circular_eval.proofs.Resuming.{kept_on, still_with}

-- one with the same members and needs
pub local_kept : (p : Program) (names : Naming) (f : Frame) (v : View) (l m : Local) → m.start ≡ l.start → m.members.entries ≡ l.members.entries → m.need ≡ l.need → IsKept f.system.value (reads_here p v m.members.entries) m.saved → IsLocal p names f v l → IsLocal p names f v m
local_kept p names f v l m s e n saved h = record {
  instance = subst (λ (i : CodedInstance). IsInstance p (instance_by p names i)) (sym s) h.instance;
  coded = subst (λ (i : CodedInstance). IsCoded p i) (sym s) h.coded;
  known = subst (λ (i : CodedInstance). IsKnownInstance p v.made i) (sym s) h.known;
  is_circular = subst (λ (i : CodedInstance). (equations_of p).circular (instance_by p names i) ≡ true) (sym s) h.is_circular;
  set = subst (λ (x : CodedInstance × Members). AreMembers p names f v x.0 x.1) (λ i. (sym s i, sym e i)) h.set;
  need = subst (λ (x : Members × Option (ℕ × CodedInstance)). IsNeedOf p names x.0 x.1) (λ i. (sym e i, sym n i)) h.need;
  saved = saved;
}

-- and what is kept is the same
pub local_same : (p : Program) (names : Naming) (f : Frame) (v : View) (l m : Local) → m.start ≡ l.start → m.members.entries ≡ l.members.entries → m.need ≡ l.need → m.saved ≡ l.saved → IsLocal p names f v l → IsLocal p names f v m
local_same p names f v l m s e n k h = local_kept p names f v l m s e n (subst (λ (x : Members × Option Saved). IsKept f.system.value (reads_here p v x.0) x.1) (λ i. (sym e i, sym k i)) h.saved) h

-- or nothing is kept
pub local_free : (p : Program) (names : Naming) (f : Frame) (v : View) (l m : Local) → m.start ≡ l.start → m.members.entries ≡ l.members.entries → m.need ≡ l.need → m.saved ≡ None → IsLocal p names f v l → IsLocal p names f v m
local_free p names f v l m s e n k h = local_kept p names f v l m s e n (subst (λ (o : Option Saved). IsKept f.system.value (reads_here p v m.members.entries) o) (sym k) tt) h

-- who leads to a member
led_more : (p : Program) (names : Naming) (es : Members) (x : CodedInstance × Member) (start : CodedInstance) (number : ℕ) (i : CodedInstance) (by : Option ℕ) → IsLedBy p names es start number i by → IsLedBy p names (es ++ x ∷ []) start number i by
led_more p names es x start number i None h = h
led_more p names es x start number i (Some b) h = (h.0, (h.1.0, at_more es x b h.1.0 h.1.1, h.1.2))

led_changed : (p : Program) (names : Naming) (es : Members) (n : ℕ) (x : CodedValue) (start : CodedInstance) (number : ℕ) (i : CodedInstance) (by : Option ℕ) → IsLedBy p names es start number i by → IsLedBy p names (with_value es n x) start number i by
led_changed p names es n x start number i None h = h
led_changed p names es n x start number i (Some b) h =
    let s = stays_at es n x b h.1.0 h.1.1 in
    (h.0, (s.0, s.1, subst (λ (j : CodedInstance). Leads p (instance_by p names j) (instance_by p names i)) (sym s.2) h.1.2))

need_more : (p : Program) (names : Naming) (es : Members) (x : CodedInstance × Member) (need : Option (ℕ × CodedInstance)) → IsNeedOf p names es need → IsNeedOf p names (es ++ x ∷ []) need
need_more p names es x None h = tt
need_more p names es x (Some (k, n)) h = (h.0, at_more es x k h.0 h.1, h.2)

need_changed : (p : Program) (names : Naming) (es : Members) (n : ℕ) (x : CodedValue) (need : Option (ℕ × CodedInstance)) → IsNeedOf p names es need → IsNeedOf p names (with_value es n x) need
need_changed p names es n x None h = tt
need_changed p names es n x (Some (k, i)) h =
    let s = stays_at es n x k h.0 h.1 in
    (s.0, s.1, subst (λ (j : CodedInstance). Leads p (instance_by p names j) (instance_by p names i)) (sym s.2) h.2)

-- the first of all is the start
led_first : (p : Program) (names : Naming) (es : Members) (start : CodedInstance) (i : CodedInstance) (by : Option ℕ) → zero ≡ length es → IsLedBy p names es start (length es) i by → i ≡ start
led_first p names es start i None e h = h
led_first p names es start i (Some b) e h = absurd (let low : b < length es = h.0 in omega (arith, low, e))

-- what a new member's value has to be
pub record IsFit (p : Program) (names : Naming) (f : Frame) (v : View) (i : Instance) (m : Member) : Type 0 where
  pub elements : AreElements p m.value
  pub known : IsKnownValue v.made m.value
  pub fits : FitsKind (kind_in p i) (value_by names m.value)
  pub shown : IsShown p v i (value_by names m.value)
  pub placed : IsPlaced p f v i (value_by names m.value) m.slot

module _ (p : Program) (names : Naming) (f : Frame) (v : View) (l : Local) (h : IsLocal p names f v l) where
  abbrev es : Members
  es = l.members.entries

  -- one more
  module _ (i : CodedInstance) (m : Member) (new : IsNew p names l i m.by) (known : IsKnownInstance p v.made i) (fit : IsFit p names f v (instance_by p names i) m) where
    abbrev more : Members
    more = es ++ (i, m) ∷ []

    member_more : (k : ℕ) (e : CodedInstance × Member) → IsMember p names f v es l.start k e → IsMember p names f v more l.start k e
    member_more k e a = record { instance = a.instance; coded = a.coded; is_circular = a.is_circular; elements = a.elements; known = a.known; fits = a.fits; shown = a.shown; placed = a.placed; led = led_more p names es (i, m) l.start k e.0 e.1.by a.led }

    member_new : IsMember p names f v more l.start (length es) (i, m)
    member_new = record { instance = new.instance; coded = new.coded; is_circular = new.is_circular; elements = fit.elements; known = (known, fit.known); fits = fit.fits; shown = fit.shown; placed = fit.placed; led = led_more p names es (i, m) l.start (length es) i m.by new.led }

    members_at : (k : ℕ) (e : CodedInstance × Member) → slice_get more k ≡ Some e → IsMember p names f v more l.start k e
    members_at k e at =
        ⊎_elim (λ a. member_more k e (h.set.members k e a))
        (λ b. subst (λ (x : ℕ × (CodedInstance × Member)). IsMember p names f v more l.start x.0 x.1) (λ j. (sym b.0 j, sym b.1 j)) member_new)
        (at_either es (i, m) k e at)

    first_more : (e : CodedInstance × Member) → slice_get more 0 ≡ Some e → e.0 ≡ l.start
    first_more e at = ⊎_elim (h.set.first e) (λ b. ap (λ (x : CodedInstance × Member). x.0) b.1 ∙ led_first p names es l.start i m.by b.0 new.led) (at_either es (i, m) 0 e at)

    -- the new one is none of the others
    other : (k : ℕ) (e : CodedInstance × Member) (j : Instance) → slice_get es k ≡ Some e → instance_by p names e.0 ≡ j → (d : CodedInstance × Member) → d ≡ (i, m) → instance_by p names d.0 ≡ j → ⊥
    other k e j at is d q same = new.absent (e, at_has es k e at, is ∙ sym same ∙ ap (λ (x : CodedInstance × Member). instance_by p names x.0) q)

    different_more : (a b : ℕ) (j : Instance) → IsNumberOf p names more j a → IsNumberOf p names more j b → a ≡ b
    different_more a b j x y =
        ⊎_elim
        (λ s. ⊎_elim (λ t. h.set.different a b j (record { entry = x.entry; at = s; is = x.is }) (record { entry = y.entry; at = t; is = y.is })) (λ t. absurd (other a x.entry j s x.is y.entry t.1 y.is)) (at_either es (i, m) b y.entry y.at))
        (λ s. ⊎_elim (λ t. absurd (other b y.entry j t y.is x.entry s.1 x.is)) (λ t. s.0 ∙ sym t.0) (at_either es (i, m) b y.entry y.at))
        (at_either es (i, m) a x.entry x.at)

    pub local_more : (n : Local) → n.start ≡ l.start → n.need ≡ l.need → n.saved ≡ l.saved → n.members.entries ≡ more → IsLocal p names f v n
    local_more n s q k e = record {
      instance = subst (λ (k : CodedInstance). IsInstance p (instance_by p names k)) (sym s) h.instance;
      coded = subst (λ (k : CodedInstance). IsCoded p k) (sym s) h.coded;
      known = subst (λ (k : CodedInstance). IsKnownInstance p v.made k) (sym s) h.known;
      is_circular = subst (λ (k : CodedInstance). (equations_of p).circular (instance_by p names k) ≡ true) (sym s) h.is_circular;
      set = subst (λ (x : CodedInstance × Members). AreMembers p names f v x.0 x.1) (λ j. (sym s j, sym e j)) (record { first = first_more; members = members_at; different = different_more });
      need = subst (λ (x : Members × Option (ℕ × CodedInstance)). IsNeedOf p names x.0 x.1) (λ j. (sym e j, sym q j)) (need_more p names es (i, m) l.need h.need);
      saved = subst (λ (x : Members × Option Saved). IsKept f.system.value (reads_here p v x.0) x.1) (λ j. (sym e j, sym k j)) (kept_on p v v (at_least_itself v) es more (still_with p v.made es (i, m)) f.system.value l.saved h.saved);
    }

  -- one with another value
  module _ (n : ℕ) (x : CodedValue) (d : CodedInstance × Member) (at : slice_get es n ≡ Some d) (some : IsSome d.1.slot) (elements : AreElements p x) (known : IsKnownValue v.made x) (fits : FitsKind (kind_in p (instance_by p names d.0)) (value_by names x)) (shown : IsShown p v (instance_by p names d.0) (value_by names x)) where
    abbrev risen : Members
    risen = with_value es n x

    placed_some : (i : Instance) (y z : Value) (o : Option Slot) → IsSome o → IsPlaced p f v i y o → IsPlaced p f v i z o
    placed_some i y z None there a = cc
    placed_some i y z (Some s) there a = a

    -- the one that rose
    abbrev raised : CodedInstance × Member
    raised = (d.0, record { slot = d.1.slot; value = x; by = d.1.by })

    member_raised : IsMember p names f v risen l.start n raised
    member_raised =
        let a = h.set.members n d at in
        record { instance = a.instance; coded = a.coded; is_circular = a.is_circular; elements = elements; known = (a.known.0, known); fits = fits; shown = shown; placed = placed_some (instance_by p names d.0) (value_by names d.1.value) (value_by names x) d.1.slot some a.placed; led = led_changed p names es n x l.start n d.0 d.1.by a.led }

    member_other : (k : ℕ) (e : CodedInstance × Member) → IsMember p names f v es l.start k e → IsMember p names f v risen l.start k e
    member_other k e a = record { instance = a.instance; coded = a.coded; is_circular = a.is_circular; elements = a.elements; known = a.known; fits = a.fits; shown = a.shown; placed = a.placed; led = led_changed p names es n x l.start k e.0 e.1.by a.led }

    same_entry : (c e : CodedInstance × Member) → e.0 ≡ c.0 → e.1.slot ≡ c.1.slot → e.1.by ≡ c.1.by → e.1.value ≡ c.1.value → e ≡ c
    same_entry c e i s b w = λ j. (i j, record { slot = s j; value = w j; by = b j })

    members_risen : (k : ℕ) (e : CodedInstance × Member) → slice_get risen k ≡ Some e → IsMember p names f v risen l.start k e
    members_risen k e q =
        let c = changed_at es n x k e q in
        ⊎_elim
        (λ w.
        let both : Some c.0 ≡ Some d = sym c.1 ∙ ap (λ (u : ℕ). slice_get es u) w.0 ∙ at in
        let is : c.0 ≡ d = cc in
        subst (λ (u : ℕ × (CodedInstance × Member)). IsMember p names f v risen l.start u.0 u.1) (λ j. (sym w.0 j, sym (same_entry raised e (c.2.instance ∙ ap (λ (u : CodedInstance × Member). u.0) is) (c.2.slot ∙ ap (λ (u : CodedInstance × Member). u.1.slot) is) (c.2.by ∙ ap (λ (u : CodedInstance × Member). u.1.by) is) w.1) j)) member_raised)
        (λ w. subst (λ (u : CodedInstance × Member). IsMember p names f v risen l.start k u) (sym (same_entry c.0 e c.2.instance c.2.slot c.2.by w)) (member_other k c.0 (h.set.members k c.0 c.1)))
        c.2.value

    first_risen : (e : CodedInstance × Member) → slice_get risen 0 ≡ Some e → e.0 ≡ l.start
    first_risen e q = let c = changed_at es n x 0 e q in c.2.instance ∙ h.set.first c.0 c.1

    number_before : (k : ℕ) (i : Instance) → IsNumberOf p names risen i k → IsNumberOf p names es i k
    number_before k i a = let c = changed_at es n x k a.entry a.at in record { entry = c.0; at = c.1; is = ap (λ (u : CodedInstance). instance_by p names u) (sym c.2.instance) ∙ a.is }

    pub local_risen : (m : Local) → m.start ≡ l.start → m.need ≡ l.need → m.saved ≡ None → m.members.entries ≡ risen → IsLocal p names f v m
    local_risen m s q k e = record {
      instance = subst (λ (k : CodedInstance). IsInstance p (instance_by p names k)) (sym s) h.instance;
      coded = subst (λ (k : CodedInstance). IsCoded p k) (sym s) h.coded;
      known = subst (λ (k : CodedInstance). IsKnownInstance p v.made k) (sym s) h.known;
      is_circular = subst (λ (k : CodedInstance). (equations_of p).circular (instance_by p names k) ≡ true) (sym s) h.is_circular;
      set = subst (λ (u : CodedInstance × Members). AreMembers p names f v u.0 u.1) (λ j. (sym s j, sym e j)) (record { first = first_risen; members = members_risen; different = λ a b i y z. h.set.different a b i (number_before a i y) (number_before b i z) });
      need = subst (λ (u : Members × Option (ℕ × CodedInstance)). IsNeedOf p names u.0 u.1) (λ j. (sym e j, sym q j)) (need_changed p names es n x l.need h.need);
      saved = subst (λ (o : Option Saved). IsKept f.system.value (reads_here p v m.members.entries) o) (sym k) tt;
    }

-- one with another need
pub local_needs : (p : Program) (names : Naming) (f : Frame) (v : View) (l m : Local) (k : ℕ) (n : CodedInstance) (e : CodedInstance × Member) → slice_get l.members.entries k ≡ Some e → Leads p (instance_by p names e.0) (instance_by p names n) → m.start ≡ l.start → m.members ≡ l.members → m.need ≡ Some (k, n) → m.saved ≡ l.saved → IsLocal p names f v l → IsLocal p names f v m
local_needs p names f v l m k n e at leads s q need saved h =
    let same : m.members.entries ≡ l.members.entries = ap (λ x. x.entries) q in
    record {
      instance = subst (λ (i : CodedInstance). IsInstance p (instance_by p names i)) (sym s) h.instance;
      coded = subst (λ (i : CodedInstance). IsCoded p i) (sym s) h.coded;
      known = subst (λ (i : CodedInstance). IsKnownInstance p v.made i) (sym s) h.known;
      is_circular = subst (λ (i : CodedInstance). (equations_of p).circular (instance_by p names i) ≡ true) (sym s) h.is_circular;
      set = subst (λ (x : CodedInstance × Members). AreMembers p names f v x.0 x.1) (λ i. (sym s i, sym same i)) h.set;
      need = subst (λ (x : Members × Option (ℕ × CodedInstance)). IsNeedOf p names x.0 x.1) (λ i. (sym same i, sym need i)) (e, at, leads);
      saved = subst (λ (x : Members × Option Saved). IsKept f.system.value (reads_here p v x.0) x.1) (λ i. (sym same i, sym saved i)) h.saved;
    }

-- less is left then
room_most : (x : CodedValue) → room x ≤ code_bound
unfolding code_bound
room_most (coded.Truth true) = omega arith
room_most (coded.Truth false) = omega arith
room_most (coded.Int z) = omega arith
room_most (coded.Text n) = omega arith
room_most (coded.Node n) = omega arith
room_most (coded.Texts cs) = missing_most code_bound cs
room_most (coded.Nodes cs) = missing_most code_bound cs

pub left_more : (es : Members) (e : CodedInstance × Member) → length es < member_bound → left (es ++ e ∷ []) < left es
left_more es e few =
    let a : room e.1.value ≤ code_bound = room_most e.1.value in
    let low : room e.1.value < suc code_bound = omega (arith, a) in
    let less : (member_bound - suc (length es)) * suc code_bound + (rooms es + room e.1.value) < (member_bound - length es) * suc code_bound + rooms es = product_less member_bound (length es) (suc code_bound) (rooms es) (room e.1.value) few low in
    let is : left (es ++ e ∷ []) ≡ (member_bound - suc (length es)) * suc code_bound + (rooms es + room e.1.value) = (λ i. (member_bound - length_more es e i) * suc code_bound + rooms_more es e i) in
    subst (λ (k : ℕ). k < left es) (sym is) less

pub left_risen : (es : Members) (n : ℕ) (x : CodedValue) (d : CodedInstance × Member) → slice_get es n ≡ Some d → room x < room d.1.value → left (with_value es n x) < left es
left_risen es n x d at less =
    let a : rooms (with_value es n x) < rooms es = rooms_less es n x d at less in
    let b : (member_bound - length es) * suc code_bound + rooms (with_value es n x) < (member_bound - length es) * suc code_bound + rooms es = omega (arith, a) in
    subst (λ (k : ℕ). (member_bound - k) * suc code_bound + rooms (with_value es n x) < left es) (sym (length_changed es n x)) b
