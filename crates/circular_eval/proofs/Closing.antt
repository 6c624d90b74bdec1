-- A local set whose equations hold is closed.
use Rattle.std.proofs.Common.{◌≡◌, ◌⊎◌, ℕ, zero, suc, Bool, true, false, ◌||◌, cond, List, [], ◌∷◌, Option, Some, None, IsSome, inl, inr, ⊎_elim, map, slice_get, refl, sym, ap, subst, ◌∙◌, arith}
use Rattle.solutions.specs.Asking.{Meets}
use Rattle.solutions.specs.Leading.{Holds, Read, fixed, inside, known}
use Rattle.solutions.specs.Rounds.{is_in}
use Rattle.solutions.proofs.Loops.{ends_meets}
use Rattle.solutions.proofs.Runs.{ends_more, or_left, or_right}
use Rattle.equation_law.specs.declared.coding.Instance.{Instance as CodedInstance}
use Rattle.equation_law.specs.Checked.{IsInstance, IsProgram}
use Rattle.equation_law.specs.Codes.{Naming, instance_by, value_by}
use Rattle.equation_law.specs.Equations.{HasValue, equations_of}
use Rattle.equation_law.specs.Loops.{order_in}
use Rattle.equation_law.specs.Names.{Instance, same_instance}
use Rattle.equation_law.specs.Program.{Program}
use Rattle.equation_law.specs.Values.{Value}
use Rattle.equation_law.proofs.Declared.{as_declared}
use Rattle.equation_law.proofs.Names.{same_instance_is, same_instance_self}
use Rattle.equation_law.proofs.Solution.{one}
use Rattle.memo_cells.specs.declared.keys.Slot.{Slot}
use Rattle.memo_cells.specs.declared.view.Frame.{Frame}
use Rattle.memo_cells.specs.declared.view.View.{View}
use Rattle.memo_cells.specs.Agreeing.{Agrees}
use Rattle.memo_cells.specs.Naming.{IsCellOf}
use Rattle.memo_cells.specs.Standing.{AreApproximations, Knows, MaySeal}
use Rattle.memo_cells.specs.Steps.{AreSealed}
use Rattle.memo_cells.specs.Views.{Has, IsAtLeast}
use Rattle.memo_cells.proofs.Agreeing.{IsOpen}
use Rattle.memo_cells.proofs.Naming.{knows_later, stands_later}
use Rattle.memo_cells.proofs.Showing.{not_both}
use Rattle.circular_eval.specs.declared.members.Member.{Member}
use Rattle.circular_eval.specs.Local.{AreMembers, AreSlots, IsCurrent, IsMember, IsMemberOf, IsNumberOf, IsPlaced, Members, ReadsHere, here as local_here, local_value, settled}
use Rattle.circular_eval.specs.Visiting.{AreConfirmed}
use Rattle.circular_eval.proofs.Entries.{has_at}
use Rattle.circular_eval.proofs.Lowering.{ends_of, values_shown}

or_either : (a b : Bool) → (a || b) ≡ true → (a ≡ true) ⊎ (b ≡ true)
or_either true b e = inl refl
or_either false b e = inr e

-- the value of a member is that of its instance, where no two members are one instance
pub value_there : (p : Program) (names : Naming) (es : Members) → ((m n : ℕ) (i : Instance) → IsNumberOf p names es i m → IsNumberOf p names es i n → m ≡ n) → (number : ℕ) (e : CodedInstance × Member) → slice_get es number ≡ Some e → local_value p names es (instance_by p names e.0) ≡ value_by names e.1.value
value_there p names [] different number e at = cc
value_there p names (d ∷ es) different zero e at =
    let is : d ≡ e = cc in
    ap (λ b. cond b (value_by names d.1.value) (local_value p names es (instance_by p names e.0))) (subst (λ (x : CodedInstance × Member). same_instance (instance_by p names e.0) (instance_by p names x.0) ≡ true) (sym is) (same_instance_self (instance_by p names e.0))) ∙ ap (λ (x : CodedInstance × Member). value_by names x.1.value) is
value_there p names (d ∷ es) different (suc n) e at =
    elim (same_instance (instance_by p names e.0) (instance_by p names d.0)) as (λ b. same_instance (instance_by p names e.0) (instance_by p names d.0) ≡ b → cond b (value_by names d.1.value) (local_value p names es (instance_by p names e.0)) ≡ value_by names e.1.value) [
      | true ↦ λ h.
          let same : instance_by p names d.0 ≡ instance_by p names e.0 = sym (same_instance_is (instance_by p names e.0) (instance_by p names d.0) h) in
          let no : zero ≡ suc n = different zero (suc n) (instance_by p names e.0) (record { entry = d; at = refl; is = same }) (record { entry = e; at = at; is = refl }) in
          absurd (omega (arith, no))
      | false ↦ λ h. value_there p names es (λ a b i x y. let q : suc a ≡ suc b = different (suc a) (suc b) i (record { entry = x.entry; at = x.at; is = x.is }) (record { entry = y.entry; at = y.at; is = y.is }) in omega (arith, q)) n e at
    ] refl

-- the instances of the members that weren't sealed when they were met
abbrev pub with_opened : Option Slot → Instance → List Instance → List Instance
with_opened None i is = is
with_opened (Some s) i is = i ∷ is

abbrev pub opened : Program → Naming → Members → List Instance
opened p names [] = []
opened p names (e ∷ es) = with_opened e.1.slot (instance_by p names e.0) (opened p names es)

head_in : (o : Option Slot) (i : Instance) (is : List Instance) → IsSome o → is_in same_instance (with_opened o i is) i ≡ true
head_in None i is there = cc
head_in (Some s) i is there = or_left (same_instance i i) (is_in same_instance is i) (same_instance_self i)

tail_in : (o : Option Slot) (i j : Instance) (is : List Instance) → is_in same_instance is j ≡ true → is_in same_instance (with_opened o i is) j ≡ true
tail_in None i j is h = h
tail_in (Some s) i j is h = or_right (same_instance j i) (is_in same_instance is j) h

-- each of these members is among them
pub opened_there : (p : Program) (names : Naming) (es : Members) (number : ℕ) (e : CodedInstance × Member) → slice_get es number ≡ Some e → IsSome e.1.slot → is_in same_instance (opened p names es) (instance_by p names e.0) ≡ true
opened_there p names [] number e at some = cc
opened_there p names (d ∷ es) zero e at some =
    let is : e ≡ d = cc in
    subst (λ (x : CodedInstance × Member). is_in same_instance (opened p names (d ∷ es)) (instance_by p names x.0) ≡ true) (sym is) (head_in d.1.slot (instance_by p names d.0) (opened p names es) (subst (λ (x : CodedInstance × Member). IsSome x.1.slot) is some))
opened_there p names (d ∷ es) (suc n) e at some = tail_in d.1.slot (instance_by p names d.0) (instance_by p names e.0) (opened p names es) (opened_there p names es n e at some)

-- and each of them is a member
abbrev IsOpened : Program → Naming → Members → Instance → Type 0
IsOpened p names es j = (e : CodedInstance × Member) × Has es e × IsSome e.1.slot × (j ≡ instance_by p names e.0)

opened_of : (p : Program) (names : Naming) (e : CodedInstance × Member) (es : Members) (j : Instance) (o : Option Slot) → e.1.slot ≡ o → (is_in same_instance (opened p names es) j ≡ true → IsOpened p names es j) → is_in same_instance (with_opened o (instance_by p names e.0) (opened p names es)) j ≡ true → IsOpened p names (e ∷ es) j
opened_of p names e es j None q rest h = let r = rest h in (r.0, inr r.1, r.2, r.3)
opened_of p names e es j (Some s) q rest h =
    ⊎_elim
    (λ a. (e, inl refl, subst (λ (o : Option Slot). IsSome o) (sym q) refl, same_instance_is j (instance_by p names e.0) a))
    (λ a. let r = rest a in (r.0, inr r.1, r.2, r.3))
    (or_either (same_instance j (instance_by p names e.0)) (is_in same_instance (opened p names es) j) h)

opened_is : (p : Program) (names : Naming) (es : Members) (j : Instance) → is_in same_instance (opened p names es) j ≡ true → IsOpened p names es j
opened_is p names [] j h = cc
opened_is p names (e ∷ es) j h = opened_of p names e es j e.1.slot refl (opened_is p names es j) h

-- a slot is among the places
place_among : (slots : List Slot) (s : Slot) → Has slots s → Has (map (λ x. x.0) slots) s.0
place_among [] s h = absurd h
place_among (x ∷ xs) s (inl e) = inl (ap (λ (y : Slot). y.0) e)
place_among (x ∷ xs) s (inr h) = inr (place_among xs s h)

among_place : (slots : List Slot) (k : ℕ) → Has (map (λ x. x.0) slots) k → (s : Slot) × Has slots s × (k ≡ s.0)
among_place [] k h = absurd h
among_place (x ∷ xs) k (inl e) = (x, inl refl, e)
among_place (x ∷ xs) k (inr h) = let r = among_place xs k h in (r.0, inr r.1, r.2)

-- where a member is placed
placed_some : (p : Program) (f : Frame) (v : View) (i : Instance) (x : Value) (o : Option Slot) → IsPlaced p f v i x o → IsSome o → (s : Slot) × (o ≡ Some s) × IsCellOf p f v i s.0
placed_some p f v i x None h some = cc
placed_some p f v i x (Some s) h some = (s, refl, h)

pub placed_at : (p : Program) (f : Frame) (v : View) (i : Instance) (x : Value) (o : Option Slot) (s : Slot) → o ≡ Some s → IsPlaced p f v i x o → IsCellOf p f v i s.0
placed_at p f v i x o s e h = subst (λ (q : Option Slot). IsPlaced p f v i x q) e h

placed_or : (p : Program) (f : Frame) (v : View) (i : Instance) (x : Value) (o : Option Slot) → IsPlaced p f v i x o → (Knows p v i × HasValue p i x) ⊎ IsSome o
placed_or p f v i x None h = inl h
placed_or p f v i x (Some s) h = inr refl

module _ (p : Program) (names : Naming) (good : IsProgram p) (v : View) (agrees : Agrees p v.made names) (near : AreApproximations p v) (by : IsOpen p v.made) (f : Frame) (start : CodedInstance) (es : Members) (set : AreMembers p names f v start es) where
  abbrev T : Instance → Value
  T = local_value p names es

  is_member : (e : CodedInstance × Member) → Has es e → (n : ℕ) × (slice_get es n ≡ Some e) × IsMember p names f v es start n e
  is_member e h = let at = has_at es e h in (at.0, at.1, set.members at.0 e at.1)

  pub value_is : (e : CodedInstance × Member) → Has es e → T (instance_by p names e.0) ≡ value_by names e.1.value
  value_is e h = let m = is_member e h in value_there p names es set.different m.0 e m.1

  -- a member is known, with its value in the solution, or among those that are sealed
  pub known_or : (j : Instance) → IsMemberOf p names es j → (Knows p v j × HasValue p j (T j)) ⊎ (is_in same_instance (opened p names es) j ≡ true)
  known_or j (e, h, is) =
      let m = is_member e h in
      subst (λ (i : Instance). (Knows p v i × HasValue p i (T i)) ⊎ (is_in same_instance (opened p names es) i ≡ true)) is
      (⊎_elim (λ k. inl (k.0, subst (λ (x : Value). HasValue p (instance_by p names e.0) x) (sym (value_is e h)) k.1)) (λ some. inr (opened_there p names es m.0 e m.1 some)) (placed_or p f v (instance_by p names e.0) (value_by names e.1.value) e.1.slot m.2.placed))

  reads_closed : (j : Instance) (w : Value) → IsInstance p j × ReadsHere p names v es j w → Read (equations_of p) (opened p names es) T j w
  unfolding equations_of
  reads_closed j w (h, settled d k) = fixed (as_declared p good j h ∙ d) k.1
  reads_closed j w (h, local_here d m) = ⊎_elim (λ k. known (as_declared p good j h ∙ d) k.1) (λ i. inside (as_declared p good j h ∙ d) i) (known_or j m)

  one_read : (j : Instance) (x y : Value) → IsInstance p j × ReadsHere p names v es j x → Read (equations_of p) (opened p names es) T j y → x ≡ y
  one_read j x y (h, settled d k) (fixed c a) = one p j x y k.1 a
  one_read j x y (h, settled d k) (inside c a) = absurd (not_both (as_declared p good j h ∙ d) c)
  one_read j x y (h, settled d k) (known c a) = absurd (not_both (as_declared p good j h ∙ d) c)
  one_read j x y (h, local_here d m) (fixed c a) = absurd (not_both c (as_declared p good j h ∙ d))
  one_read j x y (h, local_here d m) (inside c a) = refl
  one_read j x y (h, local_here d m) (known c a) = refl

  read_known : (j : Instance) (w : Value) → IsInstance p j × ReadsHere p names v es j w → (is_in same_instance (opened p names es) j ≡ true) ⊎ Knows p v j
  read_known j w (h, settled d k) = inr k.0
  read_known j w (h, local_here d m) = ⊎_elim (λ k. inr k.0) inl (known_or j m)

  module _ (all : AreConfirmed p v es) (slots : List Slot) (are : AreSlots es slots) where
    current : (i : Instance) → is_in same_instance (opened p names es) i ≡ true → IsInstance p i × ((equations_of p).circular i ≡ true) × IsCurrent p names v es i
    current i h =
        let o = opened_is p names es i h in
        let m = is_member o.0 o.1 in
        subst (λ (j : Instance). IsInstance p j × ((equations_of p).circular j ≡ true) × IsCurrent p names v es j) (sym o.3) (m.2.instance, m.2.is_circular, all o.0 o.1 o.2 names agrees)

    slot_of : (i : Instance) → is_in same_instance (opened p names es) i ≡ true → (s : ℕ) × Has (map (λ x. x.0) slots) s × IsCellOf p f v i s
    slot_of i h =
        let o = opened_is p names es i h in
        let m = is_member o.0 o.1 in
        let s = placed_some p f v (instance_by p names o.0.0) (value_by names o.0.1.value) o.0.1.slot m.2.placed o.2 in
        (s.0.0, place_among slots s.0 (are.all o.0 s.0 o.1 s.1), subst (λ (j : Instance). IsCellOf p f v j s.0.0) (sym o.3) s.2)

    stands : (s : ℕ) → Has (map (λ x. x.0) slots) s → (i : Instance) × (is_in same_instance (opened p names es) i ≡ true) × IsCellOf p f v i s
    stands s h =
        let a = among_place slots s h in
        let w = are.within a.0 a.1 in
        let m = is_member w.0 w.1 in
        (instance_by p names w.0.0, opened_there p names es m.0 w.0 m.1 (subst (λ (o : Option Slot). IsSome o) (sym w.2) refl), subst (λ (k : ℕ). IsCellOf p f v (instance_by p names w.0.0) k) (sym a.2) (placed_at p f v (instance_by p names w.0.0) (value_by names w.0.1.value) w.0.1.slot a.0 w.2 m.2.placed))

    pub holds : (i : Instance) → is_in same_instance (opened p names es) i ≡ true → Holds (equations_of p) (order_in p) (opened p names es) T i
    holds i h =
        let c = current i h in
        record { is_circular = c.1; value = c.2.value; demands = c.2.demands; ends = ends_more reads_closed (ends_of p names good v near by f start es set i c.0 c.2.value c.2.demands c.2.ends); below = c.2.below }

    meets_known : (i j : Instance) → is_in same_instance (opened p names es) i ≡ true → Meets (Read (equations_of p) (opened p names es) T) ((equations_of p).equation i) j → (is_in same_instance (opened p names es) j ≡ true) ⊎ Knows p v j
    meets_known i j h m =
        let c = current i h in
        let r = ends_meets one_read (ends_of p names good v near by f start es set i c.0 c.2.value c.2.demands c.2.ends) m in
        read_known j r.0 r.1

    pub may_seal : MaySeal p f v (map (λ x. x.0) slots)
    unfolding equations_of
    may_seal = record { set = opened p names es; values = T; shown = values_shown p names good v near by f start es set; slot_of = slot_of; stands = stands; instances = λ i h. (current i h).0; holds = holds; known = meets_known }

    -- then each member is seen sealed
    pub member_sealed : (w : View) → IsAtLeast v w → AreSealed v w (map (λ x. x.0) slots) → (e : CodedInstance × Member) → Has es e → Knows p w (instance_by p names e.0)
    member_sealed w more sealed e h =
        let m = is_member e h in
        ⊎_elim (λ k. knows_later v w more p (instance_by p names e.0) k.0)
        (λ some.
        let s = placed_some p f v (instance_by p names e.0) (value_by names e.1.value) e.1.slot m.2.placed some in
        let c = sealed s.0.0 s.2.0 (place_among slots s.0 (are.all e s.0 h s.1)) s.2.1.1 in
        record { key = s.2.0; stands = stands_later v w more p s.2.0 (instance_by p names e.0) s.2.2; slot = s.0.0; code = c.0; settled = c.1 })
        (placed_or p f v (instance_by p names e.0) (value_by names e.1.value) e.1.slot m.2.placed)
