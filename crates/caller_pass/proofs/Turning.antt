-- Turns of solving: what holds before each of them, and what a turn comes to.
use Rattle.std.proofs.Common.{◌≡◌, ◌≢◌, ℕ, ◌+◌, ◌<◌, ◌≤◌, ⊎_elim, Bool, true, false, List, [], ◌∷◌, ◌++◌, length, Option, Some, None, refl, sym, ap, subst, ◌∙◌, arith}
use Rattle.std.proofs.lemmas.Bool.{or_left, or_right}
use Rattle.rag_io.specs.Pool.{ArePooled}
use Rattle.equation_law.specs.contracts.coding.InstancePartialEq.TheImpl as equality
use Rattle.equation_law.specs.declared.coding.Instance.{Instance as CodedInstance}
use Rattle.equation_law.specs.Codes.{IsNamingOf, Naming, instance_by}
use Rattle.equation_law.specs.Equations.{equations_of}
use Rattle.equation_law.specs.Names.{Instance}
use Rattle.equation_law.specs.Program.{Program}
use Rattle.equation_law.specs.Systems.{program_of}
use Rattle.equation_law.proofs.Keys.{key_self, one_key_by}
use Rattle.memo_cells.specs.declared.keys.Slot.{Slot}
use Rattle.memo_cells.specs.declared.view.Frame.{Frame}
use Rattle.memo_cells.specs.declared.view.View.{View}
use Rattle.memo_cells.specs.Naming.{IsCellOf, StandsFor}
use Rattle.memo_cells.specs.Standing.{IsPassOf, Knows}
use Rattle.memo_cells.specs.Views.{Has, IsAtLeast}
use Rattle.memo_cells.proofs.More.{at_least_itself}
use Rattle.memo_cells.proofs.Naming.{cell_later, stands_once}
use Rattle.circular_eval.specs.declared.local.Local.{Local}
use Rattle.caller_pass.specs.declared.waiting.Waiter.{Waiter}
use Rattle.caller_pass.specs.Answering.{WayChanges, is_known_at}
use Rattle.caller_pass.specs.Waiting.{IsPlaced, IsStack, IsWayOf, waits, way_of}
use Rattle.caller_pass.proofs.Falling.{by_one, by_value, left, left_falls, left_less, measure, not_taken, pop_keeps, taken, taken_by, turns_of}
use Rattle.caller_pass.proofs.Knowing.{known_cell, one_cell, open_in}
use Rattle.memo_cells.proofs.Bits.{has_left}
use Rattle.caller_pass.proofs.Lines.{has_last, has_snoc}
use Rattle.caller_pass.proofs.Places.{known_at, known_at_later, settled_known}

-- the program whose cells these are
abbrev pub program_in : Frame → Program
program_in f = program_of f.system.value

pub waits_each : (es : List (CodedInstance × Waiter)) (e : CodedInstance × Waiter) → Has es e → waits es e.0 ≡ true
waits_each [] e h = absurd h
waits_each (x ∷ es) e h = ⊎_elim
    (λ same. or_left (equality.ghosts.eq e.0 x.0) (waits es e.0) (ap (λ (d : CodedInstance × Waiter). equality.ghosts.eq e.0 d.0) (sym same) ∙ key_self e.0))
    (λ later. or_right (equality.ghosts.eq e.0 x.0) (waits es e.0) (waits_each es e later)) h

pub length_snoc : (es : List (CodedInstance × Waiter)) (e : CodedInstance × Waiter) → length (es ++ e ∷ []) ≡ length es + 1
length_snoc [] e = refl
length_snoc (x ∷ es) e = let rest = length_snoc es e in omega (arith, rest)

-- what is taken stays so while the last one goes on in another state
taken_on : (v w : View) (es : List (CodedInstance × Waiter)) (t : CodedInstance) (x y : Waiter) → IsAtLeast v w → y.slot ≡ x.slot → (q : ℕ) → taken v (es ++ (t, x) ∷ []) q ≡ true → taken w (es ++ (t, y) ∷ []) q ≡ true
taken_on v w es t x y kept same q h = ⊎_elim
    (λ z. by_value w (es ++ (t, y) ∷ []) q (known_at_later v w q kept z))
    (λ z. subst (λ (r : ℕ). taken w (es ++ (t, y) ∷ []) r ≡ true) z.2 (⊎_elim
    (λ before. by_one w (es ++ (t, y) ∷ []) z.0 (has_left es ((t, y) ∷ []) z.0 before))
    (λ now. subst (λ (r : ℕ). taken w (es ++ (t, y) ∷ []) r ≡ true) (ap (λ (s : Slot). s.0) same ∙ ap (λ (d : CodedInstance × Waiter). d.1.slot.0) (sym now)) (by_one w (es ++ (t, y) ∷ []) (t, y) (has_last es (t, y))))
    (has_snoc es (t, x) z.0 z.1)))
    (taken_by v (es ++ (t, x) ∷ []) q h)

-- the cells of those on a stack, as they are known
pub on_stack : (p : Program) (names : Naming) (f : Frame) (v : View) (i : Instance) (es : List (CodedInstance × Waiter)) (top : CodedInstance × Waiter) → IsStack p names f v i es top → (e : CodedInstance × Waiter) → Has (es ++ top ∷ []) e → IsPlaced p names f v e
on_stack p names f v i es top stack e h = ⊎_elim (stack.placed e) (λ same. subst (λ (d : CodedInstance × Waiter). IsPlaced p names f v d) (sym same) stack.frame.placed) (has_snoc es top e h)

module _ (p : Program) (names : Naming) (named : IsNamingOf p names) (f : Frame) (same : p ≡ program_in f) (pooled : ArePooled p.texts) (v w : View) (own : IsPassOf f v) (then : IsPassOf f w) (kept : IsAtLeast v w) (i : Instance) (es : List (CodedInstance × Waiter)) (t : CodedInstance) (x : Waiter) (stack : IsStack p names f v i es (t, x)) where
  -- the cell of an instance that isn't circular and isn't on the stack is another one than those of the stack
  pub apart : (n : Instance) (s : ℕ) → IsCellOf p f w n s → ((e : CodedInstance × Waiter) → Has (es ++ (t, x) ∷ []) e → instance_by p names e.0 ≢ n) → (e : CodedInstance × Waiter) → Has (es ++ (t, x) ∷ []) e → e.1.slot.0 ≢ s
  apart n s cell other e h place =
      let its = cell_later v w kept p f (instance_by p names e.0) e.1.slot.0 ((on_stack p names f v i es (t, x) stack e h).slot) in
      let word : its.0 ≡ cell.0 = then.one_key s its.0 cell.0 (subst (λ (q : ℕ). Has w.keys (q, its.0)) place its.1.1) cell.1.1 in
      let stands = subst (λ (k : ℕ). StandsFor p w k (instance_by p names e.0)) word its.2 in
      other e h (stands_once w then.one_key p (open_in p f w same then) cell.0 (instance_by p names e.0) n stands cell.2)

  -- a cell that comes to be seen settled, of an instance that isn't on the stack
  pub falls_by : (n : Instance) → ¬ Knows p v n → ((e : CodedInstance × Waiter) → Has (es ++ (t, x) ∷ []) e → instance_by p names e.0 ≢ n) → (s : ℕ) → IsCellOf p f w n s → (g : ℕ → Bool) → ((q : ℕ) → taken v (es ++ (t, x) ∷ []) q ≡ true → g q ≡ true) → g s ≡ true → left g f.cells < left (taken v (es ++ (t, x) ∷ [])) f.cells
  falls_by n unknown other s cell g more there =
      let free = not_taken v (es ++ (t, x) ∷ []) s (λ h. unknown (settled_known p f v same own w n s then kept cell h)) (apart n s cell other) in
      left_falls (taken v (es ++ (t, x) ∷ [])) g f.cells s more cell.1.0 free there

  -- a local set is waited for, or its start is seen sealed
  pub falls_further : (y : Waiter) → y.slot ≡ x.slot → WayChanges p names f w (instance_by p names t) (way_of x) (way_of y) → measure w es (t, y) f.cells < measure v es (t, x) f.cells
  falls_further y slot changes = by_way (way_of x) (way_of y) refl refl changes
    where
      more : (q : ℕ) → taken v (es ++ (t, x) ∷ []) q ≡ true → taken w (es ++ (t, y) ∷ []) q ≡ true
      more = taken_on v w es t x y kept slot

      by_way : (old new : Option Local) → way_of x ≡ old → way_of y ≡ new → WayChanges p names f w (instance_by p names t) old new → measure w es (t, y) f.cells < measure v es (t, x) f.cells
      by_way None None a b h = absurd h
      by_way None (Some l) a b h =
          let less = left_less (taken v (es ++ (t, x) ∷ [])) (taken w (es ++ (t, y) ∷ [])) f.cells more in
          let was : turns_of (way_of x) ≡ 1 = ap turns_of a in
          let now : turns_of (way_of y) ≡ 0 = ap turns_of b in
          omega (arith, less, was, now)
      by_way (Some l) None a b h =
          let way = subst (λ o. IsWayOf p names f v (instance_by p names t) o) a stack.frame.way in
          let cell = known_cell p f w (instance_by p names l.start) then h in
          let other : (e : CodedInstance × Waiter) → Has (es ++ (t, x) ∷ []) e → instance_by p names e.0 ≢ instance_by p names l.start = λ e there is. (let plain = (on_stack p names f v i es (t, x) stack e there).undeclared in let not = ap (equations_of p).circular is in let yes = way.local.is_circular in cc) in
          let falls = falls_by (instance_by p names l.start) way.unknown other h.slot cell (taken w (es ++ (t, y) ∷ [])) more (by_value w (es ++ (t, y) ∷ []) h.slot (known_at p w (instance_by p names l.start) h)) in
          let was : turns_of (way_of x) ≡ 0 = ap turns_of a in
          let now : turns_of (way_of y) ≡ 1 = ap turns_of b in
          omega (arith, falls, was, now)
      by_way (Some l) (Some m) a b h = absurd h

  -- another one is on top
  pub falls_more : (y : Waiter) → y.slot ≡ x.slot → (next : CodedInstance) (z : Waiter) → way_of z ≡ None → ¬ Knows p v (instance_by p names next) → IsPlaced p names f w (next, z) → waits (es ++ (t, y) ∷ []) next ≡ false → measure w (es ++ (t, y) ∷ []) (next, z) f.cells < measure v es (t, x) f.cells
  falls_more y slot next z none unknown placed free =
      let L = es ++ (t, y) ∷ [] in
      let other : (e : CodedInstance × Waiter) → Has (es ++ (t, x) ∷ []) e → instance_by p names e.0 ≢ instance_by p names next = λ e h is. (let one = one_key_by p pooled named e.0 next (on_stack p names f v i es (t, x) stack e h).coded placed.coded is in let yes = waiting_still e h in let no = subst (λ (c : CodedInstance). waits L c ≡ false) (sym one) free in cc) in
      let falls = falls_by (instance_by p names next) unknown other z.slot.0 placed.slot (taken w (L ++ (next, z) ∷ [])) more (by_one w (L ++ (next, z) ∷ []) (next, z) (has_last L (next, z))) in
      let longer = length_snoc es (t, y) in
      let now : turns_of (way_of z) ≡ 1 = ap turns_of none in
      omega (arith, falls, longer, now)
    where
      more : (q : ℕ) → taken v (es ++ (t, x) ∷ []) q ≡ true → taken w ((es ++ (t, y) ∷ []) ++ (next, z) ∷ []) q ≡ true
      more q h = ⊎_elim
          (λ k. by_value w ((es ++ (t, y) ∷ []) ++ (next, z) ∷ []) q k)
          (λ k. subst (λ (r : ℕ). taken w ((es ++ (t, y) ∷ []) ++ (next, z) ∷ []) r ≡ true) k.2 (by_one w ((es ++ (t, y) ∷ []) ++ (next, z) ∷ []) k.0 (has_left (es ++ (t, y) ∷ []) ((next, z) ∷ []) k.0 k.1)))
          (taken_by w (es ++ (t, y) ∷ []) q (taken_on v w es t x y kept slot q h))

      waiting_still : (e : CodedInstance × Waiter) → Has (es ++ (t, x) ∷ []) e → waits (es ++ (t, y) ∷ []) e.0 ≡ true
      waiting_still e h = ⊎_elim
          (λ before. waits_each (es ++ (t, y) ∷ []) e (has_left es ((t, y) ∷ []) e before))
          (λ now. subst (λ (c : CodedInstance). waits (es ++ (t, y) ∷ []) c ≡ true) (ap (λ (d : CodedInstance × Waiter). d.0) (sym now)) (waits_each (es ++ (t, y) ∷ []) (t, y) (has_last es (t, y))))
          (has_snoc es (t, x) e h)

  -- the last one is settled
  module _ (known : Knows p w (instance_by p names t)) where
    settled_there : is_known_at w x.slot.0 ≡ true
    settled_there =
        let cell = known_cell p f w (instance_by p names t) then known in
        let its = cell_later v w kept p f (instance_by p names t) x.slot.0 stack.frame.placed.slot in
        subst (λ (q : ℕ). is_known_at w q ≡ true) (one_cell p f w (instance_by p names t) known.slot x.slot.0 then pooled (open_in p f w same then) cell its) (known_at p w (instance_by p names t) known)

    pub less_back : left (taken w es) f.cells ≤ left (taken v (es ++ (t, x) ∷ [])) f.cells
    less_back = left_less (taken v (es ++ (t, x) ∷ [])) (taken w es) f.cells (pop_keeps v w es (t, x) kept settled_there)

    -- the one that waited for it is on top again
    pub falls_back : (ds : List (CodedInstance × Waiter)) (last : CodedInstance × Waiter) → es ≡ ds ++ last ∷ [] → (y : Waiter) → y.slot ≡ last.1.slot → measure w ds (last.0, y) f.cells < measure v es (t, x) f.cells
    falls_back ds last is y slot =
        let less = less_back in
        let back = left_less (taken w (ds ++ last ∷ [])) (taken w (ds ++ (last.0, y) ∷ [])) f.cells (taken_on w w ds last.0 last.1 y (at_least_itself w) slot) in
        let same_left : left (taken w (ds ++ last ∷ [])) f.cells ≡ left (taken w es) f.cells = ap (λ l. left (taken w l) f.cells) (sym is) in
        let longer = ap length is ∙ length_snoc ds last in
        let now = few (way_of y) in
        omega (arith, less, back, same_left, longer, now)
      where
        few : (o : Option Local) → turns_of o ≤ 1
        few None = omega arith
        few (Some l) = omega arith
