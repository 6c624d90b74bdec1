-- The stack of those that wait, known later, one more on it, and one fewer.
use Rattle.std.proofs.Common.{◌≡◌, ℕ, ⊎_elim, true, false, is_some, List, [], ◌∷◌, ◌++◌, Option, Some, None, refl, sym, ap, subst, ◌∙◌}
use Rattle.equation_law.specs.declared.coding.Instance.{Instance as CodedInstance}
use Rattle.equation_law.specs.Codes.{IsCoded, Naming, instance_by}
use Rattle.equation_law.specs.Names.{Instance}
use Rattle.equation_law.specs.Program.{Program}
use Rattle.memo_cells.specs.declared.keys.Slot.{Slot}
use Rattle.memo_cells.specs.declared.view.Frame.{Frame}
use Rattle.memo_cells.specs.declared.view.View.{View}
use Rattle.memo_cells.specs.Naming.{IsCellOf}
use Rattle.memo_cells.specs.Standing.{Knows}
use Rattle.memo_cells.specs.Views.{Has, IsAtLeast}
use Rattle.memo_cells.specs.Agreeing.{IsKnownInstance}
use Rattle.memo_cells.proofs.Agreeing.{instance_known_later}
use Rattle.memo_cells.proofs.Naming.{cell_later}
use Rattle.circular_eval.specs.declared.local.Local.{Local}
use Rattle.circular_eval.proofs.Later.{local_later}
use Rattle.caller_pass.specs.declared.left.Left.{Left}
use Rattle.caller_pass.specs.declared.waiting.Waiter.{Waiter}
use Rattle.caller_pass.specs.Knowing.{FindsCode}
use Rattle.caller_pass.specs.Leaving.{IsLeft, reads_known}
use Rattle.caller_pass.specs.Waiting.{AreWaiting, IsFrame, IsPlaced, IsStack, IsWay, IsWayOf, LooksAgain, WaitsBy, WayStays, waits, way_of}
use Rattle.caller_pass.proofs.Knowing.{found_knows}
use Rattle.caller_pass.proofs.Leaving.{left_known}
use Rattle.memo_cells.proofs.Bits.{has_left}
use Rattle.caller_pass.proofs.Lines.{has_last, has_snoc}

module _ (p : Program) (names : Naming) (f : Frame) (v w : View) (kept : IsAtLeast v w) where
  pub placed_later : (e : CodedInstance × Waiter) → IsPlaced p names f v e → IsPlaced p names f w e
  placed_later e h = record { instance = h.instance; coded = h.coded; known = instance_known_later p kept.made e.0 h.known; undeclared = h.undeclared; slot = cell_later v w kept p f (instance_by p names e.0) e.1.slot.0 h.slot; left = left_known p v w kept f.system.value e.0 e.1.left h.left }

  pub waits_later : (i : Instance) (way : Option Local) (n : Instance) → WaitsBy p names f v i way n → WaitsBy p names f w i way n
  waits_later i None n h = h
  waits_later i (Some l) n h = (h.0, local_later p names v w kept f l h.1, h.2, h.3)

  pub waiting_later : (es : List (CodedInstance × Waiter)) (n : Instance) → AreWaiting p names f v es n → AreWaiting p names f w es n
  waiting_later [] n h = tt
  waiting_later (e ∷ []) n h = waits_later (instance_by p names e.0) (way_of e.1) n h
  waiting_later (e ∷ d ∷ es) n h = (waits_later (instance_by p names e.0) (way_of e.1) (instance_by p names d.0) h.0, waiting_later (d ∷ es) n h.1)

-- one more waits
pub waiting_more : (p : Program) (names : Naming) (f : Frame) (v : View) (es : List (CodedInstance × Waiter)) (t : CodedInstance × Waiter) (n : Instance) → AreWaiting p names f v es (instance_by p names t.0) → WaitsBy p names f v (instance_by p names t.0) (way_of t.1) n → AreWaiting p names f v (es ++ t ∷ []) n
waiting_more p names f v [] t n h w = w
waiting_more p names f v (e ∷ []) t n h w = (h, w)
waiting_more p names f v (e ∷ d ∷ es) t n h w = (h.0, waiting_more p names f v (d ∷ es) t n h.1 w)

-- without the last one, and how that one waits
pub waiting_front : (p : Program) (names : Naming) (f : Frame) (v : View) (es : List (CodedInstance × Waiter)) (t : CodedInstance × Waiter) (n : Instance) → AreWaiting p names f v (es ++ t ∷ []) n → AreWaiting p names f v es (instance_by p names t.0) × WaitsBy p names f v (instance_by p names t.0) (way_of t.1) n
waiting_front p names f v [] t n h = (tt, h)
waiting_front p names f v (e ∷ []) t n h = (h.0, h.1)
waiting_front p names f v (e ∷ d ∷ es) t n h = let r = waiting_front p names f v (d ∷ es) t n h.1 in ((h.0, r.0), r.1)

-- a list of one more begins as it did
snoc_starts : {A : Type 0} (es : List A) (t first : A) (rest : List A) (u : A) → es ++ t ∷ [] ≡ first ∷ rest → (ds : List A) × ((es ++ t ∷ []) ++ u ∷ [] ≡ first ∷ ds)
snoc_starts es t first rest u e = (rest ++ u ∷ [], ap (λ l. l ++ u ∷ []) e)

front_starts : {A : Type 0} (es : List A) (t first : A) (rest : List A) (u : A) → (es ++ t ∷ []) ++ u ∷ [] ≡ first ∷ rest → (ds : List A) × (es ++ t ∷ [] ≡ first ∷ ds)
front_starts [] t first rest u e = let same : t ≡ first = cc in ([], ap (λ x. x ∷ []) same)
front_starts (x ∷ es) t first rest u e = let same : x ≡ first = cc in (es ++ t ∷ [], ap (λ y. y ∷ es ++ t ∷ []) same)

-- the top of the stack in another state, of the same instance
last_starts : (es : List (CodedInstance × Waiter)) (t : CodedInstance) (x y : Waiter) (first : CodedInstance × Waiter) (rest : List (CodedInstance × Waiter)) → es ++ (t, x) ∷ [] ≡ first ∷ rest → (other : CodedInstance × Waiter) × (ds : List (CodedInstance × Waiter)) × (es ++ (t, y) ∷ [] ≡ other ∷ ds) × (other.0 ≡ first.0)
last_starts [] t x y first rest e = let same : (t, x) ≡ first = cc in ((t, y), [], refl, ap (λ z. z.0) same)
last_starts (z ∷ es) t x y first rest e = let same : z ≡ first = cc in (z, es ++ (t, y) ∷ [], refl, ap (λ z. z.0) same)

module _ (p : Program) (names : Naming) (f : Frame) (v w : View) (kept : IsAtLeast v w) (i : Instance) (es : List (CodedInstance × Waiter)) (t : CodedInstance) (x : Waiter) (stack : IsStack p names f v i es (t, x)) where
  placed_now : (y : Waiter) → y.slot ≡ x.slot → IsLeft f.system.value (reads_known p w) t y.left → IsPlaced p names f w (t, y)
  placed_now y same left =
      let h = placed_later p names f v w kept (t, x) stack.frame.placed in
      record { instance = h.instance; coded = h.coded; known = h.known; undeclared = h.undeclared; slot = subst (λ (s : Slot). IsCellOf p f w (instance_by p names t) s.0) (sym same) h.slot; left = left }

  -- it goes on in another state
  pub stack_on : (y : Waiter) → y.slot ≡ x.slot → IsLeft f.system.value (reads_known p w) t y.left → IsWayOf p names f w (instance_by p names t) (way_of y) → IsStack p names f w i es (t, y)
  stack_on y same left way =
      let begun = last_starts es t x y stack.first stack.rest stack.starts in
      record {
        first = begun.0;
        rest = begun.1;
        starts = begun.2;
        is = ap (instance_by p names) begun.3 ∙ stack.is;
        placed = λ e h. placed_later p names f v w kept e (stack.placed e h);
        waiting = waiting_later p names f v w kept es (instance_by p names t) stack.waiting;
        frame = record { placed = placed_now y same left; way = way };
        other = stack.other;
      }

  -- it waits, and another one is on top
  pub stack_more : (u : View) → IsAtLeast w u → (y : Waiter) → y.slot ≡ x.slot → IsLeft f.system.value (reads_known p w) t y.left → (next : CodedInstance) (z : Waiter) → WaitsBy p names f w (instance_by p names t) (way_of y) (instance_by p names next) → IsFrame p names f u (next, z) → waits (es ++ (t, y) ∷ []) next ≡ false → IsStack p names f u i (es ++ (t, y) ∷ []) (next, z)
  stack_more u later y same left next z w' frame other =
      let begun = last_starts es t x y stack.first stack.rest stack.starts in
      let more = snoc_starts es (t, y) begun.0 begun.1 (next, z) begun.2 in
      record {
        first = begun.0;
        rest = more.0;
        starts = more.1;
        is = ap (instance_by p names) begun.3 ∙ stack.is;
        placed = λ e h. placed_later p names f w u later e (⊎_elim (λ before. placed_later p names f v w kept e (stack.placed e before)) (λ now. subst (λ (d : CodedInstance × Waiter). IsPlaced p names f w d) (sym now) (placed_now y same left)) (has_snoc es (t, y) e h));
        waiting = waiting_later p names f w u later (es ++ (t, y) ∷ []) (instance_by p names next) (waiting_more p names f w es (t, y) (instance_by p names next) (waiting_later p names f v w kept es (instance_by p names t) stack.waiting) w');
        frame = frame;
        other = other;
      }

  -- it is settled, and the one that waited for it is on top again
  pub stack_fewer : (ds : List (CodedInstance × Waiter)) (last : CodedInstance × Waiter) → es ≡ ds ++ last ∷ [] → waits ds last.0 ≡ false → (y : Waiter) (u : View) → IsAtLeast v u → LooksAgain p names u w last.1 y → IsStack p names f w i ds (last.0, y)
  stack_fewer ds last is other y u before looks =
      let starts = ap (λ l. l ++ (t, x) ∷ []) (sym is) ∙ stack.starts in
      let fewer = front_starts ds last stack.first stack.rest (t, x) starts in
      let begun = last_starts ds last.0 last.1 y stack.first fewer.0 fewer.1 in
      let front = waiting_front p names f w ds last (instance_by p names t) (subst (λ l. AreWaiting p names f w l (instance_by p names t)) is (waiting_later p names f v w kept es (instance_by p names t) stack.waiting)) in
      let then = waiting_front p names f u ds last (instance_by p names t) (subst (λ l. AreWaiting p names f u l (instance_by p names t)) is (waiting_later p names f v u before es (instance_by p names t) stack.waiting)) in
      let its = placed_later p names f v w kept last (stack.placed last (subst (λ l. Has l last) (sym is) (has_last ds last))) in
      record {
        first = begun.0;
        rest = begun.1;
        starts = begun.2;
        is = ap (instance_by p names) begun.3 ∙ stack.is;
        placed = λ e h. placed_later p names f v w kept e (stack.placed e (subst (λ l. Has l e) (sym is) (has_left ds (last ∷ []) e h)));
        waiting = front.0;
        frame = record {
          placed = record { instance = its.instance; coded = its.coded; known = its.known; undeclared = its.undeclared; slot = subst (λ (s : Slot). IsCellOf p f w (instance_by p names last.0) s.0) (sym looks.slot) its.slot; left = subst (λ (o : Option Left). IsLeft f.system.value (reads_known p w) last.0 o) (sym looks.left) its.left };
          way = way_on (way_of last.1) (way_of y) looks.way front.1 then.1;
        };
        other = other;
      }
    where
      way_on : (old new : Option Local) → WayStays p names u w old new → WaitsBy p names f w (instance_by p names last.0) old (instance_by p names t) → WaitsBy p names f u (instance_by p names last.0) old (instance_by p names t) → IsWayOf p names f w (instance_by p names last.0) new
      way_on None new stays h hu = subst (λ o. IsWayOf p names f w (instance_by p names last.0) o) (sym stays) tt
      way_on (Some l) None stays h hu = tt
      way_on (Some l) (Some m) stays h hu = subst (λ (n : Local). IsWay p names f w (instance_by p names last.0) n) (sym stays.0) (record { local = h.1; led = h.0; unknown = stays.1 h.1.coded hu.1.known })

-- the first stack
pub stack_one : (p : Program) (names : Naming) (f : Frame) (v : View) (i : CodedInstance) (x : Waiter) → IsPlaced p names f v (i, x) → way_of x ≡ None → IsStack p names f v (instance_by p names i) [] (i, x)
stack_one p names f v i x placed none = record {
  first = (i, x);
  rest = [];
  starts = refl;
  is = refl;
  placed = λ e h. absurd h;
  waiting = tt;
  frame = record { placed = placed; way = subst (λ o. IsWayOf p names f v (instance_by p names i) o) (sym none) tt };
  other = refl;
}

-- a local set whose start is seen sealed isn't waited for any more
pub looked_known : (p : Program) (names : Naming) (f : Frame) (v w u : View) → u ≡ w → (x : Waiter) (l : Local) → way_of x ≡ Some l → (i : CodedInstance) → i ≡ l.start → (r : Option (Slot × ℕ)) → is_some r ≡ true → (IsCoded p i → IsKnownInstance p v.made i → FindsCode p f w (instance_by p names i) r) → LooksAgain p names v u x (record { slot = x.slot; way = None; left = x.left })
looked_known p names f v w u is x l way i start r there finds = record {
  slot = refl;
  left = refl;
  way = subst (λ (o : Option Local). WayStays p names v u o None) (sym way) (λ coded its. subst (λ (a : View). Knows p a (instance_by p names l.start)) (sym is) (subst (λ (j : CodedInstance). IsCoded p j → IsKnownInstance p v.made j → Knows p w (instance_by p names j)) start (λ good its. known r there (finds good its)) coded its));
}
  where
    known : (r : Option (Slot × ℕ)) → is_some r ≡ true → FindsCode p f w (instance_by p names i) r → Knows p w (instance_by p names i)
    known None there h = cc
    known (Some e) there h = found_knows p f w (instance_by p names i) e.0.0 e.1 h

-- without one, or where its start isn't, it stays as it is
pub looked_none : (p : Program) (names : Naming) (v u : View) (x : Waiter) → way_of x ≡ None → LooksAgain p names v u x x
looked_none p names v u x way = record { slot = refl; left = refl; way = subst (λ (o : Option Local). WayStays p names v u o o) (sym way) refl }

pub looked_unknown : (p : Program) (names : Naming) (f : Frame) (v w u : View) → u ≡ w → (x : Waiter) (l : Local) → way_of x ≡ Some l → (i : CodedInstance) → i ≡ l.start → (r : Option (Slot × ℕ)) → is_some r ≡ false → (IsCoded p i → IsKnownInstance p v.made i → FindsCode p f w (instance_by p names i) r) → LooksAgain p names v u x x
looked_unknown p names f v w u is x l way i start r none finds = record {
  slot = refl;
  left = refl;
  way = subst (λ (o : Option Local). WayStays p names v u o o) (sym way)
      (refl, λ coded its. subst (λ (a : View). ¬ Knows p a (instance_by p names l.start)) (sym is) (subst (λ (j : CodedInstance). IsCoded p j → IsKnownInstance p v.made j → ¬ Knows p w (instance_by p names j)) start (λ good its. unknown r none (finds good its)) coded its));
}
  where
    unknown : (r : Option (Slot × ℕ)) → is_some r ≡ false → FindsCode p f w (instance_by p names i) r → ¬ Knows p w (instance_by p names i)
    unknown None none h = h
    unknown (Some e) none h = cc
