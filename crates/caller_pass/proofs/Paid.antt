-- How what pays for evaluations changes from turn to turn.
use Rattle.std.proofs.Common.{◌≡◌, ◌≢◌, ℕ, ◌+◌, ◌*◌, ◌<◌, ◌≤◌, ◌⊎◌, inl, inr, ⊎_elim, true, List, [], ◌∷◌, ◌++◌, length, Option, Some, None, refl, sym, ap, subst, ◌∙◌, arith}
use Rattle.rag_io.specs.Pool.{ArePooled}
use Rattle.solutions.specs.Leading.{none}
use Rattle.equation_law.specs.declared.coding.Instance.{Instance as CodedInstance}
use Rattle.equation_law.specs.Codes.{IsNamingOf, Naming, instance_by}
use Rattle.equation_law.specs.Equations.{equations_of}
use Rattle.equation_law.specs.Loops.{Chain, HasLoop, Leads}
use Rattle.equation_law.specs.Names.{Instance}
use Rattle.equation_law.specs.Program.{Program}
use Rattle.equation_law.specs.Systems.{program_of}
use Rattle.equation_law.proofs.Keys.{one_key_by}
use Rattle.memo_cells.specs.declared.keys.Slot.{Slot}
use Rattle.memo_cells.specs.declared.view.Frame.{Frame}
use Rattle.memo_cells.specs.declared.view.View.{View}
use Rattle.memo_cells.specs.Naming.{IsCellOf}
use Rattle.memo_cells.specs.Standing.{IsPassOf, Knows}
use Rattle.memo_cells.specs.Views.{Has, IsAtLeast}
use Rattle.memo_cells.proofs.Agreeing.{instance_known_later}
use Rattle.memo_cells.proofs.Claiming.{chain_then}
use Rattle.memo_cells.proofs.Naming.{cell_later}
use Rattle.circular_eval.specs.declared.local.Local.{Local}
use Rattle.caller_pass.specs.declared.waiting.Waiter.{Waiter}
use Rattle.caller_pass.specs.Answering.{SameWay, WayChanges, is_known_at, unsettled}
use Rattle.caller_pass.specs.Waiting.{AreWaiting, IsPlaced, IsStack, IsWayOf, LooksAgain, WaitsBy, WayStays, waits, way_of}
use Rattle.caller_pass.proofs.Falling.{left}
use Rattle.caller_pass.proofs.Frames.{waiting_front}
use Rattle.caller_pass.proofs.Knowing.{known_cell, one_cell, open_in}
use Rattle.memo_cells.proofs.Bits.{has_left}
use Rattle.caller_pass.proofs.Lines.{has_last, has_snoc, start_chain, waiting_chain}
use Rattle.caller_pass.proofs.Paying.{AreApart, IsFresh, IsStart, Pays, by_done, done, done_by, empty_of, falls_so, fresh_circular, fresh_frame, has_or_not, left_done, none_some, some_once, sorted, without}
use Rattle.caller_pass.proofs.Places.{known_at_later, settled_known}
use Rattle.caller_pass.proofs.Turning.{length_snoc, on_stack, waits_each}

-- the starts of the local sets that are waited for below the top, where one less pays for an evaluation that wasn't made
record Below (p : Program) (names : Naming) (hs opens : List Instance) (es : List (CodedInstance × Waiter)) (evals after : ℕ) : Type 0 where
  starts : List Instance
  apart : AreApart starts
  among : (s : Instance) → Has starts s → Has opens s
  waited : (s : Instance) → Has starts s → Has hs s ⊎ IsStart p names es s
  enough : after + length opens ≤ evals + 1 + length starts

-- the instance that was asked for reaches the one on top
pub top_reached : (p : Program) (names : Naming) (f : Frame) (v : View) (i : Instance) (es : List (CodedInstance × Waiter)) (top : CodedInstance × Waiter) → IsStack p names f v i es top → Chain p i (instance_by p names top.0)
top_reached p names f v i [] top stack =
    let first : top ≡ stack.first = cc in
    subst (λ (j : Instance). Chain p j (instance_by p names top.0)) (ap (λ (e : CodedInstance × Waiter). instance_by p names e.0) first ∙ stack.is) none
top_reached p names f v i (e ∷ es) top stack =
    let first : e ≡ stack.first = cc in
    subst (λ (j : Instance). Chain p j (instance_by p names top.0)) (ap (λ (d : CodedInstance × Waiter). instance_by p names d.0) first ∙ stack.is) (waiting_chain p names f v e es (instance_by p names top.0) stack.waiting)

-- what the one on top leads to leads back to it
pub loop_at : (p : Program) (names : Naming) (f : Frame) (v : View) (i : Instance) (es : List (CodedInstance × Waiter)) (top : CodedInstance × Waiter) → IsStack p names f v i es top → (c : Instance) → Leads p (instance_by p names top.0) c → Chain p c (instance_by p names top.0) → HasLoop p i
loop_at p names f v i es top stack c led back = record { on = instance_by p names top.0; to = top_reached p names f v i es top stack; undeclared_on = stack.frame.placed.undeclared; then = c; out = led; back = back }

module _ (p : Program) (names : Naming) (named : IsNamingOf p names) (f : Frame) (same : p ≡ program_of f.system.value) (pooled : ArePooled p.texts) (v w : View) (own : IsPassOf f v) (then : IsPassOf f w) (kept : IsAtLeast v w) (i : Instance) (hs : List Instance) (outer : (h : Instance) → Has hs h → Chain p h i) (es : List (CodedInstance × Waiter)) (t : CodedInstance) (x : Waiter) (stack : IsStack p names f v i es (t, x)) (evals budget : ℕ) (pays : Pays p names v f.cells hs es (t, x) evals budget) where
  -- what counted as done does so still, where the cells of those that wait now are cells of those that waited
  done_still : (after : List (CodedInstance × Waiter)) → ((e : CodedInstance × Waiter) → Has after e → (q : ℕ) → e.1.slot.0 ≡ q → is_known_at v q ≡ true → (d : CodedInstance × Waiter) × Has (es ++ (t, x) ∷ []) d × (d.1.slot.0 ≡ q)) → (q : ℕ) → done v (es ++ (t, x) ∷ []) q ≡ true → done w after q ≡ true
  done_still after before q h =
      let r = done_by v (es ++ (t, x) ∷ []) q h in
      by_done w after q (known_at_later v w q kept r.0) (λ e there is. let d = before e there q is r.0 in r.1 d.0 d.1 d.2)

  -- the one on top goes on in another state
  module _ (y : Waiter) (slot : y.slot ≡ x.slot) (next : IsStack p names f w i es (t, y)) where
    still : (q : ℕ) → done v (es ++ (t, x) ∷ []) q ≡ true → done w (es ++ (t, y) ∷ []) q ≡ true
    still = done_still (es ++ (t, y) ∷ []) (λ e h q is _. ⊎_elim
        (λ before. (e, has_left es ((t, x) ∷ []) e before, is))
        (λ now. ((t, x), has_last es (t, x), sym (ap (λ (s : Slot). s.0) slot) ∙ sym (ap (λ (d : CodedInstance × Waiter). d.1.slot.0) now) ∙ is))
        (has_snoc es (t, y) e h))

    placed_on : (e : CodedInstance × Waiter) → Has (es ++ (t, y) ∷ []) e → IsPlaced p names f w e
    placed_on = on_stack p names f w i es (t, y) next

    -- those that were waited for by others are so still
    start_on : (s : Instance) → IsStart p names (es ++ (t, x) ∷ []) s → ((l : Local) → way_of x ≡ Some l → instance_by p names l.start ≡ s → Has hs s ⊎ IsStart p names (es ++ (t, y) ∷ []) s) → Has hs s ⊎ IsStart p names (es ++ (t, y) ∷ []) s
    start_on s at top = ⊎_elim
        (λ before. inr (record { entry = at.entry; there = has_left es ((t, y) ∷ []) at.entry before; local = at.local; way = at.way; is = at.is }))
        (λ now. top at.local (ap (λ (d : CodedInstance × Waiter). (way_of d.1)) (sym now) ∙ at.way) at.is)
        (has_snoc es (t, x) at.entry at.there)

    -- there is a local set now that is waited for
    pub pays_start : way_of x ≡ None → (l : Local) → way_of y ≡ Some l → IsWayOf p names f w (instance_by p names t) (Some l) → HasLoop p i ⊎ Pays p names w f.cells hs es (t, y) (evals + 1) budget
    pays_start way_none l some way =
        let c = instance_by p names l.start in
        let r = sorted p f w pays.open_starts same then pays.apart in
        let fewer = falls_so p names f same v w own then kept (es ++ (t, x) ∷ []) (es ++ (t, y) ∷ []) placed_on r.known (λ s h. (r.knows s h).0) r.known_apart still
        (λ s h. fresh_circular p names f same v w own then kept (es ++ (t, x) ∷ []) (es ++ (t, y) ∷ []) placed_on s (r.knows s h).0 (pays.unknown s (r.knows s h).1) (pays.are_circular s (r.knows s h).1)) in
        let many = r.many in
        let paid = pays.paid in
        ⊎_elim
        (λ again. inl (loop_at p names f v i es (t, x) stack c way.led (⊎_elim
        (λ out. chain_then p (outer c out) (top_reached p names f v i es (t, x) stack))
        (λ at. ⊎_elim
        (λ before. subst (λ (s : Instance). Chain p s (instance_by p names t)) at.is (start_chain p names f v es (instance_by p names t) stack.waiting at.entry before at.local at.way))
        (λ now. absurd (none_some way_none (ap (λ (d : CodedInstance × Waiter). (way_of d.1)) (sym now) ∙ at.way)))
        (has_snoc es (t, x) at.entry at.there))
        (pays.starts c (r.unknown c again).1))))
        (λ new. inr (record {
          open_starts = c ∷ r.others;
          apart = (new, r.others_apart);
          unknown = λ s h. ⊎_elim (λ is. subst (λ (j : Instance). ¬ Knows p w j) (sym is) way.unknown) (λ later. (r.unknown s later).0) h;
          are_circular = λ s h. ⊎_elim (λ is. subst (λ (j : Instance). (equations_of p).circular j ≡ true) (sym is) way.local.is_circular) (λ later. pays.are_circular s (r.unknown s later).1) h;
          starts = λ s h. ⊎_elim
              (λ is. inr (record { entry = (t, y); there = has_last es (t, y); local = l; way = some; is = sym is }))
              (λ later. ⊎_elim inl (λ at. start_on s at (λ m is _. absurd (none_some way_none is))) (pays.starts s (r.unknown s later).1))
              h;
          paid = omega (arith, fewer, many, paid);
        }))
        (has_or_not r.others c)

    -- the start of the local set that was waited for is seen sealed
    pub pays_closed : (l : Local) → way_of x ≡ Some l → Knows p w (instance_by p names l.start) → Pays p names w f.cells hs es (t, y) (evals + 1) budget
    pays_closed l some known =
        let c = instance_by p names l.start in
        let way = subst (λ o. IsWayOf p names f v (instance_by p names t) o) some stack.frame.way in
        let q = without pays.open_starts c pays.apart in
        let r = sorted p f w q.others same then q.apart in
        let fewer = falls_so p names f same v w own then kept (es ++ (t, x) ∷ []) (es ++ (t, y) ∷ []) placed_on (c ∷ r.known)
        (λ s h. ⊎_elim (λ is. subst (λ (j : Instance). Knows p w j) (sym is) known) (λ later. (r.knows s later).0) h)
        ((λ h. (q.among c (r.knows c h).1).1 refl), r.known_apart)
        still
        (λ s h. fresh_circular p names f same v w own then kept (es ++ (t, x) ∷ []) (es ++ (t, y) ∷ []) placed_on s (⊎_elim (λ is. subst (λ (j : Instance). Knows p w j) (sym is) known) (λ later. (r.knows s later).0) h)
        (⊎_elim (λ is. subst (λ (j : Instance). ¬ Knows p v j) (sym is) way.unknown) (λ later. pays.unknown s (q.among s (r.knows s later).1).0) h)
        (⊎_elim (λ is. subst (λ (j : Instance). (equations_of p).circular j ≡ true) (sym is) way.local.is_circular) (λ later. pays.are_circular s (q.among s (r.knows s later).1).0) h)) in
        let many = r.many in
        let most = q.most in
        let paid = pays.paid in
        record {
          open_starts = r.others;
          apart = r.others_apart;
          unknown = λ s h. (r.unknown s h).0;
          are_circular = λ s h. pays.are_circular s (q.among s (r.unknown s h).1).0;
          starts = λ s h. ⊎_elim inl (λ at. start_on s at (λ m is start. absurd ((q.among s (r.unknown s h).1).1 (sym start ∙ ap (λ (k : Local). instance_by p names k.start) (some_once is some))))) (pays.starts s (q.among s (r.unknown s h).1).0);
          paid = omega (arith, fewer, many, most, paid);
        }

    pub pays_further : WayChanges p names f w (instance_by p names t) (way_of x) (way_of y) → HasLoop p i ⊎ Pays p names w f.cells hs es (t, y) (evals + 1) budget
    pays_further changes = by_way (way_of x) (way_of y) refl refl changes
      where
        by_way : (old new : Option Local) → way_of x ≡ old → way_of y ≡ new → WayChanges p names f w (instance_by p names t) old new → HasLoop p i ⊎ Pays p names w f.cells hs es (t, y) (evals + 1) budget
        by_way None None a b h = absurd h
        by_way None (Some l) a b h = pays_start a l b h
        by_way (Some l) None a b h = inr (pays_closed l a h)
        by_way (Some l) (Some m) a b h = absurd h

  -- another one is on top
  pub pays_more : (y : Waiter) → y.slot ≡ x.slot → SameWay (way_of x) (way_of y) → (n : CodedInstance) (z : Waiter) → ¬ Knows p v (instance_by p names n) → IsStack p names f w i (es ++ (t, y) ∷ []) (n, z) → Pays p names w f.cells hs (es ++ (t, y) ∷ []) (n, z) (evals + 1) budget
  pays_more y slot ways n z unknown next =
      let L = es ++ (t, y) ∷ [] in
      let placed = on_stack p names f w i L (n, z) next in
      let r = sorted p f w pays.open_starts same then pays.apart in
      let fewer = falls_so p names f same v w own then kept (es ++ (t, x) ∷ []) (L ++ (n, z) ∷ []) placed r.known (λ s h. (r.knows s h).0) r.known_apart still_more
      (λ s h. fresh_circular p names f same v w own then kept (es ++ (t, x) ∷ []) (L ++ (n, z) ∷ []) placed s (r.knows s h).0 (pays.unknown s (r.knows s h).1) (pays.are_circular s (r.knows s h).1)) in
      let many = r.many in
      let paid = pays.paid in
      let longer = length_snoc es (t, y) in
      record {
        open_starts = r.others;
        apart = r.others_apart;
        unknown = λ s h. (r.unknown s h).0;
        are_circular = λ s h. pays.are_circular s (r.unknown s h).1;
        starts = λ s h. ⊎_elim inl (λ at. inr (start_more s at)) (pays.starts s (r.unknown s h).1);
        paid = omega (arith, fewer, many, paid, longer);
      }
    where
      still_more : (q : ℕ) → done v (es ++ (t, x) ∷ []) q ≡ true → done w ((es ++ (t, y) ∷ []) ++ (n, z) ∷ []) q ≡ true
      still_more = done_still ((es ++ (t, y) ∷ []) ++ (n, z) ∷ []) (λ e h q is value. ⊎_elim
          (λ front. ⊎_elim
          (λ before. (e, has_left es ((t, x) ∷ []) e before, is))
          (λ now. ((t, x), has_last es (t, x), sym (ap (λ (s : Slot). s.0) slot) ∙ sym (ap (λ (d : CodedInstance × Waiter). d.1.slot.0) now) ∙ is))
          (has_snoc es (t, y) e front))
          (λ now. absurd (unknown (settled_known p f v same own w (instance_by p names n) z.slot.0 then kept next.frame.placed.slot (subst (λ (a : ℕ). is_known_at v a ≡ true) (sym is ∙ ap (λ (d : CodedInstance × Waiter). d.1.slot.0) now) value))))
          (has_snoc (es ++ (t, y) ∷ []) (n, z) e h))

      way_on : (s : Instance) (old new : Option Local) → way_of y ≡ new → SameWay old new → (l : Local) → old ≡ Some l → instance_by p names l.start ≡ s → IsStart p names ((es ++ (t, y) ∷ []) ++ (n, z) ∷ []) s
      way_on s None new b h l some is = absurd (none_some refl some)
      way_on s (Some k) None b h l some is = absurd h
      way_on s (Some k) (Some m) b h l some is = record { entry = (t, y); there = has_left (es ++ (t, y) ∷ []) ((n, z) ∷ []) (t, y) (has_last es (t, y)); local = m; way = b; is = ap (instance_by p names) h ∙ ap (λ (o : Local). instance_by p names o.start) (some_once refl some) ∙ is }

      start_more : (s : Instance) → IsStart p names (es ++ (t, x) ∷ []) s → IsStart p names ((es ++ (t, y) ∷ []) ++ (n, z) ∷ []) s
      start_more s at = ⊎_elim
          (λ before. record { entry = at.entry; there = has_left (es ++ (t, y) ∷ []) ((n, z) ∷ []) at.entry (has_left es ((t, y) ∷ []) at.entry before); local = at.local; way = at.way; is = at.is })
          (λ now. way_on s (way_of x) (way_of y) refl ways at.local (ap (λ (d : CodedInstance × Waiter). (way_of d.1)) (sym now) ∙ at.way) at.is)
          (has_snoc es (t, x) at.entry at.there)

  -- the last one is settled: it was evaluated where it waits for no local set, or it was found so
  module _ (known : Knows p w (instance_by p names t)) (count : ℕ) (cheap : (count ≡ evals) ⊎ ((count ≡ evals + 1) × (way_of x ≡ None))) where
    its_cell : x.slot.0 ≡ known.slot
    its_cell = one_cell p f w (instance_by p names t) x.slot.0 known.slot then pooled (open_in p f w same then) (cell_later v w kept p f (instance_by p names t) x.slot.0 stack.frame.placed.slot) (known_cell p f w (instance_by p names t) then known)

    -- no other one that waits is the same instance
    not_it : (d : CodedInstance × Waiter) → Has es d → instance_by p names d.0 ≢ instance_by p names t
    not_it d h is =
        let one = one_key_by p pooled named d.0 t (stack.placed d h).coded stack.frame.placed.coded is in
        let yes = subst (λ (c : CodedInstance). waits es c ≡ true) one (waits_each es d h) in
        let no = stack.other in
        cc

    -- those below it
    below : Below p names hs pays.open_starts es evals count
    below = ⊎_elim (λ no_more. by_way (way_of x) refl no_more) (λ more. all_below more.1 (let one_more = more.0 in omega (arith, one_more))) cheap
      where
        at_below : (s : Instance) → IsStart p names (es ++ (t, x) ∷ []) s → ((l : Local) → way_of x ≡ Some l → instance_by p names l.start ≡ s → ⊥) → IsStart p names es s
        at_below s at not_top = ⊎_elim
            (λ before. record { entry = at.entry; there = before; local = at.local; way = at.way; is = at.is })
            (λ now. absurd (not_top at.local (ap (λ (d : CodedInstance × Waiter). (way_of d.1)) (sym now) ∙ at.way) at.is))
            (has_snoc es (t, x) at.entry at.there)

        all_below : way_of x ≡ None → count ≤ evals + 1 → Below p names hs pays.open_starts es evals count
        all_below way_none few = record {
          starts = pays.open_starts;
          apart = pays.apart;
          among = λ s h. h;
          waited = λ s h. ⊎_elim inl (λ at. inr (at_below s at (λ l some _. none_some way_none some))) (pays.starts s h);
          enough = omega (arith, few);
        }

        by_way : (o : Option Local) → way_of x ≡ o → count ≡ evals → Below p names hs pays.open_starts es evals count
        by_way None is no_more = all_below is (omega (arith, no_more))
        by_way (Some l) is no_more =
            let q = without pays.open_starts (instance_by p names l.start) pays.apart in
            let most = q.most in
            record {
              starts = q.others;
              apart = q.apart;
              among = λ s h. (q.among s h).0;
              waited = λ s h. ⊎_elim inl (λ at. inr (at_below s at (λ m some start. (q.among s h).1 (sym start ∙ ap (λ (k : Local). instance_by p names k.start) (some_once some is))))) (pays.starts s (q.among s h).0);
              enough = omega (arith, most, no_more);
            }

    -- the cells of the last one and of those that came to be known
    fewer_back : (after : List (CodedInstance × Waiter)) (placed : (e : CodedInstance × Waiter) → Has after e → IsPlaced p names f w e) → ((q : ℕ) → done v (es ++ (t, x) ∷ []) q ≡ true → done w after q ≡ true) → ((d : CodedInstance × Waiter) → Has after d → instance_by p names d.0 ≢ instance_by p names t) → (ks : List Instance) (knows : (s : Instance) → Has ks s → Knows p w s × Has pays.open_starts s) → AreApart ks → left (done w after) f.cells + length ks + 1 ≤ left (done v (es ++ (t, x) ∷ [])) f.cells
    fewer_back after placed more other ks knows apart =
        let less = falls_so p names f same v w own then kept (es ++ (t, x) ∷ []) after placed (instance_by p names t ∷ ks) its ((λ h. not_open h), apart) more (λ s h. each s (its s h) h) in
        omega (arith, less)
      where
        its : (s : Instance) → Has (instance_by p names t ∷ ks) s → Knows p w s
        its s h = ⊎_elim (λ is. subst (λ (j : Instance). Knows p w j) (sym is) known) (λ later. (knows s later).0) h

        not_open : Has ks (instance_by p names t) → ⊥
        not_open h = let plain = stack.frame.placed.undeclared in let not_plain = pays.are_circular (instance_by p names t) (knows (instance_by p names t) h).1 in cc

        each : (s : Instance) (k : Knows p w s) → Has (instance_by p names t ∷ ks) s → IsFresh p names f same v w own then kept (es ++ (t, x) ∷ []) after placed s k
        each s k h = ⊎_elim
            (λ is. fresh_frame p names f same v w own then kept (es ++ (t, x) ∷ []) after placed s k (t, x) (has_last es (t, x))
            (one_cell p f w s x.slot.0 k.slot then pooled (open_in p f w same then) (subst (λ (j : Instance). IsCellOf p f w j x.slot.0) (sym is) (cell_later v w kept p f (instance_by p names t) x.slot.0 stack.frame.placed.slot)) (known_cell p f w s then k))
            (λ d there same_one. other d there (same_one ∙ is)))
            (λ later. fresh_circular p names f same v w own then kept (es ++ (t, x) ∷ []) after placed s k (pays.unknown s (knows s later).1) (pays.are_circular s (knows s later).1))
            h

    -- the one that waited for it is on top again
    pub pays_back : (ds : List (CodedInstance × Waiter)) (last : CodedInstance × Waiter) → es ≡ ds ++ last ∷ [] → (y : Waiter) (u : View) → IsAtLeast v u → LooksAgain p names u w last.1 y → IsStack p names f w i ds (last.0, y) → Pays p names w f.cells hs ds (last.0, y) count budget
    pays_back ds last is y u before looks next =
        let placed = on_stack p names f w i ds (last.0, y) next in
        let r = sorted p f w below.starts same then below.apart in
        let fewer = fewer_back (ds ++ (last.0, y) ∷ []) placed still_back others_back r.known (λ s h. ((r.knows s h).0, below.among s (r.knows s h).1)) r.known_apart in
        let many = r.many in
        let paid = pays.paid in
        let enough = below.enough in
        let longer = ap length is ∙ length_snoc ds last in
        record {
          open_starts = r.others;
          apart = r.others_apart;
          unknown = λ s h. (r.unknown s h).0;
          are_circular = λ s h. pays.are_circular s (below.among s (r.unknown s h).1);
          starts = λ s h. ⊎_elim inl (λ at. inr (start_back s at (r.unknown s h).0)) (below.waited s (r.unknown s h).1);
          paid = omega (arith, fewer, many, paid, enough, longer);
        }
      where
        -- those that wait now waited before
        was : (e : CodedInstance × Waiter) → Has (ds ++ (last.0, y) ∷ []) e → (d : CodedInstance × Waiter) × Has es d × (d.1.slot.0 ≡ e.1.slot.0) × (d.0 ≡ e.0)
        was e h = ⊎_elim
            (λ before. (e, subst (λ l. Has l e) (sym is) (has_left ds (last ∷ []) e before), refl, refl))
            (λ now. (last, subst (λ l. Has l last) (sym is) (has_last ds last), sym (ap (λ (s : Slot). s.0) looks.slot) ∙ sym (ap (λ (d : CodedInstance × Waiter). d.1.slot.0) now), sym (ap (λ (d : CodedInstance × Waiter). d.0) now)))
            (has_snoc ds (last.0, y) e h)

        still_back : (q : ℕ) → done v (es ++ (t, x) ∷ []) q ≡ true → done w (ds ++ (last.0, y) ∷ []) q ≡ true
        still_back = done_still (ds ++ (last.0, y) ∷ []) (λ e h q at _. (let d = was e h in (d.0, has_left es ((t, x) ∷ []) d.0 d.1, d.2 ∙ at)))

        others_back : (d : CodedInstance × Waiter) → Has (ds ++ (last.0, y) ∷ []) d → instance_by p names d.0 ≢ instance_by p names t
        others_back d h at = let b = was d h in not_it b.0 b.1 (ap (instance_by p names) b.3 ∙ at)

        way_back : (s : Instance) (old new : Option Local) → way_of last.1 ≡ old → way_of y ≡ new → WayStays p names u w old new → (l : Local) → old ≡ Some l → instance_by p names l.start ≡ s → ¬ Knows p w s → IsStart p names (ds ++ (last.0, y) ∷ []) s
        way_back s None new a b h l some at unknown = absurd (none_some refl some)
        way_back s (Some k) None a b h l some at unknown =
            let start : instance_by p names k.start ≡ s = ap (λ (o : Local). instance_by p names o.start) (some_once refl some) ∙ at in
            let front = waiting_front p names f v ds last (instance_by p names t) (subst (λ l. AreWaiting p names f v l (instance_by p names t)) is stack.waiting) in
            let waited = subst (λ (o : Option Local). WaitsBy p names f v (instance_by p names last.0) o (instance_by p names t)) a front.1 in
            absurd (unknown (subst (λ (j : Instance). Knows p w j) start (h waited.1.coded (instance_known_later p before.made k.start waited.1.known))))
        way_back s (Some k) (Some m) a b h l some at unknown = record { entry = (last.0, y); there = has_last ds (last.0, y); local = m; way = b; is = ap (λ (o : Local). instance_by p names o.start) (h.0 ∙ some_once refl some) ∙ at }

        start_back : (s : Instance) → IsStart p names es s → ¬ Knows p w s → IsStart p names (ds ++ (last.0, y) ∷ []) s
        start_back s at unknown = ⊎_elim
            (λ front. record { entry = at.entry; there = has_left ds ((last.0, y) ∷ []) at.entry front; local = at.local; way = at.way; is = at.is })
            (λ it. way_back s (way_of last.1) (way_of y) refl refl looks.way at.local (ap (λ (d : CodedInstance × Waiter). (way_of d.1)) (sym it) ∙ at.way) at.is unknown)
            (has_snoc ds last at.entry (subst (λ l. Has l at.entry) is at.there))

    -- what the whole took
    pub pays_all : es ≡ [] → ((h : Instance) → Has hs h → Knows p w h) → count + 2 * unsettled w f.cells + length hs < budget
    pays_all empty all_known =
        let r = sorted p f w below.starts same then below.apart in
        let fewer = fewer_back [] (λ e h. absurd h) (λ q h. still_none q h) (λ d h. absurd h) r.known (λ s h. ((r.knows s h).0, below.among s (r.knows s h).1)) r.known_apart in
        let none_left = empty_of r.others (λ s h. not_open s (r.unknown s h).0 (r.unknown s h).1) in
        let many = r.many in
        let paid = pays.paid in
        let enough = below.enough in
        let all = left_done w f.cells in
        let short = ap length empty in
        omega (arith, fewer, none_left, many, paid, enough, all, short)
      where
        still_none : (q : ℕ) → done v (es ++ (t, x) ∷ []) q ≡ true → done w [] q ≡ true
        still_none = done_still [] (λ e h q at _. absurd h)

        not_open : (s : Instance) → (¬ Knows p w s) → Has below.starts s → ⊥
        not_open s unknown h = ⊎_elim (λ out. unknown (all_known s out)) (λ at. subst (λ l. Has l at.entry) empty at.there) (below.waited s h)

-- before the first turn
pub pays_first : (p : Program) (names : Naming) (f : Frame) → p ≡ program_of f.system.value → (v w : View) → IsPassOf f v → IsPassOf f w → IsAtLeast v w → (i : CodedInstance) (x : Waiter) → ¬ Knows p v (instance_by p names i) → IsCellOf p f w (instance_by p names i) x.slot.0 → way_of x ≡ None → IsPlaced p names f w (i, x) → (hs : List Instance) → AreApart hs → ((h : Instance) → Has hs h → ¬ Knows p v h) → ((h : Instance) → Has hs h → (equations_of p).circular h ≡ true) → (evals : ℕ) → Pays p names w f.cells hs [] (i, x) evals (evals + 2 * unsettled v f.cells)
pays_first p names f same v w own then kept i x unknown cell way placed hs apart outside circular evals =
    let r = sorted p f w hs same then apart in
    let fewer = falls_so p names f same v w own then kept [] ((i, x) ∷ []) its r.known (λ s h. (r.knows s h).0) r.known_apart still
    (λ s h. fresh_circular p names f same v w own then kept [] ((i, x) ∷ []) its s (r.knows s h).0 (outside s (r.knows s h).1) (circular s (r.knows s h).1)) in
    let many = r.many in
    let all = left_done v f.cells in
    record {
      open_starts = r.others;
      apart = r.others_apart;
      unknown = λ s h. (r.unknown s h).0;
      are_circular = λ s h. circular s (r.unknown s h).1;
      starts = λ s h. inl (r.unknown s h).1;
      paid = omega (arith, fewer, many, all);
    }
  where
    its : (e : CodedInstance × Waiter) → Has ((i, x) ∷ []) e → IsPlaced p names f w e
    its e h = ⊎_elim (λ is. subst (λ (d : CodedInstance × Waiter). IsPlaced p names f w d) (sym is) placed) absurd h

    still : (q : ℕ) → done v [] q ≡ true → done w ((i, x) ∷ []) q ≡ true
    still q h =
        let r = done_by v [] q h in
        by_done w ((i, x) ∷ []) q (known_at_later v w q kept r.0) (λ e there at. ⊎_elim
        (λ is. unknown (settled_known p f v same own w (instance_by p names i) x.slot.0 then kept cell (subst (λ (a : ℕ). is_known_at v a ≡ true) (sym at ∙ ap (λ (d : CodedInstance × Waiter). d.1.slot.0) is) r.0)))
        absurd
        there)
