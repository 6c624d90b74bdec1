-- Solving on demand: what holds before each turn, and what each turn comes to.
use Rattle.std.proofs.Common.{◌≡◌, ℕ, ◌+◌, ◌*◌, ◌<◌, ◌⊎◌, inl, inr, ⊎_elim, true, false, List, [], ◌∷◌, ◌++◌, length, map, Option, Some, None, Result, Ok, Err, refl, sym, ap, subst, ◌∙◌, arith}
use Rattle.std.specs.Result.{IsErr, IsErrAnd}
use Rattle.rag_io.specs.Pool.{ArePooled}
use Rattle.solutions.specs.Leading.{none}
use Rattle.equation_law.specs.declared.coding.Instance.{Instance as CodedInstance}
use Rattle.equation_law.specs.Checked.{IsInstance}
use Rattle.equation_law.specs.Codes.{IsCoded, IsNamingOf, Naming, instance_by}
use Rattle.equation_law.specs.Equations.{equations_of}
use Rattle.equation_law.specs.Loops.{Chain, HasLoop}
use Rattle.equation_law.specs.Names.{Instance}
use Rattle.equation_law.specs.Program.{Program}
use Rattle.equation_law.specs.Systems.{program_of}
use Rattle.equation_law.proofs.Solution.{loopless}
use Rattle.memo_cells.specs.declared.view.Frame.{Frame}
use Rattle.memo_cells.specs.declared.view.View.{View}
use Rattle.memo_cells.specs.Agreeing.{ByEachAgreeing, IsKnownInstance}
use Rattle.memo_cells.specs.Causes.{IsLogOn}
use Rattle.memo_cells.specs.Claiming.{ClaimsKeys}
use Rattle.memo_cells.specs.Naming.{ClaimsKeysTo, IsCellOf}
use Rattle.memo_cells.specs.Standing.{IsPassOf, Knows}
use Rattle.memo_cells.specs.Views.{Has, IsAtLeast}
use Rattle.memo_cells.specs.Working.{Held, program_at}
use Rattle.memo_cells.proofs.Agreeing.{instance_known_later}
use Rattle.memo_cells.proofs.Causes.{found_before, found_later, log_itself, log_then}
use Rattle.memo_cells.proofs.Claiming.{chain_then, claims_same, claims_then, claims_to, fills_more, fills_to}
use Rattle.memo_cells.proofs.More.{at_least_itself, at_least_then}
use Rattle.memo_cells.proofs.Naming.{cell_later, knows_later}
use Rattle.circular_eval.specs.declared.local.Local.{Local}
use Rattle.caller_pass.specs.declared.faults.AskFault.{AskFault}
use Rattle.caller_pass.specs.declared.faults.AskFault.TheVariants.{CellsFull, Circular, Memory}
use Rattle.caller_pass.specs.declared.solving.Went.{Went}
use Rattle.caller_pass.specs.declared.solving.Went.TheVariants.{Settled}
use Rattle.caller_pass.specs.declared.waiting.Waiter.{Waiter}
use Rattle.caller_pass.specs.Answering.{AnswersStep, EndsAtLoop, Evaluates, FindsSettled, IsNext, LeavesOne, SameWay, Solves, StopsAt, TakesTurn, WasUnsettled, WayChanges, unsettled}
use Rattle.caller_pass.specs.Leaving.{IsLeft, reads_known}
use Rattle.caller_pass.specs.Waiting.{AnswersWait, AreWaiting, IsLineTo, IsPlaced, IsStack, IsWayOf, LooksAgain, waits, way_of}
use Rattle.caller_pass.proofs.Falling.{measure, unsettled_falls}
use Rattle.caller_pass.proofs.Frames.{stack_fewer, stack_more, stack_on, stack_one, waiting_later, waiting_more}
use Rattle.caller_pass.proofs.Leaving.{none_left}
use Rattle.caller_pass.proofs.Knowing.{has_value}
use Rattle.caller_pass.proofs.Lines.{met_loop, waits_chain}
use Rattle.caller_pass.proofs.Paid.{pays_all, pays_back, pays_first, pays_further, pays_more, top_reached}
use Rattle.caller_pass.proofs.Paying.{AreApart, Pays}
use Rattle.caller_pass.proofs.Turning.{falls_back, falls_further, falls_more, length_snoc}

-- what was unsettled between two times was so between others around them
pub was_within : (p : Program) (f : Frame) (a b c d : View) (i : Instance) → IsAtLeast a b → IsLogOn a b → IsAtLeast c d → IsLogOn c d → WasUnsettled p f b c i → WasUnsettled p f a d i
was_within p f a b c d i before prior after since h = record {
  unknown = λ k. h.unknown (knows_later a b before p i k);
  slot = h.slot;
  cell = cell_later c d after p f i h.slot h.cell;
  why = record { word = h.why.word; unset = h.why.unset; found = found_later (found_before prior h.why.found) since };
}

-- different circular instances that lead to i; neither they nor i are known
pub record IsOuter (p : Program) (v : View) (i : Instance) (hs : List Instance) : Type 0 where
  pub inner : ¬ Knows p v i
  pub apart : AreApart hs
  pub unknown : (h : Instance) → Has hs h → ¬ Knows p v h
  pub are_circular : (h : Instance) → Has hs h → (equations_of p).circular h ≡ true
  pub leads : (h : Instance) → Has hs h → Chain p h i

-- The instances of the stack wait for its top, whose turn it is; `v` is what was known at first, and `w` what is known. Nothing was evaluated before
-- i was loaded and wasn't settled. The evaluations are paid, unless i has a loop.
pub record IsSolving (p : Program) (names : Naming) (f : Frame) (v w : View) (i : Instance) (es : List (CodedInstance × Waiter)) (top : CodedInstance × Waiter) (before now : ℕ) : Type 0 where
  pub own : IsPassOf f w
  pub kept : IsAtLeast v w
  pub log : IsLogOn v w
  pub stack : IsStack p names f w i es top
  pub claims : ClaimsKeys p i v w
  pub loads : ((now ≡ before) × (es ≡ [])) ⊎ WasUnsettled p f v w i
  pub paid : (hs : List Instance) → IsOuter p v i hs → HasLoop p i ⊎ Pays p names w f.cells hs es top now (before + 2 * unsettled v f.cells)

-- a turn of t with an evaluation, by the cells of which it was
pub record WentThrough (p : Program) (names : Naming) (f : Frame) (w u : View) (t : CodedInstance) (x y : Waiter) (before after : ℕ) (r : Result Went AskFault) : Type 0 where
  pub own : IsPassOf f u
  pub kept : IsAtLeast w u
  pub log : IsLogOn w u
  pub was : WasUnsettled p f w u (instance_by p names t)
  pub claims : ClaimsKeys p (instance_by p names t) w u
  pub slot : y.slot ≡ x.slot
  pub left : IsLeft f.system.value (reads_known p u) t y.left
  pub answer : AnswersStep p names f u (instance_by p names t) (way_of x) (way_of y) r
  pub evals : after ≡ before + 1

pub through : (d e : Held) (f : Frame) (t : CodedInstance) (x y : Waiter) (before after : ℕ) (r : Result Went AskFault) → d.frame ≡ f → Evaluates (program_at d) d e t x y before after r → ByEachAgreeing (program_of f.system.value) e.view.made (λ names. WentThrough (program_of f.system.value) names f d.view e.view t x y before after r)
through d e f t x y before after r is h names named =
    let g = subst (λ (g : Frame). Evaluates (program_of g.system.value) (record { frame = g; view = d.view; lender = d.lender }) e t x y before after r) is h in
    record {
      own = subst (λ (c : Frame). IsPassOf c e.view) g.through.on.cells g.through.on.own;
      kept = g.through.on.kept;
      log = g.through.on.log;
      was = g.was names named;
      claims = g.through.claims names named;
      slot = g.through.slot;
      left = g.through.left;
      answer = g.through.answer names named;
      evals = g.through.evals;
    }

-- a turn of t that ended with its cell settled: it was found so, or t was evaluated, which waits for no local set
pub record CameSettled (p : Program) (names : Naming) (f : Frame) (w u : View) (t : CodedInstance) (x : Waiter) (before after : ℕ) : Type 0 where
  pub own : IsPassOf f u
  pub kept : IsAtLeast w u
  pub log : IsLogOn w u
  pub claims : ClaimsKeys p (instance_by p names t) w u
  pub known : Knows p u (instance_by p names t)
  pub evals : (after ≡ before) ⊎ ((after ≡ before + 1) × (way_of x ≡ None) × WasUnsettled p f w u (instance_by p names t))

pub came_settled : (d e : Held) (f : Frame) (t : CodedInstance) (x y : Waiter) (before after : ℕ) (r : Result Went AskFault) → d.frame ≡ f → r ≡ Ok Settled → TakesTurn (program_at d) d e t x y before after r → ByEachAgreeing (program_of f.system.value) e.view.made (λ names. CameSettled (program_of f.system.value) names f d.view e.view t x before after)
came_settled d e f t x y before after r is went turn names named =
    let p = program_of f.system.value in
    ⊎_elim
    (λ h.
    let g = subst (λ (g : Frame). FindsSettled (record { frame = g; view = d.view; lender = d.lender }) e t before after r) is h in
    record {
      own = subst (λ (c : Frame). IsPassOf c e.view) g.read.on.cells g.read.on.own;
      kept = g.read.on.kept;
      log = g.read.on.log;
      claims = claims_same p (instance_by p names t) d.view e.view g.read.claims;
      known = subst (λ (c : Frame). ByEachAgreeing (program_of c.system.value) e.view.made (λ n. Knows (program_of c.system.value) e.view (instance_by (program_of c.system.value) n t))) g.read.on.cells g.known names named;
      evals = inl g.evals;
    })
    (λ h.
    let g = through d e f t x y before after r is h names named in
    let settled = subst (λ (z : Result Went AskFault). AnswersStep p names f e.view (instance_by p names t) (way_of x) (way_of y) z) went g.answer in
    record { own = g.own; kept = g.kept; log = g.log; claims = g.claims; known = settled.0; evals = inr (g.evals, settled.1, g.was) })
    turn

-- where none waits, the one on top is the one that was asked for
only_one : (p : Program) (names : Naming) (f : Frame) (v : View) (i : Instance) (es : List (CodedInstance × Waiter)) (t : CodedInstance) (x : Waiter) → IsStack p names f v i es (t, x) → es ≡ [] → instance_by p names t ≡ i
only_one p names f v i es t x stack empty =
    let starts : (t, x) ∷ [] ≡ stack.first ∷ stack.rest = ap (λ l. l ++ (t, x) ∷ []) (sym empty) ∙ stack.starts in
    let first : (t, x) ≡ stack.first = cc in
    ap (λ (e : CodedInstance × Waiter). instance_by p names e.0) first ∙ stack.is

-- a fault that is handed on
pub solve_fault : (p : Program) (names : Naming) (f : Frame) (v w : View) (i : Instance) (before after : ℕ) (e : AskFault) (r : Result Unit AskFault) → IsErr r × IsErrAnd r (λ x. x ≡ e) → ClaimsKeys p i v w → (after ≡ before) ⊎ WasUnsettled p f v w i → StopsAt p names f w i e → Solves p names f v w i before after r
solve_fault p names f v w i before after e (Ok x) h claims loads a = let none = h.0 in cc
solve_fault p names f v w i before after e (Err d) h claims loads a = record { answer = subst (λ (y : AskFault). StopsAt p names f w i y) (sym h.1) a; claims = claims; loads = loads; cost = λ ok. cc }

-- the line to what stands in it already, or is known to have a loop
waited_loop : (p : Program) (names : Naming) (f g : Frame) (v u : View) (i : Instance) (es : List (CodedInstance × Waiter)) (t : CodedInstance) (x y : Waiter) (on : CodedInstance) (line : List Instance) → IsStack p names f v i es (t, x) → AreWaiting p names g u (es ++ (t, y) ∷ []) (instance_by p names on) → ((g : Frame) (u : View) → AreWaiting p names g u (es ++ (t, y) ∷ []) (instance_by p names on) → IsLineTo p names (es ++ (t, y) ∷ []) (instance_by p names on) line) → (waits (es ++ (t, y) ∷ []) on ≡ true) ⊎ HasLoop p (instance_by p names on) → (equations_of p).circular (instance_by p names on) ≡ false → EndsAtLoop p i (instance_by p names on) line
waited_loop p names f g v u i [] t x y on line stack waiting lines why plain =
    let first : (t, x) ≡ stack.first = cc in
    subst (λ (j : Instance). EndsAtLoop p j (instance_by p names on) line) (ap (λ (e : CodedInstance × Waiter). instance_by p names e.0) first ∙ stack.is) (met_loop p names (t, y) [] on line (lines g u waiting) why plain)
waited_loop p names f g v u i (e ∷ es) t x y on line stack waiting lines why plain =
    let first : e ≡ stack.first = cc in
    subst (λ (j : Instance). EndsAtLoop p j (instance_by p names on) line) (ap (λ (d : CodedInstance × Waiter). instance_by p names d.0) first ∙ stack.is) (met_loop p names e (es ++ (t, y) ∷ []) on line (lines g u waiting) why plain)

-- before the first turn
pub begun : (p : Program) (names : Naming) (f : Frame) (v w : View) → p ≡ program_of f.system.value → IsPassOf f v → IsPassOf f w → IsAtLeast v w → IsLogOn v w → (i : CodedInstance) (x : Waiter) → IsInstance p (instance_by p names i) → IsCoded p i → IsKnownInstance p w.made i → (equations_of p).circular (instance_by p names i) ≡ false → IsCellOf p f w (instance_by p names i) x.slot.0 → way_of x ≡ None → x.left ≡ None → ClaimsKeysTo p v w (instance_by p names i) → (evals : ℕ) → IsSolving p names f v w (instance_by p names i) [] (i, x) evals evals
begun p names f v w same own then kept log i x instance coded known plain cell way fresh claims evals =
    let placed : IsPlaced p names f w (i, x) = record { instance = instance; coded = coded; known = known; undeclared = plain; slot = cell; left = none_left _ _ _ x.left fresh } in
    record {
      own = then;
      kept = kept;
      log = log;
      stack = stack_one p names f w i x placed way;
      claims = claims_to p (instance_by p names i) v w claims;
      loads = inl (refl, refl);
      paid = λ hs out. inr (pays_first p names f same v w own then kept i x out.inner cell way placed hs out.apart out.unknown out.are_circular evals);
    }

module _ {p : Program} {names : Naming} {f : Frame} {v w : View} {i : Instance} {es : List (CodedInstance × Waiter)} {t : CodedInstance} {x : Waiter} {before now : ℕ} (s : IsSolving p names f v w i es (t, x) before now) where
  reached : Chain p i (instance_by p names t)
  reached = top_reached p names f w i es (t, x) s.stack

  -- what was asked for was loaded with this turn, or before it
  was_asked : (u : View) → IsAtLeast w u → IsLogOn w u → WasUnsettled p f w u (instance_by p names t) → WasUnsettled p f v u i
  was_asked u kept log was = ⊎_elim
      (λ first. subst (λ (j : Instance). WasUnsettled p f v u j) (only_one p names f w i es t x s.stack first.1) (was_within p f v w u u (instance_by p names t) s.kept s.log (at_least_itself u) (log_itself u) was))
      (λ before. was_within p f v v w u i (at_least_itself v) (log_itself v) kept log before)
      s.loads

module _ {p : Program} {names : Naming} (named : IsNamingOf p names) {f : Frame} {v w u : View} {i : Instance} {es : List (CodedInstance × Waiter)} {t : CodedInstance} {x y : Waiter} {before now after : ℕ} {r : Result Went AskFault} (same : p ≡ program_of f.system.value) (pooled : ArePooled p.texts) (s : IsSolving p names f v w i es (t, x) before now) (g : WentThrough p names f w u t x y now after r) where
  pub claims_now : ClaimsKeys p i v u
  claims_now = claims_then p i (instance_by p names t) v w u (reached s) s.claims g.kept g.claims

  pub kept_now : IsAtLeast v u
  kept_now = at_least_then s.kept g.kept

  pub was_now : WasUnsettled p f v u i
  was_now = was_asked s u g.kept g.log g.was

  -- a fault
  pub step_fault : (e : AskFault) → AnswersStep p names f u (instance_by p names t) (way_of x) (way_of y) (Err e) → StopsAt p names f u i e
  step_fault (Circular on chain) a = absurd a
  step_fault CellsFull a = fills_more p i (instance_by p names t) f u (reached s) a
  step_fault Memory a = tt

  -- it waits for a local set now, or doesn't any more
  module _ (changes : WayChanges p names f u (instance_by p names t) (way_of x) (way_of y)) where
    way_then : (old new : Option Local) → WayChanges p names f u (instance_by p names t) old new → IsWayOf p names f u (instance_by p names t) new
    way_then None None h = absurd h
    way_then None (Some l) h = h
    way_then (Some l) None h = tt
    way_then (Some l) (Some m) h = absurd h

    stack_further : IsStack p names f u i es (t, y)
    stack_further = stack_on p names f w u g.kept i es t x s.stack y g.slot g.left (way_then (way_of x) (way_of y) changes)

    pub went_further : IsSolving p names f v u i es (t, y) before after
    went_further = record {
      own = g.own;
      kept = kept_now;
      log = log_then s.log g.log;
      stack = stack_further;
      claims = claims_now;
      loads = inr was_now;
      paid = λ hs out. ⊎_elim inl (λ pays. subst (λ (n : ℕ). HasLoop p i ⊎ Pays p names u f.cells hs es (t, y) n (before + 2 * unsettled v f.cells)) (sym g.evals) (pays_further p names named f same pooled w u s.own g.own g.kept i hs out.leads es t x s.stack now (before + 2 * unsettled v f.cells) pays y g.slot stack_further changes)) (s.paid hs out);
    }

    pub fell_further : measure u es (t, y) f.cells < measure w es (t, x) f.cells
    fell_further = falls_further p names named f same pooled w u s.own g.own g.kept i es t x s.stack y g.slot changes

  -- it waits for another one
  module _ (n : CodedInstance) (next : IsNext p names f u (instance_by p names t) (way_of y) n) (ways : SameWay (way_of x) (way_of y)) where
    pub waiting_now : AreWaiting p names f u (es ++ (t, y) ∷ []) (instance_by p names n)
    waiting_now = waiting_more p names f u es (t, y) (instance_by p names n) (waiting_later p names f w u g.kept es (instance_by p names t) s.stack.waiting) next.waits

    next_reached : Chain p i (instance_by p names n)
    next_reached = chain_then p (reached s) (waits_chain p names f u (instance_by p names t) (way_of y) (instance_by p names n) next.waits)

    module _ {o : View} (own : IsPassOf f o) (later : IsAtLeast u o) (log : IsLogOn u o) (claims : ClaimsKeysTo p u o (instance_by p names n)) where
      pub claims_more : ClaimsKeys p i v o
      claims_more = claims_then p i (instance_by p names n) v u o next_reached claims_now later (claims_to p (instance_by p names n) u o claims)

      pub was_more : WasUnsettled p f v o i
      was_more = was_within p f v v u o i (at_least_itself v) (log_itself v) later log was_now

      -- a fault
      pub wait_fault : (new : List (CodedInstance × Waiter)) (e : AskFault) → AnswersWait p names f o (es ++ (t, y) ∷ []) n new (Err e) → StopsAt p names f o i e
      wait_fault new (Circular on chain) a =
          let loop = waited_loop p names f f w u i es t x y n (map (instance_by p names) chain) s.stack waiting_now (a.2 names) a.1 next.undeclared in
          subst (λ (c : CodedInstance). EndsAtLoop p i (instance_by p names c) (map (instance_by p names) chain)) (sym a.0) loop
      wait_fault new CellsFull a = fills_more p i (instance_by p names n) f o next_reached (fills_to p (instance_by p names n) f o a)
      wait_fault new Memory a = tt

      -- the next one is on top
      module _ (z : Waiter) (cell : IsCellOf p f o (instance_by p names n) z.slot.0) (way : way_of z ≡ None) (free : waits (es ++ (t, y) ∷ []) n ≡ false) (fresh : z.left ≡ None) where
        placed : IsPlaced p names f o (n, z)
        placed = record { instance = next.instance; coded = next.coded; known = instance_known_later p later.made n next.known; undeclared = next.undeclared; slot = cell; left = none_left _ _ _ z.left fresh }

        unknown : ¬ Knows p w (instance_by p names n)
        unknown k = next.unknown (knows_later w u g.kept p (instance_by p names n) k)

        stack_next : IsStack p names f o i (es ++ (t, y) ∷ []) (n, z)
        stack_next = stack_more p names f w u g.kept i es t x s.stack o later y g.slot g.left n z next.waits (record { placed = placed; way = subst (λ (q : Option Local). IsWayOf p names f o (instance_by p names n) q) (sym way) tt }) free

        went_next : IsSolving p names f v o i (es ++ (t, y) ∷ []) (n, z) before after
        went_next = record {
          own = own;
          kept = at_least_then kept_now later;
          log = log_then (log_then s.log g.log) log;
          stack = stack_next;
          claims = claims_more;
          loads = inr was_more;
          paid = λ hs out. ⊎_elim inl (λ pays. inr (subst (λ (m : ℕ). Pays p names o f.cells hs (es ++ (t, y) ∷ []) (n, z) m (before + 2 * unsettled v f.cells)) (sym g.evals) (pays_more p names named f same pooled w o s.own own (at_least_then g.kept later) i hs out.leads es t x s.stack now (before + 2 * unsettled v f.cells) pays y g.slot ways n z unknown stack_next))) (s.paid hs out);
        }

        fell_next : measure o (es ++ (t, y) ∷ []) (n, z) f.cells < measure w es (t, x) f.cells
        fell_next = falls_more p names named f same pooled w o s.own own (at_least_then g.kept later) i es t x s.stack y g.slot n z way unknown placed free

        pub went_more : (new : List (CodedInstance × Waiter)) → new ≡ es ++ (t, y) ∷ [] → IsSolving p names f v o i new (n, z) before after
        went_more new is = subst (λ l. IsSolving p names f v o i l (n, z) before after) (sym is) went_next

        pub fell_more : (new : List (CodedInstance × Waiter)) → new ≡ es ++ (t, y) ∷ [] → measure o new (n, z) f.cells < measure w es (t, x) f.cells
        fell_more new is = subst (λ l. measure o l (n, z) f.cells < measure w es (t, x) f.cells) (sym is) fell_next

-- the one on top is settled
module _ {p : Program} {names : Naming} (named : IsNamingOf p names) {f : Frame} {v w u : View} {i : Instance} {es : List (CodedInstance × Waiter)} {t : CodedInstance} {x : Waiter} {before now after : ℕ} (same : p ≡ program_of f.system.value) (pooled : ArePooled p.texts) (s : IsSolving p names f v w i es (t, x) before now) (g : CameSettled p names f w u t x now after) where
  all_claims : ClaimsKeys p i v u
  all_claims = claims_then p i (instance_by p names t) v w u (reached s) s.claims g.kept g.claims

  all_kept : IsAtLeast v u
  all_kept = at_least_then s.kept g.kept

  all_loads : (after ≡ before) ⊎ WasUnsettled p f v u i
  all_loads = ⊎_elim
      (λ none_more. ⊎_elim (λ first. inl (none_more ∙ first.0)) (λ was. inr (was_within p f v v w u i (at_least_itself v) (log_itself v) g.kept g.log was)) s.loads)
      (λ more. inr (was_asked s u g.kept g.log more.2))
      g.evals

  cheap : (after ≡ now) ⊎ ((after ≡ now + 1) × (way_of x ≡ None))
  cheap = ⊎_elim inl (λ more. inr (more.0, more.1)) g.evals

  -- the one that waited for it is on top again
  module _ {o : View} (own : IsPassOf f o) (later : IsAtLeast u o) (log : IsLogOn u o) (quiet : o.claims ≡ u.claims) (ds : List (CodedInstance × Waiter)) (last : CodedInstance × Waiter) (is : es ≡ ds ++ last ∷ []) (free : waits ds last.0 ≡ false) (z : Waiter) (looks : LooksAgain p names u o last.1 z) where
    then_kept : IsAtLeast w o
    then_kept = at_least_then g.kept later

    its_known : Knows p o (instance_by p names t)
    its_known = knows_later u o later p (instance_by p names t) g.known

    stack_back : IsStack p names f o i ds (last.0, z)
    stack_back = stack_fewer p names f w o then_kept i es t x s.stack ds last is free z u g.kept looks

    -- one waits, so what was asked for was loaded before
    was_back : WasUnsettled p f v o i
    was_back = ⊎_elim
        (λ first. let none : length es ≡ 0 = ap length first.1 in let some = ap length is ∙ length_snoc ds last in absurd (omega (arith, none, some)))
        (λ was. was_within p f v v w o i (at_least_itself v) (log_itself v) then_kept (log_then g.log log) was)
        s.loads

    pub went_back : IsSolving p names f v o i ds (last.0, z) before after
    went_back = record {
      own = own;
      kept = at_least_then all_kept later;
      log = log_then (log_then s.log g.log) log;
      stack = stack_back;
      claims = claims_then p i i v u o none all_claims later (claims_same p i u o quiet);
      loads = inr was_back;
      paid = λ hs out. ⊎_elim inl (λ pays. inr (pays_back p names named f same pooled w o s.own own then_kept i hs out.leads es t x s.stack now (before + 2 * unsettled v f.cells) pays its_known after cheap ds last is z u g.kept looks stack_back)) (s.paid hs out);
    }

    pub fell_back : measure o ds (last.0, z) f.cells < measure w es (t, x) f.cells
    fell_back = falls_back p names named f same pooled w o s.own own then_kept i es t x s.stack its_known ds last is z looks.slot

  -- it is the one that was asked for
  module _ (empty : es ≡ []) where
    all_known : Knows p u i
    all_known = subst (λ (j : Instance). Knows p u j) (only_one p names f w i es t x s.stack empty) g.known

    -- so it has no loop
    total : (hs : List Instance) → IsOuter p v i hs → ((h : Instance) → Has hs h → Knows p u h) → after + 2 * unsettled u f.cells + length hs < before + 2 * unsettled v f.cells
    total hs out outer_known = ⊎_elim
        (λ loop. (let value = has_value p f u same g.own i all_known in absurd (loopless p i value.0 value.1 loop)))
        (λ pays. pays_all p names named f same pooled w u s.own g.own g.kept i hs out.leads es t x s.stack now (before + 2 * unsettled v f.cells) pays g.known after cheap empty outer_known)
        (s.paid hs out)

    few : WasUnsettled p f v u i → after + 2 * unsettled u f.cells < before + 2 * unsettled v f.cells
    few was =
        let cost = total [] (record { inner = was.unknown; apart = tt; unknown = λ h there. absurd there; are_circular = λ h there. absurd there; leads = λ h there. absurd there }) (λ h there. absurd there) in
        omega (arith, cost)

    pub solved_all : (done : Unit {0}) → Solves p names f v u i before after (Ok done)
    solved_all done = record { answer = all_known; claims = all_claims; loads = all_loads; cost = λ ok. ⊎_elim inl (λ was. inr (few was)) all_loads }

    pub leaves_one : IsPassOf f v → LeavesOne p f v u i before after
    leaves_one own h leads its unknown later = ⊎_elim
        (λ none_more. let falls = unsettled_falls p f same v u own g.own all_kept h unknown later in omega (arith, none_more, falls))
        (λ was.
        let one : IsOuter p v i (h ∷ []) = record {
          inner = was.unknown;
          apart = ((λ no. no), tt);
          unknown = λ j there. ⊎_elim (λ at. subst (λ (k : Instance). ¬ Knows p v k) (sym at) unknown) absurd there;
          are_circular = λ j there. ⊎_elim (λ at. subst (λ (k : Instance). (equations_of p).circular k ≡ true) (sym at) its) absurd there;
          leads = λ j there. ⊎_elim (λ at. subst (λ (k : Instance). Chain p k i) (sym at) leads) absurd there;
        } in
        let cost = total (h ∷ []) one (λ j there. ⊎_elim (λ at. subst (λ (k : Instance). Knows p u k) (sym at) later) absurd there) in
        omega (arith, cost)
        )
        all_loads
