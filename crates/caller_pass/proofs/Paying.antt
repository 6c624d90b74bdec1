-- What pays for evaluations: two for each cell that comes to be seen settled. An instance that waits took one of them, and so did the start of
-- each local set that is waited for; where two of those began alike, there is a loop.
use Rattle.std.proofs.Common.{◌≡◌, ◌≢◌, ℕ, zero, suc, ◌+◌, ◌*◌, ◌≤◌, ◌⊎◌, inl, inr, ⊎_elim, Bool, true, false, not, ◌&&◌, ◌||◌, eqb, if◌then◌else◌, List, [], ◌∷◌, ◌++◌, length, Option, Some, None, refl, sym, ap, subst, ◌∙◌, arith}
use Rattle.std.specs.List.{list_any}
use Rattle.std.proofs.lemmas.Bool.{eq-eqb, eqb-true, or_left, or_right}
use Rattle.equation_law.specs.declared.coding.Instance.{Instance as CodedInstance}
use Rattle.equation_law.specs.Codes.{Naming, instance_by}
use Rattle.equation_law.specs.Equations.{equations_of}
use Rattle.equation_law.specs.Names.{Instance, same_instance}
use Rattle.equation_law.specs.Program.{Program}
use Rattle.equation_law.specs.Systems.{program_of}
use Rattle.equation_law.proofs.Keys.{both_ways}
use Rattle.equation_law.proofs.Names.{same_instance_is, same_instance_self}
use Rattle.memo_cells.specs.declared.view.Frame.{Frame}
use Rattle.memo_cells.specs.declared.view.View.{View}
use Rattle.memo_cells.specs.Naming.{StandsFor}
use Rattle.memo_cells.specs.Standing.{IsPassOf, Knows}
use Rattle.memo_cells.specs.Views.{Has, IsAtLeast}
use Rattle.memo_cells.proofs.Counting.{any_has, has_any}
use Rattle.memo_cells.proofs.Deciding.{knows_or_not}
use Rattle.memo_cells.proofs.Agreeing.{IsOpen}
use Rattle.memo_cells.proofs.Naming.{stands_once}
use Rattle.circular_eval.specs.declared.local.Local.{Local}
use Rattle.caller_pass.specs.declared.waiting.Waiter.{Waiter}
use Rattle.caller_pass.specs.Answering.{is_known_at, unsettled}
use Rattle.caller_pass.specs.Waiting.{IsPlaced, way_of}
use Rattle.caller_pass.proofs.Falling.{left, left_falls, left_less}
use Rattle.caller_pass.proofs.Knowing.{known_cell, open_in}
use Rattle.caller_pass.proofs.Places.{both_of, known_at, of_both, one_of, settled_known}

-- the cell is seen settled, and no instance waits at it
abbrev pub done : View → List (CodedInstance × Waiter) → ℕ → Bool
done v es q = is_known_at v q && not (list_any (λ e. eqb e.1.slot.0 q) es)

-- no two of them are one
abbrev pub AreApart : List Instance → Type 0
AreApart [] = Unit {0}
AreApart (x ∷ xs) = (Has xs x → ⊥) × AreApart xs

not_true : (a : Bool) → not a ≡ true → a ≡ true → ⊥
not_true true h g = cc
not_true false h g = cc

true_not : (a : Bool) → (a ≡ true → ⊥) → not a ≡ true
true_not true h = absurd (h refl)
true_not false h = refl

pub by_done : (v : View) (es : List (CodedInstance × Waiter)) (q : ℕ) → is_known_at v q ≡ true → ((e : CodedInstance × Waiter) → Has es e → e.1.slot.0 ≢ q) → done v es q ≡ true
by_done v es q h other = of_both (is_known_at v q) (not (list_any (λ e. eqb e.1.slot.0 q) es))
    h
    (true_not (list_any (λ e. eqb e.1.slot.0 q) es) (λ some. let r = has_any (λ x. eqb x.1.slot.0 q) es some in other r.0 r.1 (eqb-true r.0.1.slot.0 q r.2)))

pub done_by : (v : View) (es : List (CodedInstance × Waiter)) (q : ℕ) → done v es q ≡ true → (is_known_at v q ≡ true) × ((e : CodedInstance × Waiter) → Has es e → e.1.slot.0 ≢ q)
done_by v es q h =
    let parts = both_of (is_known_at v q) (not (list_any (λ e. eqb e.1.slot.0 q) es)) h in (
      parts.0,
      (λ e there is. not_true (list_any (λ x. eqb x.1.slot.0 q) es) parts.1 (any_has (λ x. eqb x.1.slot.0 q) es e there (eq-eqb e.1.slot.0 q is))),
    )

pub not_done : (v : View) (es : List (CodedInstance × Waiter)) (q : ℕ) → (done v es q ≡ true → ⊥) → done v es q ≡ false
not_done v es q none = both_ways (done v es q) false (λ h. absurd (none h)) (λ h. cc)

-- where nobody waits, these are the cells that are seen settled
pub left_done : (v : View) (n : ℕ) → left (done v []) n ≡ unsettled v n
left_done v zero = refl
left_done v (suc n) =
    let rest = left_done v n in
    ap (λ (b : Bool). (if b then 0 else 1) + left (done v []) n) (and_true (is_known_at v n)) ∙ ap (λ (x : ℕ). (if is_known_at v n then 0 else 1) + x) rest
  where
    and_true : (b : Bool) → (b && true) ≡ b
    and_true true = refl
    and_true false = refl

-- whether an instance is among others
pub has_or_not : (xs : List Instance) (i : Instance) → Has xs i ⊎ (¬ Has xs i)
has_or_not [] i = inr (λ h. h)
has_or_not (x ∷ xs) i =
    elim (same_instance i x) as (λ b. same_instance i x ≡ b → Has (x ∷ xs) i ⊎ (¬ Has (x ∷ xs) i)) [
      | true ↦ λ e. inl (inl (same_instance_is i x e))
      | false ↦ λ e. ⊎_elim (λ h. inl (inr h)) (λ missing. inr (λ h. ⊎_elim (λ is. (let yes_same = subst (λ (j : Instance). same_instance i j ≡ true) is (same_instance_self i) in cc)) missing h)) (has_or_not xs i)
    ] refl

-- without one of them
pub record Without (xs : List Instance) (i : Instance) : Type 0 where
  pub others : List Instance
  pub among : (s : Instance) → Has others s → Has xs s × (s ≢ i)
  pub apart : AreApart others
  pub most : length xs ≤ length others + 1

pub without : (xs : List Instance) (i : Instance) → AreApart xs → Without xs i
without [] i apart = record { others = []; among = λ s h. absurd h; apart = tt; most = omega arith }
without (x ∷ xs) i apart =
    elim (same_instance x i) as (λ b. same_instance x i ≡ b → Without (x ∷ xs) i) [
      | true ↦ λ e. record { others = xs; among = λ s h. (inr h, λ is. apart.0 (subst (λ (j : Instance). Has xs j) (is ∙ sym (same_instance_is x i e)) h)); apart = apart.1; most = omega arith }
      | false ↦ λ e.
          let rest = without xs i apart.1 in
          let most = rest.most in
          record {
            others = x ∷ rest.others;
            among = λ s h. ⊎_elim (λ is. (inl is, λ it. (let yes = subst (λ (j : Instance). same_instance x j ≡ true) (sym is ∙ it) (same_instance_self x) in cc))) (λ later. (inr (rest.among s later).0, (rest.among s later).1)) h;
            apart = ((λ h. apart.0 (rest.among x h).0), rest.apart);
            most = omega (arith, most);
          }
    ] refl

-- those of some instances that are known, and the others
pub record Sorted (p : Program) (v : View) (xs : List Instance) : Type 0 where
  pub known : List Instance
  pub others : List Instance
  pub knows : (s : Instance) → Has known s → Knows p v s × Has xs s
  pub unknown : (s : Instance) → Has others s → (¬ Knows p v s) × Has xs s
  pub known_apart : AreApart known
  pub others_apart : AreApart others
  pub many : length xs ≤ length known + length others

pub sorted : (p : Program) (f : Frame) (v : View) (xs : List Instance) → p ≡ program_of f.system.value → IsPassOf f v → AreApart xs → Sorted p v xs
sorted p f v [] same own apart = record { known = []; others = []; knows = λ s h. absurd h; unknown = λ s h. absurd h; known_apart = tt; others_apart = tt; many = omega arith }
sorted p f v (x ∷ xs) same own apart =
    let r = sorted p f v xs same own apart.1 in
    let many = r.many in
    ⊎_elim
    (λ k. record {
      known = x ∷ r.known;
      others = r.others;
      knows = λ s h. ⊎_elim (λ is. (subst (λ (j : Instance). Knows p v j) (sym is) k, inl is)) (λ later. ((r.knows s later).0, inr (r.knows s later).1)) h;
      unknown = λ s h. ((r.unknown s h).0, inr (r.unknown s h).1);
      known_apart = ((λ h. apart.0 (r.knows x h).1), r.known_apart);
      others_apart = r.others_apart;
      many = omega (arith, many);
    })
    (λ none. record {
      known = r.known;
      others = x ∷ r.others;
      knows = λ s h. ((r.knows s h).0, inr (r.knows s h).1);
      unknown = λ s h. ⊎_elim (λ is. ((λ k. none (subst (λ (j : Instance). Knows p v j) is k)), inl is)) (λ later. ((r.unknown s later).0, inr (r.unknown s later).1)) h;
      known_apart = r.known_apart;
      others_apart = ((λ h. apart.0 (r.unknown x h).1), r.others_apart);
      many = omega (arith, many);
    })
    (knows_or_not p f v same own x)

-- one more cell counts as done
unfoldable with_one : (ℕ → Bool) → ℕ → ℕ → Bool
with_one f s q = f q || eqb q s

with_more : (f : ℕ → Bool) (s q : ℕ) → f q ≡ true → with_one f s q ≡ true
unfolding with_one
with_more f s q h = or_left (f q) (eqb q s) h

with_it : (f : ℕ → Bool) (s : ℕ) → with_one f s s ≡ true
unfolding with_one
with_it f s = or_right (f s) (eqb s s) (eq-eqb s s refl)

with_by : (f : ℕ → Bool) (s q : ℕ) → with_one f s q ≡ true → (f q ≡ true) ⊎ (q ≡ s)
unfolding with_one
with_by f s q h = ⊎_elim inl (λ e. inr (eqb-true q s e)) (one_of (f q) (eqb q s) h)

-- so many different instances came to be known, whose cells count as done then
module _ (p : Program) (f : Frame) (w : View) (own : IsPassOf f w) (by : IsOpen p w.made) (g : ℕ → Bool) where
  same_slot : (i j : Instance) (a : Knows p w i) (b : Knows p w j) → a.slot ≡ b.slot → i ≡ j
  same_slot i j a b e =
      let first = own.valued a.slot a.key a.code a.settled in
      let second = own.valued b.slot b.key b.code b.settled in
      let key : a.key ≡ b.key = own.one_key b.slot a.key b.key (subst (λ (s : ℕ). Has w.keys (s, a.key)) e first) second in
      stands_once w own.one_key p by b.key i j (subst (λ (k : ℕ). StandsFor p w k i) key a.stands) b.stands

  pub so_many : (ks : List Instance) (knows : (s : Instance) → Has ks s → Knows p w s) → AreApart ks → (h : ℕ → Bool) → ((q : ℕ) → h q ≡ true → g q ≡ true) → ((s : Instance) (there : Has ks s) → (h (knows s there).slot ≡ true → ⊥) × (g (knows s there).slot ≡ true)) → left g f.cells + length ks ≤ left h f.cells
  so_many [] knows apart h more new = let less = left_less h g f.cells more in omega (arith, less)
  so_many (x ∷ xs) knows apart h more new =
      let k = knows x (inl refl) in
      let here = new x (inl refl) in
      let within = (known_cell p f w x own k).1.0 in
      let rest = so_many xs (λ s t. knows s (inr t)) apart.1 (with_one h k.slot)
      (λ q t. ⊎_elim (more q) (λ e. subst (λ (r : ℕ). g r ≡ true) (sym e) here.1) (with_by h k.slot q t))
      (λ s t. ((λ yes. ⊎_elim (new s (inr t)).0 (λ e. apart.0 (subst (λ (j : Instance). Has xs j) (same_slot s x (knows s (inr t)) k e) t)) (with_by h k.slot (knows s (inr t)).slot yes)), (new s (inr t)).1)) in
      let falls = left_falls h (with_one h k.slot) f.cells k.slot (with_more h k.slot) within (both_ways (h k.slot) false (λ yes. absurd (here.0 yes)) (λ no. cc)) (with_it h k.slot) in
      omega (arith, rest, falls)

-- a local set with this start is waited for by one of these
pub record IsStart (p : Program) (names : Naming) (fs : List (CodedInstance × Waiter)) (s : Instance) : Type 0 where
  pub entry : CodedInstance × Waiter
  pub there : Has fs entry
  pub local : Local
  pub way : way_of entry.1 ≡ Some local
  pub is : instance_by p names local.start ≡ s

-- So many evaluations are paid: by two for each cell that is done, one for each instance that waits, and one for each of some different starts of
-- local sets that aren't seen sealed. `hs` are starts from outside, each of which pays one less.
pub record Pays (p : Program) (names : Naming) (w : View) (cells : ℕ) (hs : List Instance) (es : List (CodedInstance × Waiter)) (top : CodedInstance × Waiter) (evals budget : ℕ) : Type 0 where
  pub open_starts : List Instance
  pub apart : AreApart open_starts
  pub unknown : (s : Instance) → Has open_starts s → ¬ Knows p w s
  pub are_circular : (s : Instance) → Has open_starts s → (equations_of p).circular s ≡ true
  pub starts : (s : Instance) → Has open_starts s → Has hs s ⊎ IsStart p names (es ++ top ∷ []) s
  pub paid : evals + 2 * left (done w (es ++ top ∷ [])) cells + length hs ≤ budget + length es + length open_starts

pub none_some : {X : Type 0} {o : Option X} {x : X} → o ≡ None → o ≡ Some x → ⊥
none_some a b = let both = sym a ∙ b in cc

pub some_once : {X : Type 0} {o : Option X} {x y : X} → o ≡ Some x → o ≡ Some y → x ≡ y
some_once a b = let both = sym a ∙ b in cc

pub empty_of : {X : Type 0} (xs : List X) → ((x : X) → Has xs x → ⊥) → length xs ≡ 0
empty_of [] none = refl
empty_of (x ∷ xs) none = absurd (none x (inl refl))

module _ (p : Program) (names : Naming) (f : Frame) (same : p ≡ program_of f.system.value) (v w : View) (own : IsPassOf f v) (own_now : IsPassOf f w) (kept : IsAtLeast v w) where
  -- an instance that waits has another cell than another one that is known
  frame_apart : (e : CodedInstance × Waiter) → IsPlaced p names f w e → (s : Instance) (k : Knows p w s) → instance_by p names e.0 ≢ s → e.1.slot.0 ≢ k.slot
  frame_apart e placed s k other is =
      let first = subst (λ (q : ℕ). Has w.keys (q, placed.slot.0)) is placed.slot.1.1 in
      let key : placed.slot.0 ≡ k.key = own_now.one_key k.slot placed.slot.0 k.key first (own_now.valued k.slot k.key k.code k.settled) in
      other (stands_once w own_now.one_key p (open_in p f w same own_now) k.key (instance_by p names e.0) s (subst (λ (j : ℕ). StandsFor p w j (instance_by p names e.0)) key placed.slot.2) k.stands)

  -- those that wait before and after, and what comes to be known
  module _ (before after : List (CodedInstance × Waiter)) (placed : (e : CodedInstance × Waiter) → Has after e → IsPlaced p names f w e) where
    unfoldable pub IsFresh : (s : Instance) → Knows p w s → Type 0
    IsFresh s k = (done v before k.slot ≡ true → ⊥) × (done w after k.slot ≡ true)

    -- its cell counts as done from now on
    pub fresh_circular : (s : Instance) (k : Knows p w s) → (Knows p v s → ⊥) → (equations_of p).circular s ≡ true → IsFresh s k
    unfolding IsFresh
    fresh_circular s k new its = (
      (λ h. new (settled_known p f v same own w s k.slot own_now kept (known_cell p f w s own_now k) (done_by v before k.slot h).0)),
      by_done w after k.slot (known_at p w s k) (λ e h. frame_apart e (placed e h) s k (λ is. (let plain = (placed e h).undeclared in let not_plain = ap (equations_of p).circular is in let it = its in cc))),
    )

    -- one that waited, and waits no more
    pub fresh_frame : (s : Instance) (k : Knows p w s) (e : CodedInstance × Waiter) → Has before e → e.1.slot.0 ≡ k.slot → ((d : CodedInstance × Waiter) → Has after d → instance_by p names d.0 ≢ s) → IsFresh s k
    unfolding IsFresh
    fresh_frame s k e there is other = (
      (λ h. (done_by v before k.slot h).1 e there is),
      by_done w after k.slot (known_at p w s k) (λ d h. frame_apart d (placed d h) s k (other d h)),
    )

    pub falls_so : (ks : List Instance) (knows : (s : Instance) → Has ks s → Knows p w s) → AreApart ks → ((q : ℕ) → done v before q ≡ true → done w after q ≡ true) → ((s : Instance) (h : Has ks s) → IsFresh s (knows s h)) → left (done w after) f.cells + length ks ≤ left (done v before) f.cells
    unfolding IsFresh
    falls_so ks knows apart more fresh = so_many p f w own_now (open_in p f w same own_now) (done w after) ks knows apart (done v before) more fresh
