-- What falls from turn to turn: the cells that are neither seen settled nor of an instance that waits.
use Rattle.std.proofs.Common.{◌≡◌, ◌≢◌, ℕ, zero, suc, ◌+◌, ◌*◌, ◌<◌, ◌≤◌, ◌⊎◌, inl, inr, ⊎_elim, Bool, true, false, ◌||◌, eqb, if◌then◌else◌, List, [], ◌∷◌, ◌++◌, length, Option, Some, None, refl, sym, ap, subst, ◌∙◌, arith}
use mathlib.Core.Logic.{dite}
use native.Mathlib.Decide.{ℕ_discrete}
use Rattle.std.specs.List.{list_any}
use Rattle.std.proofs.lemmas.Bool.{eq-eqb, eqb-true, or_left, or_right}
use Rattle.equation_law.proofs.Keys.{both_ways}
use Rattle.equation_law.specs.declared.coding.Instance.{Instance as CodedInstance}
use Rattle.equation_law.specs.Names.{Instance}
use Rattle.equation_law.specs.Program.{Program}
use Rattle.equation_law.specs.Systems.{program_of}
use Rattle.memo_cells.specs.declared.view.Frame.{Frame}
use Rattle.memo_cells.specs.declared.view.View.{View}
use Rattle.memo_cells.specs.Standing.{IsPassOf, Knows}
use Rattle.memo_cells.specs.Views.{Has, IsAtLeast}
use Rattle.memo_cells.proofs.Counting.{any_has, has_any}
use Rattle.circular_eval.specs.declared.local.Local.{Local}
use Rattle.caller_pass.specs.declared.waiting.Waiter.{Waiter}
use Rattle.caller_pass.specs.Waiting.{way_of}
use Rattle.caller_pass.specs.Answering.{is_known_at, unsettled}
use Rattle.memo_cells.proofs.Bits.{has_left}
use Rattle.caller_pass.proofs.Knowing.{known_cell}
use Rattle.caller_pass.proofs.Lines.{has_snoc}
use Rattle.caller_pass.proofs.Places.{known_at, known_at_later, one_of, settled_known}

-- the cell is seen settled, or an instance waits at it
abbrev pub taken : View → List (CodedInstance × Waiter) → ℕ → Bool
taken v es q = is_known_at v q || list_any (λ e. eqb e.1.slot.0 q) es

-- how many of the cells below n aren't
abbrev pub left : (ℕ → Bool) → ℕ → ℕ
left f zero = 0
left f (suc n) = (if f n then 0 else 1) + left f n

-- a part is at most what it was
step : (a b : Bool) → (a ≡ true → b ≡ true) → if◌then◌else◌ {A = ℕ} b 0 1 ≤ (if a then 0 else 1)
step true true more = omega arith
step true false more = let e = more refl in cc
step false true more = omega arith
step false false more = omega arith

pub left_less : (f g : ℕ → Bool) (n : ℕ) → ((q : ℕ) → f q ≡ true → g q ≡ true) → left g n ≤ left f n
left_less f g zero more = omega arith
left_less f g (suc n) more = let rest = left_less f g n more in let here = step (f n) (g n) (more n) in omega (arith, here, rest)

-- one more is taken
pub left_falls : (f g : ℕ → Bool) (n s : ℕ) → ((q : ℕ) → f q ≡ true → g q ≡ true) → s < n → f s ≡ false → g s ≡ true → left g n < left f n
left_falls f g zero s more lt free new = absurd (omega arith)
left_falls f g (suc n) s more lt free new =
    dite (ℕ_discrete s n)
    (λ e.
    let before : if◌then◌else◌ {A = ℕ} (f n) 0 1 ≡ 1 = ap (λ b. if◌then◌else◌ {A = ℕ} b 0 1) (ap f (sym e) ∙ free) in
    let now : if◌then◌else◌ {A = ℕ} (g n) 0 1 ≡ 0 = ap (λ b. if◌then◌else◌ {A = ℕ} b 0 1) (ap g (sym e) ∙ new) in
    let rest = left_less f g n more in
    omega (arith, before, now, rest)
    )
    (λ apart.
    let rest = left_falls f g n s more (omega (arith, apart)) free new in
    let here = step (f n) (g n) (more n) in
    omega (arith, rest, here)
    )

-- what is taken
pub by_value : (v : View) (es : List (CodedInstance × Waiter)) (q : ℕ) → is_known_at v q ≡ true → taken v es q ≡ true
by_value v es q h = or_left (is_known_at v q) _ h

pub by_one : (v : View) (es : List (CodedInstance × Waiter)) (e : CodedInstance × Waiter) → Has es e → taken v es e.1.slot.0 ≡ true
by_one v es e h = or_right (is_known_at v e.1.slot.0) _ (any_has (λ x. eqb x.1.slot.0 e.1.slot.0) es e h (eq-eqb e.1.slot.0 e.1.slot.0 refl))

pub taken_by : (v : View) (es : List (CodedInstance × Waiter)) (q : ℕ) → taken v es q ≡ true → (is_known_at v q ≡ true) ⊎ ((e : CodedInstance × Waiter) × Has es e × (e.1.slot.0 ≡ q))
taken_by v es q h = ⊎_elim
    inl
    (λ e. let r = has_any (λ x. eqb x.1.slot.0 q) es e in inr (r.0, r.1, eqb-true r.0.1.slot.0 q r.2))
    (one_of (is_known_at v q) (list_any (λ e. eqb e.1.slot.0 q) es) h)

-- one that waits more
pub push_keeps : (v w : View) (es : List (CodedInstance × Waiter)) (e : CodedInstance × Waiter) → IsAtLeast v w → (q : ℕ) → taken v es q ≡ true → taken w (es ++ e ∷ []) q ≡ true
push_keeps v w es e kept q h = ⊎_elim
    (λ x. by_value w (es ++ e ∷ []) q (known_at_later v w q kept x))
    (λ x. subst (λ (y : ℕ). taken w (es ++ e ∷ []) y ≡ true) x.2 (by_one w (es ++ e ∷ []) x.0 (has_left es (e ∷ []) x.0 x.1)))
    (taken_by v es q h)

-- one that waits no more, whose cell is seen settled
pub pop_keeps : (v w : View) (es : List (CodedInstance × Waiter)) (e : CodedInstance × Waiter) → IsAtLeast v w → is_known_at w e.1.slot.0 ≡ true → (q : ℕ) → taken v (es ++ e ∷ []) q ≡ true → taken w es q ≡ true
pop_keeps v w es e kept settled q h = ⊎_elim
    (λ x. by_value w es q (known_at_later v w q kept x))
    (λ x. ⊎_elim (λ before. subst (λ (y : ℕ). taken w es y ≡ true) x.2 (by_one w es x.0 before)) (λ same. by_value w es q (subst (λ (y : ℕ). is_known_at w y ≡ true) (sym (ap (λ (d : CodedInstance × Waiter). d.1.slot.0) same) ∙ x.2) settled)) (has_snoc es e x.0 x.1))
    (taken_by v (es ++ e ∷ []) q h)

-- a cell that nothing takes
pub not_taken : (v : View) (es : List (CodedInstance × Waiter)) (q : ℕ) → (¬ (is_known_at v q ≡ true)) → ((e : CodedInstance × Waiter) → Has es e → e.1.slot.0 ≢ q) → taken v es q ≡ false
not_taken v es q none other = both_ways (taken v es q) false (λ h. ⊎_elim (λ x. absurd (none x)) (λ x. absurd (other x.0 x.1 x.2)) (taken_by v es q h)) (λ h. cc)

-- one for an instance that is evaluated next, and none for one whose local set goes on
abbrev pub turns_of : Option Local → ℕ
turns_of None = 1
turns_of (Some l) = 0

-- the measure of a turn: each cell that is left pays four, and each that waits two
abbrev pub measure : View → List (CodedInstance × Waiter) → CodedInstance × Waiter → ℕ → ℕ
measure v es top n = 4 * left (taken v (es ++ top ∷ [])) n + 2 * length es + turns_of (way_of top.1)

-- where nobody waits, what isn't seen settled is left
pub left_unsettled : (v : View) (n : ℕ) → left (taken v []) n ≡ unsettled v n
left_unsettled v zero = refl
left_unsettled v (suc n) =
    let rest = left_unsettled v n in
    ap (λ (b : Bool). (if b then 0 else 1) + left (taken v []) n) (no_more (is_known_at v n)) ∙ ap (λ (x : ℕ). (if is_known_at v n then 0 else 1) + x) rest
  where
    no_more : (b : Bool) → (b || false) ≡ b
    no_more true = refl
    no_more false = refl

still_taken : (v w : View) → IsAtLeast v w → (q : ℕ) → taken v [] q ≡ true → taken w [] q ≡ true
still_taken v w kept q h = ⊎_elim (λ x. by_value w [] q (known_at_later v w q kept x)) (λ x. absurd x.1) (taken_by v [] q h)

-- what is seen settled stays so
pub unsettled_less : (v w : View) (n : ℕ) → IsAtLeast v w → unsettled w n ≤ unsettled v n
unsettled_less v w n kept =
    let less = left_less (taken v []) (taken w []) n (still_taken v w kept) in
    let before = left_unsettled v n in
    let now = left_unsettled w n in
    omega (arith, less, before, now)

-- an instance came to be known
pub unsettled_falls : (p : Program) (f : Frame) → p ≡ program_of f.system.value → (v w : View) → IsPassOf f v → IsPassOf f w → IsAtLeast v w → (i : Instance) → ¬ Knows p v i → Knows p w i → unsettled w f.cells < unsettled v f.cells
unsettled_falls p f same v w own later kept i unknown k =
    let cell = known_cell p f w i later k in
    let free = not_taken v [] k.slot (λ h. unknown (settled_known p f v same own w i k.slot later kept cell h)) (λ e h. absurd h) in
    let falls = left_falls (taken v []) (taken w []) f.cells k.slot (still_taken v w kept) cell.1.0 free (by_value w [] k.slot (known_at p w i k)) in
    let before = left_unsettled v f.cells in
    let now = left_unsettled w f.cells in
    omega (arith, falls, before, now)
