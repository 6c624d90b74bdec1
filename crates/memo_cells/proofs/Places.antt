-- What stands at a place is what a pass knows that has the words itself.
use Rattle.std.proofs.Common.{◌≡◌, ◌≢◌, ℕ, zero, suc, ◌+◌, ◌-◌, ◌^◌, ◌<◌, ◌≤◌, List, [], ◌∷◌, length, get_or, set, sym, refl, ap, ◌∙◌, inl, inr, ⊎_elim, subst, arith, Bool, cond, eq-eqb, ne_eqb, eqb, false, length-set, get_or-set_other, if◌then◌else◌, true, ◌&&◌, not, leb}
use mathlib.Core.Logic.{dite}
use Rattle.std.proofs.lemmas.Bool.{le-leb, lt-leb}
use native.Mathlib.Decide.{ℕ_discrete, dec_le}
use Rattle.memo_cells.specs.Keys.{is_set_word}
use Rattle.memo_cells.specs.Views.{Has, times}
use Rattle.memo_cells.specs.Views.{keys_from, places_from, values_from}

pub zero_key : (p k : ℕ) (ks : List ℕ) → k ≡ 0 → keys_from p (k ∷ ks) ≡ keys_from (suc p) ks
unfolding keys_from
zero_key p k ks e = ap (λ b. cond b (keys_from (suc p) ks) ((p, k) ∷ keys_from (suc p) ks)) (eq-eqb k 0 e)

some_key : (p k : ℕ) (ks : List ℕ) → k ≢ 0 → keys_from p (k ∷ ks) ≡ (p, k) ∷ keys_from (suc p) ks
unfolding keys_from
some_key p k ks n = ap (λ b. cond b (keys_from (suc p) ks) ((p, k) ∷ keys_from (suc p) ks)) (ne_eqb k 0 n)

pub no_key : (p : ℕ) → keys_from p [] ≡ []
unfolding keys_from
no_key p = refl

pub keys_has : (ks : List ℕ) (p i q k : ℕ) → i < length ks → get_or ks i 0 ≡ k → k ≢ 0 → q ≡ p + i → Has (keys_from p ks) (q, k)
keys_has [] p i q k lt e n at = absurd (omega arith)
keys_has (x ∷ ks) p zero q k lt e n at = subst (λ l. Has l (q, k)) (sym (some_key p x ks (λ z. n (sym e ∙ z)))) (inl (let here : q ≡ p = omega arith in λ j. (here j, sym e j)))
keys_has (x ∷ ks) p (suc i) q k lt e n at =
    let rest : Has (keys_from (suc p) ks) (q, k) = keys_has ks (suc p) i q k (omega arith) e n (omega arith) in
    dite (ℕ_discrete x 0) (λ z. subst (λ l. Has l (q, k)) (sym (zero_key p x ks z)) rest) (λ nz. subst (λ l. Has l (q, k)) (sym (some_key p x ks nz)) (inr rest))

-- the place is among these, and the key stands there
pub has_keys : (ks : List ℕ) (p q k : ℕ) → Has (keys_from p ks) (q, k) → (k ≢ 0) × ((i : ℕ) × (i < length ks) × (q ≡ p + i) × (get_or ks i 0 ≡ k))
has_keys [] p q k h = absurd (subst (λ l. Has l (q, k)) (no_key p) h)
has_keys (x ∷ ks) p q k h =
    let later : Has (keys_from (suc p) ks) (q, k) → (k ≢ 0) × ((i : ℕ) × (i < length (x ∷ ks)) × (q ≡ p + i) × (get_or (x ∷ ks) i 0 ≡ k))
    = λ r. let t = has_keys ks (suc p) q k r in (t.0, (suc t.1.0, omega (arith, t.1.1), omega (arith, t.1.2), t.1.3)) in
    dite (ℕ_discrete x 0)
    (λ z. later (subst (λ l. Has l (q, k)) (zero_key p x ks z) h))
    (λ nz. ⊎_elim
    (λ e. let at : q ≡ p = ap (λ y. y.0) e in let word : k ≡ x = ap (λ y. y.1) e in ((λ z. nz (sym word ∙ z)), (0, omega arith, omega arith, sym word)))
    later
    (subst (λ l. Has l (q, k)) (some_key p x ks nz) h))

-- a key that is added takes none away
pub keys_more : (ks : List ℕ) (i k q j : ℕ) → get_or ks i 0 ≡ 0 → Has (keys_from 0 ks) (q, j) → Has (keys_from 0 (set ks i k)) (q, j)
keys_more ks i k q j free h = let t = has_keys ks 0 q j h in
    let apart : t.1.0 ≢ i = λ e. t.0 (sym t.1.3 ∙ (ap (λ y. get_or ks y 0) e ∙ free)) in
    keys_has (set ks i k) 0 t.1.0 q j (omega (arith, t.1.1, length-set ks i k)) (get_or-set_other ks i t.1.0 k 0 apart ∙ t.1.3) t.0 t.1.2

pub zero_place : (p k : ℕ) (ks : List ℕ) → k ≡ 0 → places_from p (k ∷ ks) ≡ places_from (suc p) ks
unfolding places_from
zero_place p k ks e = ap (λ b. cond b (places_from (suc p) ks) (p ∷ places_from (suc p) ks)) (eq-eqb k 0 e)

pub some_place : (p k : ℕ) (ks : List ℕ) → k ≢ 0 → places_from p (k ∷ ks) ≡ p ∷ places_from (suc p) ks
unfolding places_from
some_place p k ks n = ap (λ b. cond b (places_from (suc p) ks) (p ∷ places_from (suc p) ks)) (ne_eqb k 0 n)

pub places_more : (ks : List ℕ) (p i k q : ℕ) → get_or ks i 0 ≡ 0 → times q (places_from p ks) ≤ times q (places_from p (set ks i k))
places_more [] p i k q free = omega arith
places_more (x ∷ ks) p zero k q free =
    let a = ap (times q) (zero_place p x ks free) in
    dite (ℕ_discrete k 0) (λ z. let b = ap (times q) (zero_place p k ks z) in omega arith) (λ n. let b = ap (times q) (some_place p k ks n) in omega arith)
places_more (x ∷ ks) p (suc i) k q free =
    let rest = places_more ks (suc p) i k q free in
    dite (ℕ_discrete x 0)
    (λ z. let a = ap (times q) (zero_place p x ks z) in let b = ap (times q) (zero_place p x (set ks i k) z) in omega arith)
    (λ n. let a = ap (times q) (some_place p x ks n) in let b = ap (times q) (some_place p x (set ks i k) n) in omega arith)

-- the place of a key counts
pub place_counted : (ks : List ℕ) (p q k : ℕ) → Has (keys_from p ks) (q, k) → times q (places_from p ks) ≢ 0
place_counted [] p q k h = absurd (subst (λ l. Has l (q, k)) (no_key p) h)
place_counted (x ∷ ks) p q k h =
    dite (ℕ_discrete x 0)
    (λ z. let rest = place_counted ks (suc p) q k (subst (λ l. Has l (q, k)) (zero_key p x ks z) h) in λ e. rest (sym (ap (times q) (zero_place p x ks z)) ∙ e))
    (λ n.
    let more = ap (times q) (some_place p x ks n) in
    ⊎_elim
    (λ e. let here : q ≡ p = ap (λ y. y.0) e in let one : if◌then◌else◌ {A = ℕ} (eqb q p) 1 0 ≡ 1 = ap (λ b. if◌then◌else◌ {A = ℕ} b 1 0) (eq-eqb q p here) in λ none. absurd (omega (arith, one, more, none)))
    (λ later. let rest = place_counted ks (suc p) q k later in λ none. rest (omega (arith, more, none)))
    (subst (λ l. Has l (q, k)) (some_key p x ks n) h))

-- a key at one place leaves the other places as they were
pub places_same : (ks : List ℕ) (p i k q : ℕ) → q ≢ p + i → times q (places_from p (set ks i k)) ≡ times q (places_from p ks)
places_same [] p i k q apart = refl
places_same (x ∷ ks) p zero k q apart =
    let other : eqb q p ≡ false = ne_eqb q p (λ e. apart (omega (arith, e))) in
    let none : if◌then◌else◌ {A = ℕ} (eqb q p) 1 0 ≡ 0 = ap (λ b. if◌then◌else◌ {A = ℕ} b 1 0) other in
    dite (ℕ_discrete k 0)
    (λ z. dite (ℕ_discrete x 0) (λ y. let a = ap (times q) (zero_place p k ks z) in let b = ap (times q) (zero_place p x ks y) in omega (arith, none))
    (λ n. let a = ap (times q) (zero_place p k ks z) in let b = ap (times q) (some_place p x ks n) in omega (arith, none)))
    (λ m. dite (ℕ_discrete x 0) (λ y. let a = ap (times q) (some_place p k ks m) in let b = ap (times q) (zero_place p x ks y) in omega (arith, none))
    (λ n. let a = ap (times q) (some_place p k ks m) in let b = ap (times q) (some_place p x ks n) in omega (arith, none)))
places_same (x ∷ ks) p (suc i) k q apart =
    let rest = places_same ks (suc p) i k q (λ e. apart (omega (arith, e))) in
    dite (ℕ_discrete x 0)
    (λ z. let a = ap (times q) (zero_place p x ks z) in let b = ap (times q) (zero_place p x (set ks i k) z) in omega arith)
    (λ n. let a = ap (times q) (some_place p x ks n) in let b = ap (times q) (some_place p x (set ks i k) n) in omega arith)

-- a key is of a word of a set, or of none
pub either_word : {P : Type 0} (k : ℕ) → (is_set_word k ≡ true → P) → (is_set_word k ≡ false → P) → P
either_word {P} k f g = elim (is_set_word k) as (λ b. is_set_word k ≡ b → P) [ true ↦ f | false ↦ g ] refl

pub and_false : (b : Bool) → b && false ≡ false
and_false true = refl
and_false false = refl

-- a word that isn't settled, or is one of a set, is no settled value
skipped : (p k v : ℕ) (ks vs : List ℕ) → leb (2 ^ 63) v && not (is_set_word k) ≡ false → values_from p (k ∷ ks) (v ∷ vs) ≡ values_from (suc p) ks vs
unfolding values_from
skipped p k v ks vs e = ap (λ b. cond b ((p, k, v - 2 ^ 63) ∷ values_from (suc p) ks vs) (values_from (suc p) ks vs)) e

pub open_value : (p k v : ℕ) (ks vs : List ℕ) → v < 2 ^ 63 → values_from p (k ∷ ks) (v ∷ vs) ≡ values_from (suc p) ks vs
open_value p k v ks vs low = skipped p k v ks vs (ap (λ b. b && not (is_set_word k)) (lt-leb (2 ^ 63) v low))

pub set_value : (p k v : ℕ) (ks vs : List ℕ) → is_set_word k ≡ true → values_from p (k ∷ ks) (v ∷ vs) ≡ values_from (suc p) ks vs
set_value p k v ks vs set = skipped p k v ks vs (ap (λ b. leb (2 ^ 63) v && not b) set ∙ and_false (leb (2 ^ 63) v))

pub settled_value : (p k v : ℕ) (ks vs : List ℕ) → 2 ^ 63 ≤ v → is_set_word k ≡ false → values_from p (k ∷ ks) (v ∷ vs) ≡ (p, k, v - 2 ^ 63) ∷ values_from (suc p) ks vs
unfolding values_from
settled_value p k v ks vs high plain =
    ap (λ b. cond b ((p, k, v - 2 ^ 63) ∷ values_from (suc p) ks vs) (values_from (suc p) ks vs)) (ap (λ b. b && not (is_set_word k)) (le-leb (2 ^ 63) v high) ∙ ap not plain)

pub no_value : (p k : ℕ) (ks vs : List ℕ) → (values_from p ks [] ≡ []) × (values_from p [] (k ∷ vs) ≡ [])
unfolding values_from
no_value p k ks vs = (refl, refl)

pub values_has : (ks vs : List ℕ) (p i q k c : ℕ) → i < length ks → i < length vs → get_or ks i 0 ≡ k → is_set_word k ≡ false → get_or vs i 0 ≡ c + 2 ^ 63 → q ≡ p + i → Has (values_from p ks vs) (q, k, c)
values_has [] vs p i q k c lk lv ek plain ev at = absurd (omega arith)
values_has (x ∷ ks) [] p i q k c lk lv ek plain ev at = absurd (omega arith)
values_has (x ∷ ks) (v ∷ vs) p zero q k c lk lv ek plain ev at =
    let here : q ≡ p = omega arith in
    let code : c ≡ v - 2 ^ 63 = omega arith in
    subst (λ l. Has l (q, k, c)) (sym (settled_value p x v ks vs (omega arith) (ap is_set_word ek ∙ plain))) (inl (λ j. (here j, sym ek j, code j)))
values_has (x ∷ ks) (v ∷ vs) p (suc i) q k c lk lv ek plain ev at =
    let rest : Has (values_from (suc p) ks vs) (q, k, c) = values_has ks vs (suc p) i q k c (omega arith) (omega arith) ek plain ev (omega arith) in
    dite (dec_le (2 ^ 63) v)
    (λ h. either_word x
    (λ set. subst (λ l. Has l (q, k, c)) (sym (set_value p x v ks vs set)) rest)
    (λ plain. subst (λ l. Has l (q, k, c)) (sym (settled_value p x v ks vs h plain)) (inr rest)))
    (λ h. subst (λ l. Has l (q, k, c)) (sym (open_value p x v ks vs (omega arith))) rest)

pub has_values : (ks vs : List ℕ) (p q k c : ℕ) → Has (values_from p ks vs) (q, k, c) → (i : ℕ) × (i < length ks) × (i < length vs) × (q ≡ p + i) × (get_or ks i 0 ≡ k) × (get_or vs i 0 ≡ c + 2 ^ 63) × (is_set_word k ≡ false)
has_values ks [] p q k c h = absurd (subst (λ l. Has l (q, k, c)) (no_value p 0 ks []).0 h)
has_values [] (v ∷ vs) p q k c h = absurd (subst (λ l. Has l (q, k, c)) (no_value p v [] vs).1 h)
has_values (x ∷ ks) (v ∷ vs) p q k c h =
    let later : Has (values_from (suc p) ks vs) (q, k, c) → (i : ℕ) × (i < length (x ∷ ks)) × (i < length (v ∷ vs)) × (q ≡ p + i) × (get_or (x ∷ ks) i 0 ≡ k) × (get_or (v ∷ vs) i 0 ≡ c + 2 ^ 63) × (is_set_word k ≡ false)
    = λ r. let t = has_values ks vs (suc p) q k c r in (suc t.0, omega (arith, t.1), omega (arith, t.2), omega (arith, t.3), t.4, t.5, t.6) in
    dite (dec_le (2 ^ 63) v)
    (λ high. either_word x
    (λ set. later (subst (λ l. Has l (q, k, c)) (set_value p x v ks vs set) h))
    (λ plain. ⊎_elim
    (λ e. let at : q ≡ p = ap (λ y. y.0) e in let word : k ≡ x = ap (λ y. y.1) e in let code : c ≡ v - 2 ^ 63 = ap (λ y. y.2) e in (0, omega arith, omega arith, omega arith, sym word, omega arith, ap is_set_word word ∙ plain))
    later
    (subst (λ l. Has l (q, k, c)) (settled_value p x v ks vs high plain) h)))
    (λ low. later (subst (λ l. Has l (q, k, c)) (open_value p x v ks vs (omega arith)) h))

pub values_more : (ks vs : List ℕ) (i k q j c : ℕ) → get_or ks i 0 ≡ 0 → ((p : ℕ) → p < length vs → get_or vs p 0 ≢ 0 → get_or ks p 0 ≢ 0) → Has (values_from 0 ks vs) (q, j, c) → Has (values_from 0 (set ks i k) vs) (q, j, c)
values_more ks vs i k q j c free keyed h = let t = has_values ks vs 0 q j c h in
    let apart : t.0 ≢ i = λ e. keyed t.0 t.2 (λ z. let y = t.5 in omega arith) (ap (λ y. get_or ks y 0) e ∙ free) in
    values_has (set ks i k) vs 0 t.0 q j c (omega (arith, t.1, length-set ks i k)) t.2 (get_or-set_other ks i t.0 k 0 apart ∙ t.4) t.6 t.5 t.3

-- where no settled word changes, each settled value stays
pub values_kept : (ks vs ws : List ℕ) (q j c : ℕ) → length ws ≡ length vs → ((i : ℕ) → is_set_word (get_or ks i 0) ≡ false → 2 ^ 63 ≤ get_or vs i 0 → get_or ws i 0 ≡ get_or vs i 0) → Has (values_from 0 ks vs) (q, j, c) → Has (values_from 0 ks ws) (q, j, c)
values_kept ks vs ws q j c long same h =
    let t = has_values ks vs 0 q j c h in
    values_has ks ws 0 t.0 q j c t.1 (omega (arith, t.2, long)) t.4 t.6 (same t.0 (ap is_set_word t.4 ∙ t.6) (omega (arith, t.5)) ∙ t.5) t.3
