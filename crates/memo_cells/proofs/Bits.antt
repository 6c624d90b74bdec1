-- The bits that stand in the words are what a pass knows that has the words itself.
use Rattle.std.proofs.Common.{◌≡◌, ◌≢◌, ℕ, zero, suc, ◌+◌, ◌<◌, List, [], ◌∷◌, ◌++◌, length, get_or, set, sym, refl, ap, ◌∙◌, inl, inr, ⊎_elim, ◌⊎◌, subst, arith, cond, eq-eqb, ne_eqb, length-set, get_or-set_other}
use mathlib.Core.Logic.{dite}
use native.Mathlib.Decide.{ℕ_discrete}
use Rattle.std.specs.Int.{bit_at}
use Rattle.std.proofs.lemmas.Nat.Bits.{bit_at-zero}
use Rattle.memo_cells.specs.Views.{Has, bits_below, bits_from, shown_bits}

pub has_left : {X : Type 0} (xs ys : List X) (x : X) → Has xs x → Has (xs ++ ys) x
has_left [] ys x h = absurd h
has_left (y ∷ xs) ys x h = ⊎_elim inl (λ r. inr (has_left xs ys x r)) h

pub has_right : {X : Type 0} (xs ys : List X) (x : X) → Has ys x → Has (xs ++ ys) x
has_right [] ys x h = h
has_right (y ∷ xs) ys x h = inr (has_right xs ys x h)

pub has_either : {X : Type 0} (xs ys : List X) (x : X) → Has (xs ++ ys) x → Has xs x ⊎ Has ys x
has_either [] ys x h = inr h
has_either (y ∷ xs) ys x h = ⊎_elim (λ e. inl (inl e)) (λ r. ⊎_elim (λ l. inl (inr l)) inr (has_either xs ys x r)) h

none_below : (p k v : ℕ) → bits_below p k v 0 ≡ []
unfolding bits_below
none_below p k v = refl

one_below : (p k v n : ℕ) → bit_at v n ≡ 1 → bits_below p k v (suc n) ≡ (p, k, n) ∷ bits_below p k v n
unfolding bits_below
one_below p k v n e = ap (λ b. cond b ((p, k, n) ∷ bits_below p k v n) (bits_below p k v n)) (eq-eqb (bit_at v n) 1 e)

skip_below : (p k v n : ℕ) → bit_at v n ≢ 1 → bits_below p k v (suc n) ≡ bits_below p k v n
unfolding bits_below
skip_below p k v n e = ap (λ b. cond b ((p, k, n) ∷ bits_below p k v n) (bits_below p k v n)) (ne_eqb (bit_at v n) 1 e)

-- none is set in 0
pub no_bits_below : (p k n : ℕ) → bits_below p k 0 n ≡ []
no_bits_below p k zero = none_below p k 0
no_bits_below p k (suc n) = let none = bit_at-zero n in skip_below p k 0 n (λ e. omega (arith, e, none)) ∙ no_bits_below p k n

pub below_has : (p k v n b : ℕ) → b < n → bit_at v b ≡ 1 → Has (bits_below p k v n) (p, k, b)
below_has p k v zero b lt e = absurd (omega arith)
below_has p k v (suc n) b lt e =
    dite (ℕ_discrete b n)
    (λ same. subst (λ l. Has l (p, k, b)) (sym (one_below p k v n (ap (bit_at v) (sym same) ∙ e))) (inl (λ i. (p, k, same i))))
    (λ apart.
    let rest : Has (bits_below p k v n) (p, k, b) = below_has p k v n b (omega arith) e in
    dite (ℕ_discrete (bit_at v n) 1) (λ one. subst (λ l. Has l (p, k, b)) (sym (one_below p k v n one)) (inr rest)) (λ no. subst (λ l. Has l (p, k, b)) (sym (skip_below p k v n no)) rest))

pub has_below : (p k v n q j b : ℕ) → Has (bits_below p k v n) (q, j, b) → (q ≡ p) × (j ≡ k) × (b < n) × (bit_at v b ≡ 1)
has_below p k v zero q j b h = absurd (subst (λ l. Has l (q, j, b)) (none_below p k v) h)
has_below p k v (suc n) q j b h =
    let later : Has (bits_below p k v n) (q, j, b) → (q ≡ p) × (j ≡ k) × (b < suc n) × (bit_at v b ≡ 1) = λ r. let t = has_below p k v n q j b r in (t.0, t.1, omega (arith, t.2), t.3) in
    dite (ℕ_discrete (bit_at v n) 1)
    (λ one. ⊎_elim (λ e. let here : b ≡ n = ap (λ y. y.2) e in (ap (λ y. y.0) e, ap (λ y. y.1) e, omega (arith, here), ap (bit_at v) here ∙ one)) later (subst (λ l. Has l (q, j, b)) (one_below p k v n one) h))
    (λ no. later (subst (λ l. Has l (q, j, b)) (skip_below p k v n no) h))

pub no_bits : (p k : ℕ) (ks vs : List ℕ) → (bits_from p ks [] ≡ []) × (bits_from p [] (k ∷ vs) ≡ [])
unfolding bits_from
no_bits p k ks vs = (refl, refl)

pub more_bits : (p k v : ℕ) (ks vs : List ℕ) → bits_from p (k ∷ ks) (v ∷ vs) ≡ bits_below p k v (shown_bits k) ++ bits_from (suc p) ks vs
unfolding bits_from
more_bits p k v ks vs = refl

pub bits_has : (ks vs : List ℕ) (p i q k b : ℕ) → i < length ks → i < length vs → get_or ks i 0 ≡ k → b < shown_bits k → bit_at (get_or vs i 0) b ≡ 1 → q ≡ p + i → Has (bits_from p ks vs) (q, k, b)
bits_has [] vs p i q k b lk lv ek lb eb at = absurd (omega arith)
bits_has (x ∷ ks) [] p i q k b lk lv ek lb eb at = absurd (omega arith)
bits_has (x ∷ ks) (v ∷ vs) p zero q k b lk lv ek lb eb at =
    let here : q ≡ p = omega arith in
    subst (λ l. Has l (q, k, b)) (sym (more_bits p x v ks vs))
    (has_left (bits_below p x v (shown_bits x)) (bits_from (suc p) ks vs) (q, k, b) (subst (λ (y : ℕ × ℕ). Has (bits_below p x v (shown_bits x)) (y.0, y.1, b)) (λ j. (sym here j, ek j)) (below_has p x v (shown_bits x) b (subst (λ (y : ℕ). b < shown_bits y) (sym ek) lb) eb)))
bits_has (x ∷ ks) (v ∷ vs) p (suc i) q k b lk lv ek lb eb at =
    subst (λ l. Has l (q, k, b)) (sym (more_bits p x v ks vs))
    (has_right (bits_below p x v (shown_bits x)) (bits_from (suc p) ks vs) (q, k, b) (bits_has ks vs (suc p) i q k b (omega arith) (omega arith) ek lb eb (omega arith)))

pub has_bits : (ks vs : List ℕ) (p q k b : ℕ) → Has (bits_from p ks vs) (q, k, b) → (i : ℕ) × (i < length ks) × (i < length vs) × (q ≡ p + i) × (get_or ks i 0 ≡ k) × (b < shown_bits k) × (bit_at (get_or vs i 0) b ≡ 1)
has_bits ks [] p q k b h = absurd (subst (λ l. Has l (q, k, b)) (no_bits p 0 ks []).0 h)
has_bits [] (v ∷ vs) p q k b h = absurd (subst (λ l. Has l (q, k, b)) (no_bits p v [] vs).1 h)
has_bits (x ∷ ks) (v ∷ vs) p q k b h =
    ⊎_elim
    (λ r. let t = has_below p x v (shown_bits x) q k b r in (0, omega arith, omega arith, omega (arith, t.0), sym t.1, subst (λ (y : ℕ). b < shown_bits y) (sym t.1) t.2, t.3))
    (λ r. let t = has_bits ks vs (suc p) q k b r in (suc t.0, omega (arith, t.1), omega (arith, t.2), omega (arith, t.3), t.4, t.5, t.6))
    (has_either (bits_below p x v (shown_bits x)) (bits_from (suc p) ks vs) (q, k, b) (subst (λ l. Has l (q, k, b)) (more_bits p x v ks vs) h))

-- a key that is put at a place whose value word has no bit takes none away
pub bits_more : (ks vs : List ℕ) (i k q j b : ℕ) → get_or vs i 0 ≡ 0 → Has (bits_from 0 ks vs) (q, j, b) → Has (bits_from 0 (set ks i k) vs) (q, j, b)
bits_more ks vs i k q j b free h =
    let t = has_bits ks vs 0 q j b h in
    let apart : t.0 ≢ i = λ e. (let none : bit_at (get_or vs t.0 0) b ≡ 0 = ap (λ (y : ℕ). bit_at (get_or vs y 0) b) e ∙ ap (λ (y : ℕ). bit_at y b) free ∙ bit_at-zero b in omega (arith, none, t.6)) in
    bits_has (set ks i k) vs 0 t.0 q j b (omega (arith, t.1, length-set ks i k)) t.2 (get_or-set_other ks i t.0 k 0 apart ∙ t.4) t.5 t.6 t.3

-- where no bit is taken from a word, each stays
pub bits_kept : (ks vs ws : List ℕ) (q j b : ℕ) → length ws ≡ length vs → ((i c : ℕ) → c < shown_bits (get_or ks i 0) → bit_at (get_or vs i 0) c ≡ 1 → bit_at (get_or ws i 0) c ≡ 1) → Has (bits_from 0 ks vs) (q, j, b) → Has (bits_from 0 ks ws) (q, j, b)
bits_kept ks vs ws q j b long more h =
    let t = has_bits ks vs 0 q j b h in
    bits_has ks ws 0 t.0 q j b t.1 (omega (arith, t.2, long)) t.4 t.5 (more t.0 b (subst (λ (y : ℕ). b < shown_bits y) (sym t.4) t.5) t.6) t.3
