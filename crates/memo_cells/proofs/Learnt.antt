-- What a pass knows after a step: nothing is unlearnt, and all of it stands in the words.
use Rattle.std.proofs.Common.{◌≡◌, ◌≢◌, ℕ, zero, suc, false, ◌+◌, ◌-◌, ◌^◌, ◌<◌, ◌≤◌, ◌⊎◌, ◌&&◌, not, leb, eqb, inl, inr, ⊎_elim, List, [], ◌∷◌, ◌++◌, Option, Some, length, get_or, set, cond, if◌then◌else◌, refl, sym, ap, ◌∙◌, subst, arith, le_refl, eq-eqb, ne_eqb, length-set, get_or-set_other, get_or-set_same}
use mathlib.Core.Logic.{dite}
use native.Mathlib.Decide.{ℕ_discrete, dec_le}
use Rattle.std.specs.Int.{bit_at}
use Rattle.std.proofs.lemmas.Bool.{le-leb, lt-leb}
use Rattle.memo_cells.specs.declared.learning.Step.TheVariants.{Claim, Key, Value}
use Rattle.equation_law.specs.declared.coding.Instance.{Instance as CodedInstance}
use Rattle.made_trees.proofs.Following.{follow_itself, follow_same}
use Rattle.memo_cells.specs.declared.view.Frame.{Frame}
use Rattle.memo_cells.specs.declared.view.View.{View}
use Rattle.memo_cells.specs.Keys.{is_set_word}
use Rattle.memo_cells.specs.Learning.{after, bits_said, cells_in, forgotten, value_said, values_said, with_key}
use Rattle.memo_cells.specs.Causes.{LogsValue}
use Rattle.memo_cells.specs.Standing.{IsPassOf, IsTold}
use Rattle.memo_cells.specs.Views.{Has, IsAtLeast, bits_below, keys_from, knows_all, places_from, shown_bits, times, value_word_at}
use Rattle.memo_cells.proofs.Alone.{read_at}
use Rattle.memo_cells.proofs.Bits.{below_has, bits_has, has_below, has_either, has_left, has_right}
use Rattle.memo_cells.proofs.Places.{and_false, either_word, has_keys, keys_has, place_counted, places_same, some_place, values_has, zero_place}

-- ---- the keys

with_key_has : (p k q j : ℕ) (keys : List (ℕ × ℕ)) → Has (with_key p k keys) (q, j) → Has keys (q, j) ⊎ ((q ≡ p) × (j ≡ k) × (k ≢ 0))
with_key_has p k q j keys h =
    dite (ℕ_discrete k 0) (λ z. inl (subst (λ b. Has (cond b keys ((p, k) ∷ keys)) (q, j)) (eq-eqb k 0 z) h))
    (λ nz. ⊎_elim (λ e. inr (ap (λ y. y.0) e, ap (λ y. y.1) e, nz)) inl (subst (λ b. Has (cond b keys ((p, k) ∷ keys)) (q, j)) (ne_eqb k 0 nz) h))

with_key_more : (p k : ℕ) (keys : List (ℕ × ℕ)) (x : ℕ × ℕ) → Has keys x → Has (with_key p k keys) x
with_key_more p k keys x h =
    dite (ℕ_discrete k 0) (λ z. subst (λ b. Has (cond b keys ((p, k) ∷ keys)) x) (sym (eq-eqb k 0 z)) h) (λ nz. subst (λ b. Has (cond b keys ((p, k) ∷ keys)) x) (sym (ne_eqb k 0 nz)) (inr h))

pub with_key_here : (p k : ℕ) (keys : List (ℕ × ℕ)) → k ≢ 0 → Has (with_key p k keys) (p, k)
with_key_here p k keys nz = subst (λ b. Has (cond b keys ((p, k) ∷ keys)) (p, k)) (sym (ne_eqb k 0 nz)) (inl refl)

-- ---- what a value word says

said_settled : (p k x : ℕ) → 2 ^ 63 ≤ x → is_set_word k ≡ false → value_said p k x ≡ (p, k, x - 2 ^ 63) ∷ []
said_settled p k x high plain = ap (λ b. cond b ((p, k, x - 2 ^ 63) ∷ []) []) (ap (λ b. b && not (is_set_word k)) (le-leb (2 ^ 63) x high) ∙ ap not plain)

said_nothing : (p k x : ℕ) → leb (2 ^ 63) x && not (is_set_word k) ≡ false → value_said p k x ≡ []
said_nothing p k x e = ap (λ b. cond b ((p, k, x - 2 ^ 63) ∷ []) []) e

said_value : (p k x q j c : ℕ) → Has (value_said p k x) (q, j, c) → (q ≡ p) × (j ≡ k) × (2 ^ 63 ≤ x) × (is_set_word k ≡ false) × (c ≡ x - 2 ^ 63)
said_value p k x q j c h =
    dite (dec_le (2 ^ 63) x)
    (λ high. either_word k
    (λ set. absurd (subst (λ (l : List (ℕ × ℕ × ℕ)). Has l (q, j, c)) (said_nothing p k x (ap (λ b. leb (2 ^ 63) x && not b) set ∙ and_false (leb (2 ^ 63) x))) h))
    (λ plain. ⊎_elim (λ e. (ap (λ y. y.0) e, ap (λ y. y.1) e, high, plain, ap (λ y. y.2) e)) (λ none. absurd none) (subst (λ (l : List (ℕ × ℕ × ℕ)). Has l (q, j, c)) (said_settled p k x high plain) h)))
    (λ low. absurd (subst (λ (l : List (ℕ × ℕ × ℕ)). Has l (q, j, c)) (said_nothing p k x (ap (λ b. b && not (is_set_word k)) (lt-leb (2 ^ 63) x (omega arith)))) h))

values_none : (p x : ℕ) → values_said p x [] ≡ []
unfolding values_said
values_none p x = refl

values_one : (p x : ℕ) (k : ℕ × ℕ) (keys : List (ℕ × ℕ)) → k.0 ≡ p → values_said p x (k ∷ keys) ≡ value_said p k.1 x ++ values_said p x keys
unfolding values_said
values_one p x k keys e = ap (λ b. cond b (value_said p k.1 x ++ values_said p x keys) (values_said p x keys)) (eq-eqb k.0 p e)

values_skip : (p x : ℕ) (k : ℕ × ℕ) (keys : List (ℕ × ℕ)) → k.0 ≢ p → values_said p x (k ∷ keys) ≡ values_said p x keys
unfolding values_said
values_skip p x k keys e = ap (λ b. cond b (value_said p k.1 x ++ values_said p x keys) (values_said p x keys)) (ne_eqb k.0 p e)

pub said_values : (p x q j c : ℕ) (keys : List (ℕ × ℕ)) → Has (values_said p x keys) (q, j, c) → (q ≡ p) × Has keys (p, j) × (2 ^ 63 ≤ x) × (is_set_word j ≡ false) × (c ≡ x - 2 ^ 63)
said_values p x q j c [] h = absurd (subst (λ (l : List (ℕ × ℕ × ℕ)). Has l (q, j, c)) (values_none p x) h)
said_values p x q j c (k ∷ keys) h =
    let later : Has (values_said p x keys) (q, j, c) → (q ≡ p) × Has (k ∷ keys) (p, j) × (2 ^ 63 ≤ x) × (is_set_word j ≡ false) × (c ≡ x - 2 ^ 63) = λ r. let t = said_values p x q j c keys r in (t.0, inr t.1, t.2, t.3, t.4) in
    dite (ℕ_discrete k.0 p)
    (λ here. ⊎_elim (λ r. let t = said_value p k.1 x q j c r in (t.0, inl (λ i. (sym here i, t.1 i)), t.2, ap is_set_word t.1 ∙ t.3, t.4)) later
    (has_either (value_said p k.1 x) (values_said p x keys) (q, j, c) (subst (λ (l : List (ℕ × ℕ × ℕ)). Has l (q, j, c)) (values_one p x k keys here) h)))
    (λ apart. later (subst (λ (l : List (ℕ × ℕ × ℕ)). Has l (q, j, c)) (values_skip p x k keys apart) h))

pub values_said_has : (p x j : ℕ) (keys : List (ℕ × ℕ)) → Has keys (p, j) → 2 ^ 63 ≤ x → is_set_word j ≡ false → Has (values_said p x keys) (p, j, x - 2 ^ 63)
values_said_has p x j [] h high plain = absurd h
values_said_has p x j (k ∷ keys) h high plain =
    dite (ℕ_discrete k.0 p)
    (λ here. subst (λ (l : List (ℕ × ℕ × ℕ)). Has l (p, j, x - 2 ^ 63)) (sym (values_one p x k keys here))
    (⊎_elim
    (λ e.
    let key : j ≡ k.1 = ap (λ y. y.1) e in
    has_left (value_said p k.1 x) (values_said p x keys) (p, j, x - 2 ^ 63) (subst (λ (l : List (ℕ × ℕ × ℕ)). Has l (p, j, x - 2 ^ 63)) (sym (said_settled p k.1 x high (ap is_set_word (sym key) ∙ plain))) (inl (λ i. (p, key i, x - 2 ^ 63)))))
    (λ r. has_right (value_said p k.1 x) (values_said p x keys) (p, j, x - 2 ^ 63) (values_said_has p x j keys r high plain)) h))
    (λ apart. subst (λ (l : List (ℕ × ℕ × ℕ)). Has l (p, j, x - 2 ^ 63)) (sym (values_skip p x k keys apart)) (⊎_elim (λ e. absurd (apart (sym (ap (λ y. y.0) e)))) (λ r. values_said_has p x j keys r high plain) h))

bits_none : (p x : ℕ) → bits_said p x [] ≡ []
unfolding bits_said
bits_none p x = refl

bits_one : (p x : ℕ) (k : ℕ × ℕ) (keys : List (ℕ × ℕ)) → k.0 ≡ p → bits_said p x (k ∷ keys) ≡ bits_below p k.1 x (shown_bits k.1) ++ bits_said p x keys
unfolding bits_said
bits_one p x k keys e = ap (λ b. cond b (bits_below p k.1 x (shown_bits k.1) ++ bits_said p x keys) (bits_said p x keys)) (eq-eqb k.0 p e)

bits_skip : (p x : ℕ) (k : ℕ × ℕ) (keys : List (ℕ × ℕ)) → k.0 ≢ p → bits_said p x (k ∷ keys) ≡ bits_said p x keys
unfolding bits_said
bits_skip p x k keys e = ap (λ b. cond b (bits_below p k.1 x (shown_bits k.1) ++ bits_said p x keys) (bits_said p x keys)) (ne_eqb k.0 p e)

pub said_bits : (p x q j n : ℕ) (keys : List (ℕ × ℕ)) → Has (bits_said p x keys) (q, j, n) → (q ≡ p) × Has keys (p, j) × (n < shown_bits j) × (bit_at x n ≡ 1)
said_bits p x q j n [] h = absurd (subst (λ (l : List (ℕ × ℕ × ℕ)). Has l (q, j, n)) (bits_none p x) h)
said_bits p x q j n (k ∷ keys) h =
    let later : Has (bits_said p x keys) (q, j, n) → (q ≡ p) × Has (k ∷ keys) (p, j) × (n < shown_bits j) × (bit_at x n ≡ 1) = λ r. let t = said_bits p x q j n keys r in (t.0, inr t.1, t.2, t.3) in
    dite (ℕ_discrete k.0 p)
    (λ here. ⊎_elim
    (λ r. let t = has_below p k.1 x (shown_bits k.1) q j n r in (t.0, inl (λ i. (sym here i, t.1 i)), subst (λ (y : ℕ). n < shown_bits y) (sym t.1) t.2, t.3)) later
    (has_either (bits_below p k.1 x (shown_bits k.1)) (bits_said p x keys) (q, j, n) (subst (λ (l : List (ℕ × ℕ × ℕ)). Has l (q, j, n)) (bits_one p x k keys here) h)))
    (λ apart. later (subst (λ (l : List (ℕ × ℕ × ℕ)). Has l (q, j, n)) (bits_skip p x k keys apart) h))

pub bits_said_has : (p x j n : ℕ) (keys : List (ℕ × ℕ)) → Has keys (p, j) → n < shown_bits j → bit_at x n ≡ 1 → Has (bits_said p x keys) (p, j, n)
bits_said_has p x j n [] h low one = absurd h
bits_said_has p x j n (k ∷ keys) h low one =
    dite (ℕ_discrete k.0 p)
    (λ here. subst (λ (l : List (ℕ × ℕ × ℕ)). Has l (p, j, n)) (sym (bits_one p x k keys here))
    (⊎_elim
    (λ e.
    let key : j ≡ k.1 = ap (λ y. y.1) e in
    has_left (bits_below p k.1 x (shown_bits k.1)) (bits_said p x keys) (p, j, n) (subst (λ (y : ℕ). Has (bits_below p k.1 x (shown_bits k.1)) (p, y, n)) (sym key) (below_has p k.1 x (shown_bits k.1) n (subst (λ (y : ℕ). n < shown_bits y) key low) one)))
    (λ r. has_right (bits_below p k.1 x (shown_bits k.1)) (bits_said p x keys) (p, j, n) (bits_said_has p x j n keys r low one)) h))
    (λ apart. subst (λ (l : List (ℕ × ℕ × ℕ)). Has l (p, j, n)) (sym (bits_skip p x k keys apart)) (⊎_elim (λ e. absurd (apart (sym (ap (λ y. y.0) e)))) (λ r. bits_said_has p x j n keys r low one) h))

-- ---- nothing is unlearnt

module _ (v : View) (place : ℕ) where
  pub key_learnt : (found : ℕ) → IsAtLeast v (after v (Key place found))
  key_learnt found = record { frame = refl; share = refl; keys = λ q j h. with_key_more place found v.keys (q, j) h; values = λ q j c h. h; bits = λ q j n h. h; claims = λ q. le_refl (times q v.claims); made = follow_itself v.made }

  pub claim_learnt : (key : ℕ) → IsAtLeast v (after v (Claim place key))
  claim_learnt key = record { frame = refl; share = refl; keys = λ q j h. inr h; values = λ q j c h. h; bits = λ q j n h. h; claims = λ q. omega arith; made = follow_itself v.made }

  pub value_learnt : (found left : ℕ) → IsAtLeast v (after v (Value place found left))
  value_learnt found left = record {
    frame = refl;
    share = refl;
    keys = λ q j h. h;
    values = λ q j c h. has_right (values_said place left v.keys) v.values (q, j, c) h;
    bits = λ q j n h. has_right (bits_said place left v.keys) v.bits (q, j, n) h;
    claims = λ q. le_refl (times q v.claims);
    made = follow_itself v.made;
  }

-- what is said of what a pass knew and knows, of the pass itself
pub step_told : (P : View → View → Type 0) → {u v w x : View} → u ≡ v → x ≡ w → P u w → P v x
step_told P is e h = subst (λ (y : View × View). P y.0 y.1) (λ i. (is i, sym e i)) h

-- the log after a step on a value word
pub value_logged : {f : Frame} (v : View) (place found left : ℕ) → v.frame ≡ Some f → LogsValue f v (after v (Value place found left)) place found
value_logged v place found left is = ap (λ (n : Option Frame). (value_word_at (cells_in n) place, found) ∷ v.found) is

pub own_inside : {f : Frame} {u v : View} → u ≡ v → IsPassOf f v → IsPassOf f u
own_inside {f} is own = subst (λ (y : View). IsPassOf f y) (sym is) own

-- what is left to seal makes no difference to it
pub least_any : (f : Frame) (ms : List CodedInstance) (ts us ks vs ws : List ℕ) → IsAtLeast (knows_all f ms ts ks vs) (knows_all f ms us ks ws) → IsAtLeast (knows_all f ms [] ks vs) (knows_all f ms [] ks ws)
least_any f ms ts us ks vs ws h = record { frame = refl; share = refl; keys = h.keys; values = h.values; bits = h.bits; claims = h.claims; made = follow_itself ms }

-- ---- all of it stands in the words

none_counted : (p q : ℕ) → times q (places_from p []) ≡ 0
unfolding places_from
none_counted p q = refl

-- places from p on don't count below it, nor where no key stands
places_before : (ks : List ℕ) (p q : ℕ) → q < p → times q (places_from p ks) ≡ 0
places_before [] p q lt = none_counted p q
places_before (x ∷ ks) p q lt =
    let rest = places_before ks (suc p) q (omega arith) in
    let other : if◌then◌else◌ {A = ℕ} (eqb q p) 1 0 ≡ 0 = ap (λ b. if◌then◌else◌ {A = ℕ} b 1 0) (ne_eqb q p (λ e. omega (arith, e, lt))) in
    dite (ℕ_discrete x 0) (λ z. ap (times q) (zero_place p x ks z) ∙ rest) (λ nz. let more = ap (times q) (some_place p x ks nz) in omega (arith, more, rest, other))

place_free : (ks : List ℕ) (p i q : ℕ) → i < length ks → get_or ks i 0 ≡ 0 → q ≡ p + i → times q (places_from p ks) ≡ 0
place_free [] p i q lt free at = absurd (omega arith)
place_free (x ∷ ks) p zero q lt free at = ap (times q) (zero_place p x ks free) ∙ places_before ks (suc p) q (omega arith)
place_free (x ∷ ks) p (suc i) q lt free at =
    let rest = place_free ks (suc p) i q (omega arith) free (omega arith) in
    let other : if◌then◌else◌ {A = ℕ} (eqb q p) 1 0 ≡ 0 = ap (λ b. if◌then◌else◌ {A = ℕ} b 1 0) (ne_eqb q p (λ e. omega (arith, e, at))) in
    dite (ℕ_discrete x 0) (λ z. ap (times q) (zero_place p x ks z) ∙ rest) (λ nz. let more = ap (times q) (some_place p x ks nz) in omega (arith, more, rest, other))

module _ (f : Frame) (ms : List CodedInstance) (ks vs : List ℕ) (v : View) (told : IsTold f ms ks vs v) where
  pub told_least : (ts : List ℕ) → IsAtLeast v (knows_all f ms ts ks vs)
  told_least ts = record { frame = sym told.frame; share = sym told.share; keys = told.keys; values = told.values; bits = told.bits; claims = told.claims; made = follow_same (sym told.made) }

  -- nothing, where it forgot what it had read
  pub forgotten_told : IsTold f ms ks vs (forgotten v)
  forgotten_told = record {
    table = told.table;
    frame = told.frame;
    share = told.share;
    keys = λ p k h. absurd h;
    values = λ p k c h. absurd h;
    bits = λ p k n h. absurd h;
    valued = λ p k c h. absurd h;
    keyed = λ p k n h. absurd h;
    claims = told.claims;
    own = told.own;
    to_seal = told.to_seal;
    made = told.made;
  }

  -- a key that was found
  pub key_told : (place found : ℕ) → place < length ks → found ≡ get_or ks place found → IsTold f ms ks vs (after v (Key place found))
  key_told place found lt is = record {
    table = told.table;
    frame = told.frame;
    share = told.share;
    keys = λ q j h. ⊎_elim (told.keys q j) (λ e. keys_has ks 0 place q j lt (read_at ks place found lt ∙ sym is ∙ sym e.1) (λ z. e.2 (sym e.1 ∙ z)) (omega (arith, e.0))) (with_key_has place found q j v.keys h);
    values = told.values;
    bits = told.bits;
    valued = λ q j c h. with_key_more place found v.keys (q, j) (told.valued q j c h);
    keyed = λ q j n h. with_key_more place found v.keys (q, j) (told.keyed q j n h);
    claims = told.claims;
    own = told.own;
    to_seal = told.to_seal;
    made = told.made;
  }

  -- a key that was put at a free place
  module _ (place key : ℕ) (lt : place < length ks) (free : get_or ks place 0 ≡ 0) (nz : key ≢ 0) (more : IsAtLeast (knows_all f ms [] ks vs) (knows_all f ms [] (set ks place key) vs)) where
    put_there : (q j : ℕ) → q ≡ place → j ≡ key → Has (keys_from 0 (set ks place key)) (q, j)
    put_there q j here is = keys_has (set ks place key) 0 place q j (omega (arith, lt, length-set ks place key)) (get_or-set_same ks place key 0 lt ∙ sym is) (λ z. nz (sym is ∙ z)) (omega (arith, here))

    counts : (q : ℕ) → times q (place ∷ v.claims) ≤ times q (places_from 0 (set ks place key))
    counts q =
        let before = told.claims q in
        dite (ℕ_discrete q place)
        (λ here.
        let one : if◌then◌else◌ {A = ℕ} (eqb q place) 1 0 ≡ 1 = ap (λ b. if◌then◌else◌ {A = ℕ} b 1 0) (eq-eqb q place here) in
        let none = place_free ks 0 place q lt free (omega (arith, here)) in
        let some = place_counted (set ks place key) 0 q key (put_there q key here refl) in
        omega (arith, before, one, none, some))
        (λ apart.
        let zero_more : if◌then◌else◌ {A = ℕ} (eqb q place) 1 0 ≡ 0 = ap (λ b. if◌then◌else◌ {A = ℕ} b 1 0) (ne_eqb q place apart) in
        let same = places_same ks 0 place key q (λ e. apart (omega (arith, e))) in
        omega (arith, before, zero_more, same))

    owned : (q j : ℕ) → Has (keys_from 0 (set ks place key)) (q, j) → times q (place ∷ v.claims) ≢ 0
    owned q j h =
        dite (ℕ_discrete q place)
        (λ here. let one : if◌then◌else◌ {A = ℕ} (eqb q place) 1 0 ≡ 1 = ap (λ b. if◌then◌else◌ {A = ℕ} b 1 0) (eq-eqb q place here) in λ z. absurd (omega (arith, one, z)))
        (λ apart.
        let t = has_keys (set ks place key) 0 q j h in
        let beside : t.1.0 ≢ place = λ e. apart (let at = t.1.2 in omega (arith, at, e)) in
        let before = told.own q j (keys_has ks 0 t.1.0 q j (let less = t.1.1 in omega (arith, less, length-set ks place key)) (sym (get_or-set_other ks place t.1.0 key 0 beside) ∙ t.1.3) t.0 t.1.2) in
        λ z. before (omega (arith, z)))

    pub claim_told : IsTold f ms (set ks place key) vs (after v (Claim place key))
    claim_told = record {
      table = told.table;
      frame = told.frame;
      share = told.share;
      keys = λ q j h. ⊎_elim (λ e. put_there q j (ap (λ y. y.0) e) (ap (λ y. y.1) e)) (λ old. more.keys q j (told.keys q j old)) h;
      values = λ q j c h. more.values q j c (told.values q j c h);
      bits = λ q j n h. more.bits q j n (told.bits q j n h);
      valued = λ q j c h. inr (told.valued q j c h);
      keyed = λ q j n h. inr (told.keyed q j n h);
      claims = counts;
      own = owned;
      to_seal = told.to_seal;
      made = told.made;
    }

  -- a value word that was left at a place
  module _ (place found left : ℕ) (ws : List ℕ) (lk : place < length ks) (lw : place < length ws) (is : get_or ws place 0 ≡ left) (more : IsAtLeast (knows_all f ms [] ks vs) (knows_all f ms [] ks ws)) where
    key_at : (j : ℕ) → Has v.keys (place, j) → get_or ks place 0 ≡ j
    key_at j h = let t = has_keys ks 0 place j (told.keys place j h) in let here : t.1.0 ≡ place = (let at = t.1.2 in omega (arith, at)) in ap (λ y. get_or ks y 0) (sym here) ∙ t.1.3

    pub value_told : IsTold f ms ks ws (after v (Value place found left))
    value_told = record {
      table = told.table;
      frame = told.frame;
      share = told.share;
      keys = told.keys;
      values = λ q j c h. ⊎_elim
          (λ s. let t = said_values place left q j c v.keys s in values_has ks ws 0 place q j c lk lw (key_at j t.1) t.3 (let high = t.2 in let code = t.4 in omega (arith, is, high, code)) (omega (arith, t.0)))
          (λ old. more.values q j c (told.values q j c old)) (has_either (values_said place left v.keys) v.values (q, j, c) h);
      bits = λ q j n h. ⊎_elim
          (λ s. let t = said_bits place left q j n v.keys s in bits_has ks ws 0 place q j n lk lw (key_at j t.1) t.2 (ap (λ (y : ℕ). bit_at y n) is ∙ t.3) (omega (arith, t.0)))
          (λ old. more.bits q j n (told.bits q j n old)) (has_either (bits_said place left v.keys) v.bits (q, j, n) h);
      valued = λ q j c h. ⊎_elim (λ s. let t = said_values place left q j c v.keys s in subst (λ (y : ℕ). Has v.keys (y, j)) (sym t.0) t.1) (told.valued q j c) (has_either (values_said place left v.keys) v.values (q, j, c) h);
      keyed = λ q j n h. ⊎_elim (λ s. let t = said_bits place left q j n v.keys s in subst (λ (y : ℕ). Has v.keys (y, j)) (sym t.0) t.1) (told.keyed q j n) (has_either (bits_said place left v.keys) v.bits (q, j, n) h);
      claims = told.claims;
      own = told.own;
      to_seal = told.to_seal;
      made = told.made;
    }
