-- The places at which the cells of instances are seen settled.
use Rattle.std.proofs.Common.{◌≡◌, ℕ, zero, suc, ◌+◌, ◌-◌, ◌/◌, ◌%◌, ◌^◌, ◌<◌, ◌≤◌, ◌⊎◌, inl, inr, ⊎_elim, Bool, true, false, ◌&&◌, ◌||◌, eqb, List, [], ◌∷◌, length, refl, sym, subst, arith}
use Rattle.std.specs.List.{list_any}
use Rattle.std.proofs.lemmas.Bool.{eq-eqb, eqb-true, or_left, or_right}
use Rattle.equation_law.specs.Names.{Attribute, Instance, Query}
use Rattle.equation_law.specs.Program.{Program}
use Rattle.equation_law.specs.Systems.{program_of}
use Rattle.memo_cells.specs.declared.view.Frame.{Frame}
use Rattle.memo_cells.specs.declared.view.View.{View}
use Rattle.memo_cells.specs.Keys.{argument_word, attribute_word, query_word}
use Rattle.memo_cells.specs.Naming.{IsCellOf, IsNamed, StandsFor}
use Rattle.memo_cells.specs.Standing.{IsPassOf, Knows}
use Rattle.memo_cells.specs.Views.{Has, IsAtLeast}
use Rattle.memo_cells.proofs.Counting.{any_has, has_any}
use Rattle.memo_cells.proofs.Firsts.{behind_cell}
use Rattle.memo_cells.proofs.Agreeing.{IsOpen, own_open}
use Rattle.memo_cells.proofs.Naming.{stands_later, stands_once}
use Rattle.caller_pass.specs.Answering.{is_known_at, is_way}

pub both_of : (a b : Bool) → (a && b) ≡ true → (a ≡ true) × (b ≡ true)
both_of true b h = (refl, h)
both_of false b h = cc

pub of_both : (a b : Bool) → a ≡ true → b ≡ true → (a && b) ≡ true
of_both a b x y = (λ i. x i && y i)

pub one_of : (a b : Bool) → (a || b) ≡ true → (a ≡ true) ⊎ (b ≡ true)
one_of true b h = inl refl
one_of false b h = inr h

-- the keys of attributes
first_told : (k a n : ℕ) → a < 2 ^ 16 → n < 2 ^ 32 → k ≡ attribute_word a n → eqb (k / 2 ^ 48) (2 ^ 13) ≡ true
first_told k a n few small is = eq-eqb (k / 2 ^ 48) (2 ^ 13) (omega (arith, few, small, is))

first_tells : (v : View) (k : ℕ) → eqb (k / 2 ^ 48) (2 ^ 13) ≡ true → (a n : ℕ) × IsNamed v k a n []
first_tells v k h =
    let is : k / 2 ^ 48 ≡ 2 ^ 13 = eqb-true (k / 2 ^ 48) (2 ^ 13) h in
    ((k - 2 ^ 61) / 2 ^ 32, k % 2 ^ 32, (omega (arith, is), omega arith, omega (arith, is)))

-- one more argument behind a key that is seen claimed
abbrev is_behind : View → ℕ → ℕ → ℕ × ℕ → Bool
is_behind v n k x = eqb (k / 2 ^ 32) (2 ^ 30 + x.0) && is_way v n x.1

way_first : (v : View) (n k : ℕ) → eqb (k / 2 ^ 48) (2 ^ 13) ≡ true → is_way v n k ≡ true
way_first v zero k h = h
way_first v (suc n) k h = or_left (eqb (k / 2 ^ 48) (2 ^ 13)) (list_any (is_behind v n k) v.keys) h

named_way : (v : View) (n k a m : ℕ) (cs : List ℕ) → IsNamed v k a m cs → length cs ≤ n → is_way v n k ≡ true
named_way v n k a m [] h few = way_first v n k (first_told k a m h.0 h.1 h.2)
named_way v zero k a m (c ∷ cs) h few = absurd (omega (arith, few))
named_way v (suc n) k a m (c ∷ cs) h few =
    let small : h.0 < 2 ^ 29 = h.4 in
    let low : c < 2 ^ 32 = h.5 in
    let is : k ≡ argument_word h.0 c = h.6 in
    or_right (eqb (k / 2 ^ 48) (2 ^ 13)) (list_any (is_behind v n k) v.keys)
    (any_has (is_behind v n k) v.keys (h.0, h.1) h.2 (of_both (eqb (k / 2 ^ 32) (2 ^ 30 + h.0)) (is_way v n h.1) (eq-eqb (k / 2 ^ 32) (2 ^ 30 + h.0) (omega (arith, low, is))) (named_way v n h.1 a m cs h.3 (omega (arith, few)))))

way_named : (v : View) → ((s j : ℕ) → Has v.keys (s, j) → s < 2 ^ 29) → (n k : ℕ) → is_way v n k ≡ true → (a m : ℕ) × (cs : List ℕ) × IsNamed v k a m cs
way_named v within zero k h = let r = first_tells v k h in (r.0, r.1, [], r.2)
way_named v within (suc n) k h = ⊎_elim
    (λ first. let r = first_tells v k first in (r.0, r.1, [], r.2))
    (λ more.
    let x = has_any (is_behind v n k) v.keys more in
    let parts = both_of (eqb (k / 2 ^ 32) (2 ^ 30 + x.0.0)) (is_way v n x.0.1) x.2 in
    let is : k / 2 ^ 32 ≡ 2 ^ 30 + x.0.0 = eqb-true (k / 2 ^ 32) (2 ^ 30 + x.0.0) parts.0 in
    let r = way_named v within n x.0.1 parts.1 in
    (r.0, r.1, k % 2 ^ 32 ∷ r.2, (x.0.0, x.0.1, x.1, r.3, within x.0.0 x.0.1 x.1, omega arith, omega (arith, is))))
    (one_of (eqb (k / 2 ^ 48) (2 ^ 13)) (list_any (is_behind v n k) v.keys) h)

way_later : (v w : View) → IsAtLeast v w → (n k : ℕ) → is_way v n k ≡ true → is_way w n k ≡ true
way_later v w kept zero k h = h
way_later v w kept (suc n) k h = ⊎_elim
    (λ first. way_first w (suc n) k first)
    (λ more.
    let x = has_any (is_behind v n k) v.keys more in
    let parts = both_of (eqb (k / 2 ^ 32) (2 ^ 30 + x.0.0)) (is_way v n x.0.1) x.2 in
    or_right (eqb (k / 2 ^ 48) (2 ^ 13)) (list_any (is_behind w n k) w.keys)
    (any_has (is_behind w n k) w.keys x.0 (kept.keys x.0.0 x.0.1 x.1) (of_both (eqb (k / 2 ^ 32) (2 ^ 30 + x.0.0)) (is_way w n x.0.1) parts.0 (way_later v w kept n x.0.1 parts.1))))
    (one_of (eqb (k / 2 ^ 48) (2 ^ 13)) (list_any (is_behind v n k) v.keys) h)

-- the keys of instances
abbrev is_key : View → ℕ → Bool
is_key v k = eqb (k / 2 ^ 32) (2 ^ 31) || is_way v 3 k

stands_key : (p : Program) (v : View) (k : ℕ) (i : Instance) → StandsFor p v k i → is_key v k ≡ true
stands_key p v k (Attribute a r xs) h =
    let b = behind_cell p v k (Attribute a r xs) h in
    or_right (eqb (k / 2 ^ 32) (2 ^ 31)) (is_way v 3 k) (named_way v 3 k a b.0 b.1 b.2 b.3)
stands_key p v k (Query q) h =
    let low : q < 2 ^ 32 = h.0 in
    let is : k ≡ query_word q = h.1 in
    or_left (eqb (k / 2 ^ 32) (2 ^ 31)) (is_way v 3 k) (eq-eqb (k / 2 ^ 32) (2 ^ 31) (omega (arith, low, is)))

abbrev is_here : View → ℕ → ℕ × ℕ × ℕ → Bool
is_here v q x = eqb x.0 q && is_key v x.1

-- where the cell of an instance is seen settled
pub known_at : (p : Program) (v : View) (i : Instance) (k : Knows p v i) → is_known_at v k.slot ≡ true
unfolding is_known_at
known_at p v i k = any_has (is_here v k.slot) v.values (k.slot, k.key, k.code) k.settled (of_both (eqb k.slot k.slot) (is_key v k.key) (eq-eqb k.slot k.slot refl) (stands_key p v k.key i k.stands))

-- it is so later
pub known_at_later : (v w : View) (q : ℕ) → IsAtLeast v w → is_known_at v q ≡ true → is_known_at w q ≡ true
unfolding is_known_at
known_at_later v w q kept h =
    let x = has_any (is_here v q) v.values h in
    let parts = both_of (eqb x.0.0 q) (is_key v x.0.1) x.2 in
    any_has (is_here w q) w.values x.0 (kept.values x.0.0 x.0.1 x.0.2 x.1) (of_both (eqb x.0.0 q) (is_key w x.0.1) parts.0 (⊎_elim
    (λ query. or_left (eqb (x.0.1 / 2 ^ 32) (2 ^ 31)) (is_way w 3 x.0.1) query)
    (λ way. or_right (eqb (x.0.1 / 2 ^ 32) (2 ^ 31)) (is_way w 3 x.0.1) (way_later v w kept 3 x.0.1 way))
    (one_of (eqb (x.0.1 / 2 ^ 32) (2 ^ 31)) (is_way v 3 x.0.1) parts.1)))

-- a value of this key is seen settled there
record IsValueAt (v : View) (q : ℕ) : Type 0 where
  key : ℕ
  code : ℕ
  settled : Has v.values (q, key, code)
  is : is_key v key ≡ true

value_at : (v : View) (q : ℕ) → is_known_at v q ≡ true → IsValueAt v q
unfolding is_known_at
value_at v q h =
    let x = has_any (is_here v q) v.values h in
    let parts = both_of (eqb x.0.0 q) (is_key v x.0.1) x.2 in
    record { key = x.0.1; code = x.0.2; settled = subst (λ (s : ℕ). Has v.values (s, x.0.1, x.0.2)) (eqb-true x.0.0 q parts.0) x.1; is = parts.1 }

module _ (p : Program) (f : Frame) (v : View) (same : p ≡ program_of f.system.value) (own : IsPassOf f v) where
  key_stands : (s k : ℕ) → Has v.keys (s, k) → is_key v k ≡ true → (i : Instance) × StandsFor p v k i
  key_stands s k there h = ⊎_elim
      (λ query.
      let is : k / 2 ^ 32 ≡ 2 ^ 31 = eqb-true (k / 2 ^ 32) (2 ^ 31) query in
      (Query (k % 2 ^ 32), (omega arith, omega (arith, is))))
      (λ way.
      let r = way_named v (λ t j at. let few = own.few in let within = own.within t j at in omega (arith, few, within)) 3 k way in
      subst (λ (q : Program). (i : Instance) × StandsFor q v k i) (sym same) (own.named s k r.0 r.1 r.2 there r.3))
      (one_of (eqb (k / 2 ^ 32) (2 ^ 31)) (is_way v 3 k) h)

  -- where the place of the cell of an instance, as a later view sees it, is one of these, the instance is known
  pub settled_known : (w : View) (i : Instance) (slot : ℕ) → IsPassOf f w → IsAtLeast v w → IsCellOf p f w i slot → is_known_at v slot ≡ true → Knows p v i
  settled_known w i slot own_then more cell h =
      let x = value_at v slot h in
      let there = own.valued slot x.key x.code x.settled in
      let of = key_stands slot x.key there x.is in
      let word : cell.0 ≡ x.key = own_then.one_key slot cell.0 x.key cell.1.1 (more.keys slot x.key there) in
      let by : IsOpen p w.made = subst (λ (q : Program). IsOpen q w.made) (sym same) (own_open f w [] own_then) in
      let is : of.0 ≡ i = stands_once w own_then.one_key p by x.key of.0 i (stands_later v w more p x.key of.0 of.1) (subst (λ (k : ℕ). StandsFor p w k i) word cell.2) in
      record { key = x.key; stands = subst (λ (j : Instance). StandsFor p v x.key j) is of.1; slot = slot; code = x.code; settled = x.settled }
