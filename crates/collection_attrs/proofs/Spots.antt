-- A receiver is found in the tree of spots, and one more is hung into it.
use Rattle.std.proofs.Common.{◌≡◌, ℕ, zero, suc, ◌/◌, ◌%◌, ◌⊎◌, Bool, true, false, cond, List, [], ◌∷◌, ◌++◌, Some, None, eqb, length, set, slice_get, refl, sym, ap, subst, ◌∙◌, inl, inr, arith}
use Rattle.std.proofs.lemmas.Bool.{cases_lt, eq-eqb, eqb-true}
use Rattle.equation_law.specs.declared.coding.NodeRef.{NodeRef}
use Rattle.collection_attrs.specs.declared.lasts.Spot.{Spot}
use Rattle.collection_attrs.specs.Spots.{IsTree, Leads, below_of, down, here, hung, last_of}

-- ---- ways

-- a way and one step more
pub one_more : (ss : List Spot) {at left to rest : ℕ} → Leads ss at left to rest → (s : Spot) → slice_get ss to ≡ Some s → (below_of s rest ≡ 0 → ⊥) → Leads ss at left (below_of s rest) (rest / 2)
one_more ss here s is some = down s is some here
one_more ss (down t at more w) s is some = down t at more (one_more ss w s is some)

-- the way on from a spot that is another's
pub goes_on : (ss : List Spot) (q : ℕ) {at left i rest : ℕ} → Leads ss at left i rest → (s t : Spot) → slice_get ss at ≡ Some s → slice_get ss i ≡ Some t → t.receiver.0 ≡ q → (s.receiver.0 ≡ q → ⊥) → (below_of s left ≡ 0 → ⊥) × Leads ss (below_of s left) (left / 2) i rest
goes_on ss q here s t is there_is own other =
    let one : s ≡ t = cc in
    absurd (other (ap (λ (x : Spot). x.receiver.0) one ∙ own))
goes_on ss q {at} {left} {i} {rest} (down u at_is some w) s t is there_is own other =
    let one : u ≡ s = cc in
    (subst (λ (x : Spot). below_of x left ≡ 0 → ⊥) one some, subst (λ (x : Spot). Leads ss (below_of x left) (left / 2) i rest) one w)

-- ---- what the spots say

eqb_self : (n : ℕ) → eqb n n ≡ true
eqb_self n = eq-eqb n n refl

pub eqb_other : (a b : ℕ) → (a ≡ b → ⊥) → eqb a b ≡ false
eqb_other a b other = elim (eqb a b) as (λ t. eqb a b ≡ t → t ≡ false) [
  | true ↦ λ e. absurd (other (eqb-true a b e))
  | false ↦ λ e. refl
] refl

-- the only one for a receiver says where its last entry stands
pub said_by : (ss : List Spot) (q : NodeRef) (i : ℕ) (s : Spot) → slice_get ss i ≡ Some s → s.receiver.0 ≡ q.0 → ((j : ℕ) (t : Spot) → slice_get ss j ≡ Some t → t.receiver.0 ≡ q.0 → i ≡ j) → last_of ss q ≡ Some s.last
said_by [] q i s is own only = cc
said_by (x ∷ ss) q zero s is own only =
    let one : x ≡ s = cc in
    let same : eqb x.receiver.0 q.0 ≡ true = eq-eqb x.receiver.0 q.0 (ap (λ (y : Spot). y.receiver.0) one ∙ own) in
    ap (λ (b : Bool). cond b (Some x.last) (last_of ss q)) same ∙ ap (λ (y : Spot). Some y.last) one
said_by (x ∷ ss) q (suc i) s is own only =
    let other : eqb x.receiver.0 q.0 ≡ false = eqb_other x.receiver.0 q.0 (λ e. let at = only 0 x refl e in omega (arith, at)) in
    ap (λ (b : Bool). cond b (Some x.last) (last_of ss q)) other ∙ said_by ss q i s is own (λ j t there_is same. let at = only (suc j) t there_is same in omega (arith, at))

-- and none does where there is none
pub said_by_none : (ss : List Spot) (q : NodeRef) → ((j : ℕ) (t : Spot) → slice_get ss j ≡ Some t → t.receiver.0 ≡ q.0 → ⊥) → last_of ss q ≡ None
said_by_none [] q none = refl
said_by_none (x ∷ ss) q none =
    let other : eqb x.receiver.0 q.0 ≡ false = eqb_other x.receiver.0 q.0 (none 0 x refl) in
    ap (λ (b : Bool). cond b (Some x.last) (last_of ss q)) other ∙ said_by_none ss q (λ j t is same. none (suc j) t is same)

module _ (ss : List Spot) (tree : IsTree ss) (q : NodeRef) (at left : ℕ) (s : Spot) (is : slice_get ss at ≡ Some s) where
  -- where a way ends at the receiver's own spot, that says it
  pub ended_own : s.receiver.0 ≡ q.0 → last_of ss q ≡ Some s.last
  ended_own own = said_by ss q at s is own (λ j t there_is same. tree.one at j s t is there_is (own ∙ sym same))

  -- and where it ends at another's, there is none
  pub ended_other : ((i : ℕ) (t : Spot) → slice_get ss i ≡ Some t → t.receiver.0 ≡ q.0 → (rest : ℕ) × Leads ss at left i rest) → (s.receiver.0 ≡ q.0) ⊎ (below_of s left ≡ 0) → (s.receiver.0 ≡ q.0 → ⊥) → (j : ℕ) (t : Spot) → slice_get ss j ≡ Some t → t.receiver.0 ≡ q.0 → ⊥
  ended_other still (inl own) other j t there_is same = other own
  ended_other still (inr end) other j t there_is same = let w = still j t there_is same in (goes_on ss q.0 w.1 s t is there_is same other).0 end

-- ---- spots that come to have more below them

-- each old one is still at its place, for its receiver, with what stood below it
pub record IsGrown (ss ts : List Spot) : Type 0 where
  pub same : (i : ℕ) (s : Spot) → slice_get ss i ≡ Some s → (t : Spot) × (slice_get ts i ≡ Some t) × (t.receiver.0 ≡ s.receiver.0) × ((left : ℕ) → (below_of s left ≡ 0) ⊎ (below_of t left ≡ below_of s left))

pub leads_on : (ss ts : List Spot) → IsGrown ss ts → {at left to rest : ℕ} → Leads ss at left to rest → Leads ts at left to rest
leads_on ss ts g here = here
leads_on ss ts g {at} {left} {to} {rest} (down s is some w) =
    let t = g.same at s is in
    elim (t.3 left) [
      | inl none ↦ absurd (some none)
      | inr same ↦ down t.0 t.1 (λ none. some (sym same ∙ none)) (subst (λ (k : ℕ). Leads ts k (left / 2) to rest) (sym same) (leads_on ss ts g w))
    ]

-- ---- lists

pub in_front : (xs ys : List Spot) (i : ℕ) (x : Spot) → slice_get xs i ≡ Some x → slice_get (xs ++ ys) i ≡ Some x
in_front [] ys i x is = cc
in_front (z ∷ xs) ys zero x is = is
in_front (z ∷ xs) ys (suc i) x is = in_front xs ys i x is

pub the_last : (xs : List Spot) (x : Spot) → slice_get (xs ++ x ∷ []) (length xs) ≡ Some x
the_last [] x = refl
the_last (z ∷ xs) x = the_last xs x

pub set_here : (xs : List Spot) (k : ℕ) (x y : Spot) → slice_get xs k ≡ Some x → slice_get (set xs k y) k ≡ Some y
set_here [] k x y is = cc
set_here (z ∷ xs) zero x y is = refl
set_here (z ∷ xs) (suc k) x y is = set_here xs k x y is

pub set_there : (xs : List Spot) (k i : ℕ) (y : Spot) → (k ≡ i → ⊥) → slice_get (set xs k y) i ≡ slice_get xs i
set_there [] k i y other = refl
set_there (z ∷ xs) zero zero y other = absurd (other refl)
set_there (z ∷ xs) zero (suc i) y other = refl
set_there (z ∷ xs) (suc k) zero y other = refl
set_there (z ∷ xs) (suc k) (suc i) y other = set_there xs k i y (λ same. other (ap suc same))

pub set_long : (xs : List Spot) (k : ℕ) (y : Spot) → length (set xs k y) ≡ length xs
set_long [] k y = refl
set_long (z ∷ xs) zero y = refl
set_long (z ∷ xs) (suc k) y = ap suc (set_long xs k y)

pub same_or_not : (k i : ℕ) → (k ≡ i) ⊎ (k ≡ i → ⊥)
same_or_not k i = elim (cases_lt i k) [
  | inl u ↦ inr (λ e. omega (arith, u, e))
  | inr u ↦ elim (cases_lt k i) [
    | inl v ↦ inr (λ e. omega (arith, v, e))
    | inr v ↦ inl (omega (arith, u, v))
  ]
]

-- ---- another place for a receiver

module _ (ss : List Spot) (tree : IsTree ss) (at : ℕ) (s y : Spot) (is : slice_get ss at ≡ Some s) (receiver : y.receiver.0 ≡ s.receiver.0) (below : (left : ℕ) → below_of y left ≡ below_of s left) where
  -- a spot behind the change is one before it
  moved_back : (i : ℕ) (t : Spot) → slice_get (set ss at y) i ≡ Some t → (x : Spot) × (slice_get ss i ≡ Some x) × (t.receiver.0 ≡ x.receiver.0) × ((left : ℕ) → below_of t left ≡ below_of x left)
  moved_back i t there_is = elim (same_or_not at i) [
    | inl same ↦
        let here_is : slice_get (set ss at y) i ≡ Some y = subst (λ (k : ℕ). slice_get (set ss at y) k ≡ Some y) same (set_here ss at s y is) in
        let one : y ≡ t = cc in
        (s, ap (slice_get ss) (sym same) ∙ is, ap (λ (x : Spot). x.receiver.0) (sym one) ∙ receiver, λ left. ap (λ (x : Spot). below_of x left) (sym one) ∙ below left)
    | inr other ↦ (t, sym (set_there ss at i y other) ∙ there_is, refl, λ left. refl)
  ]

  moved_grown : IsGrown ss (set ss at y)
  moved_grown = record {
    same = λ i x there_is. elim (same_or_not at i) [
      | inl same ↦
          let before : slice_get ss i ≡ Some s = ap (slice_get ss) (sym same) ∙ is in
          let one : s ≡ x = cc in
          (y, subst (λ (k : ℕ). slice_get (set ss at y) k ≡ Some y) same (set_here ss at s y is), receiver ∙ ap (λ (z : Spot). z.receiver.0) one, λ left. inr (below left ∙ ap (λ (z : Spot). below_of z left) one))
      | inr other ↦ (x, set_there ss at i y other ∙ there_is, refl, λ left. inr refl)
    ];
  }

  pub moved_tree : IsTree (set ss at y)
  moved_tree =
      let few = tree.few in
      let long = set_long ss at y in
      record {
        few = omega (arith, few, long);
        below = λ i t left there_is.
            let x = moved_back i t there_is in
            let same : below_of t left ≡ below_of x.0 left = x.3 left in
            elim (tree.below i x.0 left x.1) [
              | inl none ↦ inl (same ∙ none)
              | inr b ↦ let behind = b.0 in let within = b.1 in inr (omega (arith, same, behind), omega (arith, same, within, long))
            ];
        one = λ i j t u is_t is_u same. let x = moved_back i t is_t in let z = moved_back j u is_u in tree.one i j x.0 z.0 x.1 z.1 (sym x.2 ∙ same ∙ z.2);
        led = λ i t is_t.
            let x = moved_back i t is_t in
            let w = tree.led i x.0 x.1 in
            (w.0, subst (λ (k : ℕ). Leads (set ss at y) 0 k i w.0) (sym x.2) (leads_on ss (set ss at y) moved_grown w.1));
      }

-- what the spots say then
pub moved_says : (ss : List Spot) (at : ℕ) (s y : Spot) (q r : NodeRef) → slice_get ss at ≡ Some s → s.receiver.0 ≡ r.0 → y.receiver.0 ≡ s.receiver.0 → ((j : ℕ) (t : Spot) → slice_get ss j ≡ Some t → t.receiver.0 ≡ r.0 → at ≡ j)
    → last_of (set ss at y) q ≡ cond (eqb r.0 q.0) (Some y.last) (last_of ss q)
moved_says [] at s y q r is own receiver only = cc
moved_says (x ∷ ss) zero s y q r is own receiver only =
    let one : x ≡ s = cc in
    let same : y.receiver.0 ≡ r.0 = receiver ∙ own in
    let first : x.receiver.0 ≡ r.0 = ap (λ (z : Spot). z.receiver.0) one ∙ own in
    ap (λ (k : ℕ). cond (eqb k q.0) (Some y.last) (last_of ss q)) same
    ∙ elim (eqb r.0 q.0) as (λ b. eqb r.0 q.0 ≡ b → cond b (Some y.last) (last_of ss q) ≡ cond b (Some y.last) (cond (eqb x.receiver.0 q.0) (Some x.last) (last_of ss q))) [
      | true ↦ λ e. refl
      | false ↦ λ e. let off : eqb x.receiver.0 q.0 ≡ false = ap (λ (k : ℕ). eqb k q.0) first ∙ e in ap (λ (b : Bool). cond b (Some x.last) (last_of ss q)) (sym off)
    ] refl
moved_says (x ∷ ss) (suc at) s y q r is own receiver only =
    let rest = moved_says ss at s y q r is own receiver (λ j t there_is same. let k = only (suc j) t there_is same in omega (arith, k)) in
    let other : x.receiver.0 ≡ r.0 → ⊥ = (λ e. let k = only 0 x refl e in omega (arith, k)) in
    elim (eqb x.receiver.0 q.0) as (λ b. eqb x.receiver.0 q.0 ≡ b → cond b (Some x.last) (last_of (set ss at y) q) ≡ cond (eqb r.0 q.0) (Some y.last) (cond b (Some x.last) (last_of ss q))) [
      | true ↦ λ e.
          let off : eqb r.0 q.0 ≡ false = eqb_other r.0 q.0 (λ same. other (eqb-true x.receiver.0 q.0 e ∙ sym same)) in
          ap (λ (b : Bool). cond b (Some y.last) (Some x.last)) (sym off)
      | false ↦ λ e. rest
    ] refl

-- ---- one spot more

-- what stands below a spot with one more below it
pub hung_below : (s : Spot) (left place l : ℕ) → below_of s left ≡ 0 → ((below_of s l ≡ 0) × (below_of (hung s left place) l ≡ place)) ⊎ (below_of (hung s left place) l ≡ below_of s l)
hung_below s left place l none = elim (eqb (left % 2) 0) as (λ a. cond a s.even s.odd ≡ 0 → ((below_of s l ≡ 0) × (cond (eqb (l % 2) 0) (cond a place s.even) (cond a s.odd place) ≡ place)) ⊎ (cond (eqb (l % 2) 0) (cond a place s.even) (cond a s.odd place) ≡ below_of s l)) [
  | true ↦ λ off. elim (eqb (l % 2) 0) as (λ b. ((cond b s.even s.odd ≡ 0) × (cond b place s.odd ≡ place)) ⊎ (cond b place s.odd ≡ cond b s.even s.odd)) [ true ↦ inl (off, refl) | false ↦ inr refl ]
  | false ↦ λ off. elim (eqb (l % 2) 0) as (λ b. ((cond b s.even s.odd ≡ 0) × (cond b s.even place ≡ place)) ⊎ (cond b s.even place ≡ cond b s.even s.odd)) [ true ↦ inr refl | false ↦ inl (off, refl) ]
] none

pub hung_here : (s : Spot) (left place : ℕ) → below_of (hung s left place) left ≡ place
hung_here s left place = elim (eqb (left % 2) 0) as (λ a. cond a (cond a place s.even) (cond a s.odd place) ≡ place) [ true ↦ refl | false ↦ refl ]
