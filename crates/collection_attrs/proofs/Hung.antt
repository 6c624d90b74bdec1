-- One spot more is hung into the tree.
use Rattle.std.proofs.Common.{◌≡◌, ℕ, zero, suc, ◌+◌, ◌/◌, ◌%◌, ◌^◌, ◌<◌, ◌⊎◌, Bool, true, false, cond, List, [], ◌∷◌, ◌++◌, Option, Some, eqb, length, set, slice_get, refl, sym, ap, subst, ◌∙◌, inl, inr, arith}
use Rattle.std.proofs.lemmas.Bool.{cases_lt, eqb-true}
use Rattle.std.proofs.lemmas.List.{length-append}
use Rattle.std.proofs.lemmas.Option.{slice_get_within}
use Rattle.attr_rules.proofs.RowLists.{there}
use Rattle.equation_law.specs.declared.coding.NodeRef.{NodeRef}
use Rattle.collection_attrs.specs.declared.lasts.Spot.{Spot}
use Rattle.collection_attrs.specs.Spots.{IsTree, Leads, below_of, here, hung, last_of}
use Rattle.collection_attrs.proofs.Spots.{IsGrown, eqb_other, hung_below, hung_here, in_front, leads_on, one_more, same_or_not, set_here, set_long, set_there, the_last}

-- ---- what the spots say

-- another spot in one's place, for the same receiver and with the same place
set_says : (xs : List Spot) (at : ℕ) (s y : Spot) (q : NodeRef) → slice_get xs at ≡ Some s → y.receiver ≡ s.receiver → y.last ≡ s.last → last_of (set xs at y) q ≡ last_of xs q
set_says [] at s y q is receiver last = cc
set_says (x ∷ xs) zero s y q is receiver last =
    let one : x ≡ s = cc in
    (λ i. cond (eqb (receiver i).0 q.0) (Some (last i)) (last_of xs q)) ∙ ap (λ (z : Spot). cond (eqb z.receiver.0 q.0) (Some z.last) (last_of xs q)) (sym one)
set_says (x ∷ xs) (suc at) s y q is receiver last = ap (λ (o : Option ℕ). cond (eqb x.receiver.0 q.0) (Some x.last) o) (set_says xs at s y q is receiver last)

-- one more behind the others, for a receiver that had none
pushed_says : (ss : List Spot) (new : Spot) (q : NodeRef) → ((j : ℕ) (t : Spot) → slice_get ss j ≡ Some t → t.receiver.0 ≡ new.receiver.0 → ⊥) → last_of (ss ++ new ∷ []) q ≡ cond (eqb new.receiver.0 q.0) (Some new.last) (last_of ss q)
pushed_says [] new q fresh = refl
pushed_says (x ∷ ss) new q fresh =
    let rest = pushed_says ss new q (λ j t is same. fresh (suc j) t is same) in
    elim (eqb x.receiver.0 q.0) as (λ b. eqb x.receiver.0 q.0 ≡ b → cond b (Some x.last) (last_of (ss ++ new ∷ []) q) ≡ cond (eqb new.receiver.0 q.0) (Some new.last) (cond b (Some x.last) (last_of ss q))) [
      | true ↦ λ e.
          let off : eqb new.receiver.0 q.0 ≡ false = eqb_other new.receiver.0 q.0 (λ same. fresh 0 x refl (eqb-true x.receiver.0 q.0 e ∙ sym same)) in
          ap (λ (b : Bool). cond b (Some new.last) (Some x.last)) (sym off)
      | false ↦ λ e. rest
    ] refl

-- ---- the first spot

pub first_tree : (new : Spot) → ((l : ℕ) → below_of new l ≡ 0) → IsTree (new ∷ [])
first_tree new bare = record {
  few = omega arith;
  below = λ i s left is. elim (cases_lt 0 i) [
    | inl u ↦ (let within = slice_get_within (new ∷ []) i s is in absurd (omega (arith, u, within)))
    | inr u ↦ (let first : 0 ≡ i = omega (arith, u) in let before : slice_get (new ∷ []) 0 ≡ Some s = ap (slice_get (new ∷ [])) first ∙ is in let one : new ≡ s = cc in inl (ap (λ (x : Spot). below_of x left) (sym one) ∙ bare left))
  ];
  one = λ i j s t is_s is_t same. let a = slice_get_within (new ∷ []) i s is_s in let b = slice_get_within (new ∷ []) j t is_t in omega (arith, a, b);
  led = λ i s is.
      let within = slice_get_within (new ∷ []) i s is in
      let first : 0 ≡ i = omega (arith, within) in
      (s.receiver.0, subst (λ (k : ℕ). Leads (new ∷ []) 0 s.receiver.0 k s.receiver.0) first here);
}

-- ---- a spot below another

module _ (ss : List Spot) (tree : IsTree ss) (at left : ℕ) (s new : Spot) (is : slice_get ss at ≡ Some s) (end : below_of s left ≡ 0) (led_here : Leads ss 0 new.receiver.0 at left)
    (fresh : (j : ℕ) (t : Spot) → slice_get ss j ≡ Some t → t.receiver.0 ≡ new.receiver.0 → ⊥) (bare : (l : ℕ) → below_of new l ≡ 0) (few_more : length ss + 1 < 2 ^ 32) where
  abbrev y : Spot
  y = hung s left (length ss)

  abbrev pub ts : List Spot
  ts = set (ss ++ new ∷ []) at y

  at_within : at < length ss
  at_within = slice_get_within ss at s is

  y_is : slice_get ts at ≡ Some y
  y_is = set_here (ss ++ new ∷ []) at s y (in_front ss (new ∷ []) at s is)

  y_receiver : y.receiver ≡ s.receiver
  y_receiver = refl

  long : length ts ≡ length ss + 1
  long = set_long (ss ++ new ∷ []) at y ∙ length-append ss (new ∷ [])

  -- a spot is the new one, or one that was there
  data Back (i : ℕ) (t : Spot) : Type 0 where
    the_new : length ss ≡ i → new ≡ t → Back i t
    old : (x : Spot) → slice_get ss i ≡ Some x → t.receiver.0 ≡ x.receiver.0 → ((l : ℕ) → (below_of t l ≡ length ss) ⊎ (below_of t l ≡ below_of x l)) → Back i t

  back : (i : ℕ) (t : Spot) → slice_get ts i ≡ Some t → Back i t
  back i t there_is = elim (same_or_not at i) [
    | inl same ↦
        let here_is : slice_get ts i ≡ Some y = subst (λ (k : ℕ). slice_get ts k ≡ Some y) same y_is in
        let one : y ≡ t = cc in
        old s (ap (slice_get ss) (sym same) ∙ is) (ap (λ (x : Spot). x.receiver.0) (sym one) ∙ ap (λ (n : NodeRef). n.0) y_receiver)
        (λ l. elim (hung_below s left (length ss) l end) [
          | inl h ↦ inl (ap (λ (x : Spot). below_of x l) (sym one) ∙ h.1)
          | inr h ↦ inr (ap (λ (x : Spot). below_of x l) (sym one) ∙ h)
        ])
    | inr other ↦
        let before : slice_get (ss ++ new ∷ []) i ≡ Some t = sym (set_there (ss ++ new ∷ []) at i y other) ∙ there_is in
        elim (cases_lt i (length ss)) [
          | inl u ↦
              let x = there ss i u in
              let there_too : slice_get (ss ++ new ∷ []) i ≡ Some x.0 = in_front ss (new ∷ []) i x.0 x.1 in
              let one : x.0 ≡ t = cc in
              old t (x.1 ∙ ap (λ (z : Spot). Some z) one) refl (λ l. inr refl)
          | inr u ↦
              let within = slice_get_within (ss ++ new ∷ []) i t before in
              let last : length ss ≡ i = omega (arith, u, within, length-append ss (new ∷ [])) in
              let new_is : slice_get (ss ++ new ∷ []) i ≡ Some new = ap (slice_get (ss ++ new ∷ [])) (sym last) ∙ the_last ss new in
              let one : new ≡ t = cc in
              the_new last one
        ]
  ]

  grown : IsGrown ss ts
  grown = record {
    same = λ i x there_is. elim (same_or_not at i) [
      | inl same ↦
          let before : slice_get ss i ≡ Some s = ap (slice_get ss) (sym same) ∙ is in
          let one : s ≡ x = cc in (
            y,
            subst (λ (k : ℕ). slice_get ts k ≡ Some y) same y_is,
            ap (λ (n : NodeRef). n.0) (y_receiver ∙ ap (λ (z : Spot). z.receiver) one),
            λ l. elim (hung_below s left (length ss) l end) [
              | inl h ↦ inl (ap (λ (z : Spot). below_of z l) (sym one) ∙ h.0)
              | inr h ↦ inr (h ∙ ap (λ (z : Spot). below_of z l) one)
            ],
          )
      | inr other ↦ (x, set_there (ss ++ new ∷ []) at i y other ∙ in_front ss (new ∷ []) i x there_is, refl, λ l. inr refl)
    ];
  }

  below_for : (i : ℕ) (t : Spot) (l : ℕ) → Back i t → (below_of t l ≡ 0) ⊎ ((i < below_of t l) × (below_of t l < length ts))
  below_for i t l (the_new last one) = inl (ap (λ (x : Spot). below_of x l) (sym one) ∙ bare l)
  below_for i t l (old x there_is receiver below) = elim (below l) [
    | inl h ↦ let within = slice_get_within ss i x there_is in inr (omega (arith, h, within), omega (arith, h, long))
    | inr h ↦ elim (tree.below i x l there_is) [
      | inl none ↦ inl (h ∙ none)
      | inr b ↦ let behind = b.0 in let within = b.1 in inr (omega (arith, h, behind), omega (arith, h, within, long))
    ]
  ]

  one_for : (i j : ℕ) (t u : Spot) → Back i t → Back j u → t.receiver.0 ≡ u.receiver.0 → i ≡ j
  one_for i j t u (the_new a b) (the_new c d) same = sym a ∙ c
  one_for i j t u (the_new a b) (old x there_is receiver below) same = absurd (fresh j x there_is (sym receiver ∙ sym same ∙ ap (λ (z : Spot). z.receiver.0) (sym b)))
  one_for i j t u (old x there_is receiver below) (the_new c d) same = absurd (fresh i x there_is (sym receiver ∙ same ∙ ap (λ (z : Spot). z.receiver.0) (sym d)))
  one_for i j t u (old x is_x rx bx) (old z is_z rz bz) same = tree.one i j x z is_x is_z (sym rx ∙ same ∙ rz)

  led_for : (i : ℕ) (t : Spot) → Back i t → (rest : ℕ) × Leads ts 0 t.receiver.0 i rest
  led_for i t (old x there_is receiver below) =
      let w = tree.led i x there_is in
      (w.0, subst (λ (k : ℕ). Leads ts 0 k i w.0) (sym receiver) (leads_on ss ts grown w.1))
  led_for i t (the_new last one) =
      let place : below_of y left ≡ length ss = hung_here s left (length ss) in
      let w = one_more ts (leads_on ss ts grown led_here) y y_is (λ none. omega (arith, none, place, at_within)) in
      (left / 2, subst (λ (z : Spot). Leads ts 0 z.receiver.0 i (left / 2)) one (subst (λ (k : ℕ). Leads ts 0 new.receiver.0 k (left / 2)) (place ∙ last) w))

  pub hung_tree : IsTree ts
  hung_tree = record {
    few = omega (arith, few_more, long);
    below = λ i t l there_is. below_for i t l (back i t there_is);
    one = λ i j t u is_t is_u same. one_for i j t u (back i t is_t) (back j u is_u) same;
    led = λ i t is_t. led_for i t (back i t is_t);
  }

  pub hung_says : (q : NodeRef) → last_of ts q ≡ cond (eqb new.receiver.0 q.0) (Some new.last) (last_of ss q)
  hung_says q = set_says (ss ++ new ∷ []) at s y q (in_front ss (new ∷ []) at s is) y_receiver refl ∙ pushed_says ss new q fresh

-- ---- a spot that is new

both_ways : (b : Bool) (n : ℕ) → cond b n n ≡ n
both_ways true n = refl
both_ways false n = refl

pub bare_below : (n : NodeRef) (last l : ℕ) → below_of (record { receiver = n; last = last; even = 0; odd = 0 }) l ≡ 0
bare_below n last l = both_ways (eqb (l % 2) 0) 0

-- among no others
pub alone_tree : (ss : List Spot) (n : NodeRef) (last : ℕ) → length ss ≡ 0 → IsTree (ss ++ record { receiver = n; last = last; even = 0; odd = 0 } ∷ [])
alone_tree [] n last none = first_tree (record { receiver = n; last = last; even = 0; odd = 0 }) (bare_below n last)
alone_tree (x ∷ ss) n last none = absurd (omega (arith, none))
