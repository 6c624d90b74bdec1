-- What a pass that has the words itself knows after a step.
use Rattle.std.proofs.Common.{◌≡◌, ◌≢◌, ℕ, true, false, ◌≤◌, ◌^◌, ◌-◌, ◌+◌, zero, suc, ◌<◌, List, [], ◌∷◌, length, get_or, set, sym, refl, ap, ◌∙◌, inl, inr, ⊎_elim, ◌⊎◌, subst, arith, Some, le_refl, get_or-set_other, get_or-set_same, length-set}
use Rattle.std.specs.Int.{bit_at}
use Rattle.std.proofs.lemmas.Nat.Bits.{bit_at-zero}
use mathlib.Core.Logic.{dite}
use native.Mathlib.Decide.{ℕ_discrete}
use Rattle.equation_law.specs.declared.coding.Instance.{Instance as CodedInstance}
use Rattle.equation_law.specs.Equations.{equations_of}
use Rattle.equation_law.specs.Names.{Instance}
use Rattle.equation_law.specs.Program.{Program}
use Rattle.equation_law.specs.Values.{Value}
use Rattle.equation_law.specs.Orders.{IsAtMost}
use Rattle.equation_law.proofs.Orders.{at_most_itself}
use Rattle.made_trees.proofs.Following.{follow_itself}
use Rattle.memo_cells.specs.declared.view.View.{View}
use Rattle.memo_cells.specs.declared.view.Frame.{Frame}
use Rattle.memo_cells.specs.Naming.{IsFormed}
use Rattle.memo_cells.specs.Standing.{IsElement, IsFinal, IsRaised, IsSafe, Knows, MaySettle}
use Rattle.memo_cells.specs.Keys.{is_set_word}
use Rattle.memo_cells.specs.Views.{Has, IsAtLeast, IsPassed, IsPlain, knows_all, shown_bits, values_from, word_at}
use Rattle.memo_cells.specs.Words.{AreOrdered, IsCoded}
use Rattle.memo_cells.proofs.Agreeing.{IsOpen}
use Rattle.memo_cells.proofs.Bits.{bits_kept, bits_more}
use Rattle.memo_cells.proofs.Naming.{formed_later, knows_later, stands_once, stands_plain}
use Rattle.memo_cells.proofs.Ordered.{ordered_claim, ordered_words, same_coded, stands_nowhere}
use Rattle.memo_cells.proofs.Showing.{StaysSafe, element_later, final_later, not_both, raised_later, safe_later, settled_later}
use Rattle.memo_cells.proofs.Places.{keys_has, has_keys, keys_more, has_values, values_has, values_kept, values_more, places_more}

pub read_at : (ks : List ℕ) (p d : ℕ) → p < length ks → get_or ks p 0 ≡ get_or ks p d
read_at [] p d lt = absurd (omega arith)
read_at (x ∷ ks) zero d lt = refl
read_at (x ∷ ks) (suc p) d lt = read_at ks p d (omega arith)

module _ (f : Frame) (ms : List CodedInstance) (ts ks vs : List ℕ) (v : View) (is : knows_all f ms ts ks vs ≡ v) where
  pub own_frame : v.frame ≡ Some f
  own_frame = sym (ap (λ y. y.frame) is)

  pub frame_is : (g : Frame) → v.frame ≡ Some g → f ≡ g
  frame_is g t = let e : Some f ≡ Some g = sym own_frame ∙ t in cc

  -- the cells have as many places
  pub size_of : (g : Frame) → v.frame ≡ Some g → f.cells ≡ g.cells
  size_of g t = ap (λ y. y.cells) (frame_is g t)

  pub claimed_now : (p r : ℕ) → p < length ks → r ≡ get_or ks p r → r ≢ 0 → Has v.keys (p, r)
  claimed_now p r lt e n = subst (λ y. Has y.keys (p, r)) is (keys_has ks 0 p p r lt (read_at ks p r lt ∙ sym e) n (omega arith))

  pub free_now : (p r : ℕ) → p < length ks → r ≡ get_or ks p r → r ≡ 0 → (k : ℕ) → ¬ Has v.keys (p, k)
  free_now p r lt e z k has =
      let t = has_keys ks 0 p k (subst (λ y. Has y.keys (p, k)) (sym is) has) in
      let here : t.1.0 ≡ p = omega (arith, t.1.2) in
      t.0 (sym t.1.3 ∙ (ap (λ y. get_or ks y 0) here ∙ (read_at ks p r lt ∙ (sym e ∙ z))))

  -- at a place stands one key
  pub one_now : (p r k : ℕ) → p < length ks → r ≡ get_or ks p r → Has v.keys (p, k) → k ≡ r
  one_now p r k lt e has =
      let t = has_keys ks 0 p k (subst (λ y. Has y.keys (p, k)) (sym is) has) in
      let here : t.1.0 ≡ p = omega (arith, t.1.2) in
      sym t.1.3 ∙ ap (λ y. get_or ks y 0) here ∙ read_at ks p r lt ∙ sym e

  -- a key that is known stands there
  pub key_there : (p k : ℕ) → Has v.keys (p, k) → (k ≢ 0) × (p < length ks) × (get_or ks p 0 ≡ k)
  key_there p k has =
      let t = has_keys ks 0 p k (subst (λ y. Has y.keys (p, k)) (sym is) has) in
      let here : t.1.0 ≡ p = omega (arith, t.1.2) in
      (t.0, omega (arith, here, t.1.1), ap (λ y. get_or ks y 0) (sym here) ∙ t.1.3)

  pub key_once : (p j k : ℕ) → Has v.keys (p, j) → Has v.keys (p, k) → j ≡ k
  key_once p j k g h = sym (key_there p j g).2 ∙ (key_there p k h).2

  -- a place without a word of a set has another key, or none
  pub plain_word : (p : ℕ) → IsPlain v p → p < length ks → is_set_word (get_or ks p 0) ≡ false
  plain_word p plain lt = ap is_set_word (key_there p plain.0 plain.1).2 ∙ plain.2

  -- a settled value word is known with its key
  pub valued_now : (p r k : ℕ) → p < length ks → p < length vs → r ≡ get_or vs p r → 2 ^ 63 ≤ r → is_set_word k ≡ false → Has v.keys (p, k) → Has v.values (p, k, r - 2 ^ 63)
  valued_now p r k lk lv e high plain has =
      let word : get_or vs p 0 ≡ r = read_at vs p r lv ∙ sym e in
      subst (λ y. Has y.values (p, k, r - 2 ^ 63)) is (values_has ks vs 0 p p k (r - 2 ^ 63) lk lv (key_there p k has).2 plain (omega (arith, word, high)) (omega arith))

  -- and none is known where it isn't settled
  pub unset_now : (p r : ℕ) → p < length vs → r ≡ get_or vs p r → r < 2 ^ 63 → (k c : ℕ) → ¬ Has v.values (p, k, c)
  unset_now p r lv e low k c has =
      let t = has_values ks vs 0 p k c (subst (λ y. Has y.values (p, k, c)) (sym is) has) in
      let here : t.0 ≡ p = omega (arith, t.3) in
      let word : get_or vs p 0 ≡ c + 2 ^ 63 = ap (λ y. get_or vs y 0) (sym here) ∙ t.5 in
      let found : get_or vs p 0 ≡ r = read_at vs p r lv ∙ sym e in
      omega (arith, word, found, low)

  -- a value that is known stands there
  pub known_stands : (p r k c : ℕ) → p < length vs → r ≡ get_or vs p r → Has v.values (p, k, c) → r ≡ c + 2 ^ 63
  known_stands p r k c lt e has =
      let t = has_values ks vs 0 p k c (subst (λ y. Has y.values (p, k, c)) (sym is) has) in
      let here : t.0 ≡ p = omega (arith, t.3) in
      let word : get_or vs p 0 ≡ c + 2 ^ 63 = ap (λ y. get_or vs y 0) (sym here) ∙ t.5 in
      e ∙ sym (read_at vs p r lt) ∙ word

  -- a value that is settled now is known
  pub valued_put : (p k c : ℕ) → p < length vs → is_set_word k ≡ false → Has v.keys (p, k) → Has (values_from 0 ks (set vs p (c + 2 ^ 63))) (p, k, c)
  valued_put p k c lv plain has =
      values_has ks (set vs p (c + 2 ^ 63)) 0 p p k c (key_there p k has).1 (omega (arith, lv, length-set vs p (c + 2 ^ 63))) (key_there p k has).2 plain (get_or-set_same vs p (c + 2 ^ 63) 0 lv) (omega arith)

  -- where no settled word changes, and no bit is lost, nothing is unlearnt
  pub kept_words : (us ws : List ℕ) → length ws ≡ length vs → ((i : ℕ) → is_set_word (get_or ks i 0) ≡ false → 2 ^ 63 ≤ get_or vs i 0 → get_or ws i 0 ≡ get_or vs i 0)
      → ((i c : ℕ) → c < shown_bits (get_or ks i 0) → bit_at (get_or vs i 0) c ≡ 1 → bit_at (get_or ws i 0) c ≡ 1) → IsAtLeast v (knows_all f ms us ks ws)
  kept_words us ws long same more =
      subst (λ u. IsAtLeast u (knows_all f ms us ks ws)) is (record { frame = refl; share = refl; keys = λ q j h. h; values = λ q j c h. values_kept ks vs ws q j c long same h; bits = λ q j b h. bits_kept ks vs ws q j b long more h; claims = λ q. le_refl _; made = follow_itself ms })

  -- where no slot was sealed, what is safe goes on to be so
  pub kept_safe : (p : Program) (js ws : List ℕ) → IsAtLeast v (knows_all f ms ts js ws) → StaysSafe p v (knows_all f ms ts js ws)
  kept_safe p js ws more = safe_later p v (knows_all f ms ts js ws) more (λ s h. subst (λ (y : View). Has y.to_seal s) (sym is) h)

  -- the words that are settled are those of a lower assignment's program
  module _ (program : Program) (lk : length ks ≡ f.cells) (lv : length vs ≡ f.cells) (T : Instance → Value) (o : AreOrdered (IsFormed program v) (IsFinal program v T) (IsRaised program v T) (IsElement program v T) f.cells (word_at ks) (word_at vs)) where
    -- a place without a key has no value
    pub free_value : (p : ℕ) → p < f.cells → get_or ks p 0 ≡ 0 → get_or vs p 0 ≡ 0
    free_value p lt free = dite (ℕ_discrete (get_or vs p 0) 0) (λ z. z) (λ nz. absurd (o.keyed p lt nz free))

    pub kept_after : (p k : ℕ) → p < f.cells → get_or ks p 0 ≡ 0 → IsAtLeast v (knows_all f ms ts (set ks p k) vs)
    kept_after p k lt free =
        subst (λ y. IsAtLeast y (knows_all f ms ts (set ks p k) vs)) is
        (record {
          frame = refl;
          share = refl;
          keys = λ q j h. keys_more ks p k q j free h;
          values = λ q j c h. values_more ks vs p k q j c free (λ i l n. o.keyed i (omega (arith, l, lv)) n) h;
          bits = λ q j b h. bits_more ks vs p k q j b (free_value p lt free) h;
          claims = λ q. places_more ks 0 p k q free;
          made = follow_itself ms;
        })

    -- a key is claimed at a free place behind others on its way
    pub ordered_after : (p k : ℕ) → p < f.cells → get_or ks p 0 ≡ 0 → k ≢ 0 → IsFormed program v k → IsPassed f v k p → (let w = knows_all f ms ts (set ks p k) vs in AreOrdered (IsFormed program w) (IsFinal program w T) (IsRaised program w T) (IsElement program w T) f.cells (word_at (set ks p k)) (word_at vs))
    ordered_after p k lt free nz good passed =
        let w : View = knows_all f ms ts (set ks p k) vs in
        let more : IsAtLeast v w = kept_after p k lt free in
        let stay = λ (j : Instance) (c : (equations_of program).circular j ≡ true). at_most_itself (T j) in
        ordered_claim f.cells (IsFormed program v) (IsFormed program w) (IsFinal program v T) (IsFinal program w T) (IsRaised program v T) (IsRaised program w T) (IsElement program v T) (IsElement program w T) (formed_later v w more program)
        (final_later program v w more T T stay (kept_safe program (set ks p k) vs more)) (raised_later program v w more T T stay) (element_later program v w more T T stay)
        (word_at ks) (word_at vs) (word_at (set ks p k)) (word_at vs) p k o lt free nz (formed_later v w more program k good)
        (λ q way. let seen = passed q way in let word = key_there q seen.0 seen.1 in ((λ z. word.0 (sym word.2 ∙ z)), (λ z. seen.2 (sym word.2 ∙ z)))) (get_or-set_same ks p k 0 (omega (arith, lk, lt))) (λ q ne. get_or-set_other ks p q k 0 ne) (λ q. refl)

    -- value words change, and no key word does
    pub words_after : (U : Instance → Value) (us ws : List ℕ) → IsAtLeast v (knows_all f ms us ks ws) → StaysSafe program v (knows_all f ms us ks ws) → ((j : Instance) → (equations_of program).circular j ≡ true → IsAtMost (T j) (U j)) → ((p : ℕ) → p < f.cells → get_or ws p 0 ≢ 0 → get_or ks p 0 ≢ 0)
        → ((p : ℕ) → p < f.cells → is_set_word (get_or ks p 0) ≡ false → get_or ws p 0 ≢ 0 → (get_or ws p 0 ≡ get_or vs p 0) ⊎ IsCoded (IsFinal program (knows_all f ms us ks ws) U) (IsRaised program (knows_all f ms us ks ws) U) (get_or ks p 0) (get_or ws p 0))
        → ((p b : ℕ) → p < f.cells → is_set_word (get_or ks p 0) ≡ true → b < 64 → bit_at (get_or ws p 0) b ≡ 1 → (bit_at (get_or vs p 0) b ≡ 1) ⊎ IsElement program (knows_all f ms us ks ws) U (get_or ks p 0) b)
        → (let w = knows_all f ms us ks ws in AreOrdered (IsFormed program w) (IsFinal program w U) (IsRaised program w U) (IsElement program w U) f.cells (word_at ks) (word_at ws))
    words_after U us ws more safe up key code bit =
        let w : View = knows_all f ms us ks ws in
        let final = final_later program v w more T U up safe in
        let raise = raised_later program v w more T U up in
        let part = element_later program v w more T U up in
        ordered_words f.cells (IsFormed program v) (IsFormed program w) (IsFinal program v T) (IsFinal program w U) (IsRaised program v T) (IsRaised program w U) (IsElement program v T) (IsElement program w U) (formed_later v w more program) final raise part (word_at ks) (word_at vs) (word_at ws) o key
        (λ p lt plain nz. ⊎_elim
        (λ same. same_coded f.cells (IsFormed program v) (IsFormed program w) (IsFinal program v T) (IsFinal program w U) (IsRaised program v T) (IsRaised program w U) (IsElement program v T) (IsElement program w U) (formed_later v w more program) final raise part (word_at ks) (word_at vs) (word_at ws) p o lt plain same nz)
        (λ new. new) (code p lt plain nz))
        (λ p b lt set low e. ⊎_elim (λ old. part (get_or ks p 0) b (o.elements p b lt set low old)) (λ new. new) (bit p b lt set low e))

    -- a value of an undeclared instance is settled at its place
    module _ (p c : ℕ) (lt : p < f.cells) (free : get_or vs p 0 ≡ 0) (may : MaySettle program v p c) where
      abbrev put : List ℕ
      put = set vs p (c + 2 ^ 63)

      put_same : (q : ℕ) → q ≢ p → get_or put q 0 ≡ get_or vs q 0
      put_same q ne = get_or-set_other vs p q (c + 2 ^ 63) 0 ne

      pub kept_value : IsAtLeast v (knows_all f ms ts ks put)
      kept_value = kept_words ts put (length-set vs p (c + 2 ^ 63)) (λ q plain high. put_same q (λ e. let z : get_or vs q 0 ≡ 0 = ap (λ y. get_or vs y 0) e ∙ free in absurd (omega (arith, z, high))))
          (λ q b low one. dite (ℕ_discrete q p) (λ e. let z : bit_at (get_or vs q 0) b ≡ 0 = ap (λ (y : ℕ). bit_at (get_or vs y 0) b) e ∙ ap (λ (y : ℕ). bit_at y b) free ∙ bit_at-zero b in absurd (omega (arith, z, one))) (λ ne. ap (λ (y : ℕ). bit_at y b) (put_same q ne) ∙ one))

      key : (may.key ≢ 0) × (p < length ks) × (get_or ks p 0 ≡ may.key)
      key = key_there p may.key may.here

      pub valued_after : (let w = knows_all f ms ts ks put in AreOrdered (IsFormed program w) (IsFinal program w T) (IsRaised program w T) (IsElement program w T) f.cells (word_at ks) (word_at put))
      valued_after =
          let w : View = knows_all f ms ts ks put in
          words_after T ts put kept_value (kept_safe program ks put kept_value) (λ j e. at_most_itself (T j))
          (λ q lq nz. dite (ℕ_discrete q p) (λ e z. key.0 (sym key.2 ∙ ap (λ y. get_or ks y 0) (sym e) ∙ z)) (λ ne. o.keyed q lq (λ z. nz (put_same q ne ∙ z))))
          (λ q lq plain nz. dite (ℕ_discrete q p)
          (λ e.
          let word : get_or put q 0 ≡ c + 2 ^ 63 = ap (λ y. get_or put y 0) e ∙ get_or-set_same vs p (c + 2 ^ 63) 0 (omega (arith, lv, lt)) in
          let at : may.key ≡ get_or ks q 0 = sym key.2 ∙ ap (λ y. get_or ks y 0) (sym e) in
          let final : IsFinal program w T may.key c = record { settled = settled_later program v w kept_value (λ i j. Knows program v j) (IsSafe program w) may.key c may.settled (λ j k. inl (knows_later v w kept_value program j k)); lower = λ d. absurd (not_both (may.undeclared) d) } in
          inr (inl (c, word, subst (λ (y : ℕ). IsFinal program w T y c) at final)))
          (λ ne. inl (put_same q ne)))
          (λ q b lq set low e. dite (ℕ_discrete q p)
          (λ same. absurd (not_both (stands_plain program v may.key may.settled.of may.settled.stands) (ap is_set_word (sym key.2 ∙ ap (λ y. get_or ks y 0) (sym same)) ∙ set)))
          (λ ne. inl (ap (λ (y : ℕ). bit_at y b) (sym (put_same q ne)) ∙ e)))

    -- the value word of a key of an instance is 0, raised, or that of a settled code
    pub coded_now : (p r k : ℕ) → p < length vs → r ≡ get_or vs p r → r ≢ 0 → Has v.keys (p, k) → is_set_word k ≡ false → IsCoded (IsFinal program v T) (IsRaised program v T) k r
    coded_now p r k lt e nz has plain =
        let word : get_or vs p 0 ≡ r = read_at vs p r lt ∙ sym e in
        let key = key_there p k has in
        subst (λ (y : ℕ × ℕ). IsCoded (IsFinal program v T) (IsRaised program v T) y.0 y.1) (λ i. (key.2 i, word i)) (o.coded p (omega (arith, lt, lv)) (ap is_set_word key.2 ∙ plain) (λ z. nz (sym word ∙ z)))

    -- that of an undeclared instance is 0 or settled
    pub word_high : IsOpen program v.made → (p c r : ℕ) → p < length vs → r ≡ get_or vs p r → r ≢ 0 → MaySettle program v p c → 2 ^ 63 ≤ r
    word_high by p c r lt e nz may =
        ⊎_elim (λ x. omega (arith, x.1))
        (λ x. let same = stands_once v key_once program by may.key x.1.of may.settled.of x.1.stands may.settled.stands in absurd (not_both may.undeclared (subst (λ (i : Instance). (equations_of program).circular i ≡ true) same x.1.is_circular)))
        (coded_now p r may.key lt e nz may.here (stands_plain program v may.key may.settled.of may.settled.stands))

    -- a word that isn't of a set has a mark and 32 bits
    pub word_small : (p r : ℕ) → p < length vs → r ≡ get_or vs p r → IsPlain v p → r < 2 ^ 63 + 2 ^ 32
    word_small p r lt e plain =
        let word : get_or vs p 0 ≡ r = read_at vs p r lt ∙ sym e in
        dite (ℕ_discrete r 0) (λ z. omega (arith, z))
        (λ nz. ⊎_elim (λ x. let small = x.2.settled.code.fits in omega (arith, x.1, word, small)) (λ x. omega (arith, x.0, word))
        (o.coded p (omega (arith, lt, lv)) (plain_word p plain (omega (arith, lt, lv, lk))) (λ z. nz (sym word ∙ z))))

    -- a key stands nowhere where a place on its way is free, behind other keys alone
    pub nowhere_now : (p r k : ℕ) → p < f.cells → r ≡ get_or ks p r → r ≡ 0 → k ≢ 0 → IsPassed f v k p → (q : ℕ) → ¬ Has v.keys (q, k)
    nowhere_now p r k lt e z nz passed q has =
        let key = key_there q k has in
        let free : get_or ks p 0 ≡ 0 = read_at ks p r (omega (arith, lk, lt)) ∙ sym e ∙ z in
        stands_nowhere f.cells (IsFormed program v) (IsFinal program v T) (IsRaised program v T) (IsElement program v T) (word_at ks) (word_at vs) p k o lt free nz
        (λ i way w. let seen = passed i way in seen.2 (sym (key_there i seen.0 seen.1).2 ∙ w)) q (omega (arith, key.1, lk)) key.2
