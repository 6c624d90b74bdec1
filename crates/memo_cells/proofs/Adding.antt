-- What setting bits tells a pass that has the words itself.
use Rattle.std.proofs.Common.{◌≡◌, ◌≢◌, ℕ, true, false, ◌+◌, ◌*◌, ◌<◌, inl, inr, ⊎_elim, ◌⊎◌, List, [], length, get_or, set, refl, sym, ap, ◌∙◌, subst, arith, get_or-set_same, get_or-set_other, length-set}
use mathlib.Core.Logic.{dite}
use native.Mathlib.Decide.{ℕ_discrete}
use Rattle.std.specs.Int.{bit_at}
use Rattle.std.specs.Int.Bits.{bit_or}
use Rattle.std.proofs.lemmas.Nat.Bits.{bit_at-lt, bit_at-pow_other, bit_at-zero, bit_at_lowest, bit_at_or}
use Rattle.solutions.proofs.Lower.{lower_below}
use Rattle.equation_law.specs.declared.coding.Instance.{Instance as CodedInstance}
use Rattle.equation_law.specs.Equations.{equations_of, kind_in}
use Rattle.equation_law.specs.Loops.{fits_in, join_in, order_in}
use Rattle.equation_law.specs.Names.{Instance}
use Rattle.equation_law.specs.Orders.{IsAtMost}
use Rattle.equation_law.specs.Program.{Program}
use Rattle.equation_law.specs.Systems.{program_of}
use Rattle.equation_law.specs.Values.{truth}
use Rattle.equation_law.proofs.Solution.{are_joins, are_rising}
use Rattle.memo_cells.specs.declared.view.Frame.{Frame}
use Rattle.memo_cells.specs.declared.view.View.{View}
use Rattle.memo_cells.specs.Keys.{is_set_word}
use Rattle.memo_cells.specs.declared.learning.Step.TheVariants.{Value as LeftValue}
use Rattle.memo_cells.specs.Learning.{after}
use Rattle.memo_cells.specs.Standing.{AreWords, IsElement, IsPassOf, IsRaised, IsTold, MayAdd, MayRaiseTruth}
use Rattle.memo_cells.specs.Steps.{BitsAdded}
use Rattle.memo_cells.specs.Views.{IsAtLeast, knows_all}
use Rattle.memo_cells.proofs.Alone.{coded_now, kept_safe, kept_words, key_there, read_at, words_after}
use Rattle.memo_cells.proofs.Facts.{bits_seen, inside, least, same, value_now, value_own}
use Rattle.memo_cells.proofs.Lifting.{may_add_later, may_raise_truth_later}
use Rattle.memo_cells.proofs.Meaning.{by_words, one_there, settled_shown, shown_at_most, true_code}
use Rattle.memo_cells.proofs.More.{at_least_itself}
use Rattle.memo_cells.proofs.Naming.{stands_later, stands_once, stands_plain, word_later, word_set}
use Rattle.memo_cells.proofs.Raising.{Higher, higher}
use Rattle.memo_cells.proofs.Showing.{has_code_more, not_both}

-- a bit of two words
pub or_left_bit : (a b n : ℕ) → bit_at a n ≡ 1 → bit_at (bit_or a b) n ≡ 1
or_left_bit a b n e = let both = bit_at_or a b n in let low = bit_at-lt b n in omega (arith, both, low, e)

pub or_right_bit : (a b n : ℕ) → bit_at b n ≡ 1 → bit_at (bit_or a b) n ≡ 1
or_right_bit a b n e = let both = bit_at_or a b n in let low = bit_at-lt a n in omega (arith, both, low, e)

pub or_new_bit : (a b n : ℕ) → bit_at (bit_or a b) n ≡ 1 → bit_at a n ≢ 1 → bit_at b n ≡ 1
or_new_bit a b n e out = let both = bit_at_or a b n in let low = bit_at-lt a n in omega (arith, both, low, e, out)

module _ (f : Frame) (ms : List CodedInstance) (ts ks vs : List ℕ) (lk : length ks ≡ f.cells) (lv : length vs ≡ f.cells) (o : AreWords f ms ts ks vs) (place : ℕ) (lt : place < f.cells) where
  abbrev p : Program
  p = program_of f.system.value

  abbrev v : View
  v = knows_all f ms ts ks vs

  -- another word at this place
  module _ (word : ℕ) where
    abbrev put : List ℕ
    put = set vs place word

    pub put_same : (q : ℕ) → q ≢ place → get_or put q 0 ≡ get_or vs q 0
    put_same q ne = get_or-set_other vs place q word 0 ne

    pub put_here : get_or put place 0 ≡ word
    put_here = get_or-set_same vs place word 0 (omega (arith, lv, lt))

  -- bits of a word of a set
  module _ (bits word : ℕ) (may : MayAdd p v place bits) (is_word : word ≡ bit_or (get_or vs place 0) bits) where
    grown : Higher p o.values may.of may.value
    grown = higher p (are_rising p) (are_joins p) v o.values o.lower (λ j c. shown_at_most f ms ts ks vs lk lv o j (kind_in p j) refl c) (settled_shown f ms ts ks vs lk lv o) (by_words f ms ts ks vs lk lv o) may.of may.value may.may

    key : (may.key ≢ 0) × (place < length ks) × (get_or ks place 0 ≡ may.key)
    key = key_there f ms ts ks vs v refl place may.key may.here

    at_key : (q : ℕ) → q ≡ place → get_or ks q 0 ≡ may.key
    at_key q e = ap (λ y. get_or ks y 0) e ∙ key.2

    is_set : (q : ℕ) → q ≡ place → is_set_word (get_or ks q 0) ≡ true
    is_set q e = ap is_set_word (at_key q e) ∙ word_set p v may.key may.of may.word may.is

    old_bit : (n : ℕ) → bit_at (get_or vs place 0) n ≡ 1 → bit_at word n ≡ 1
    old_bit n e = ap (λ (y : ℕ). bit_at y n) is_word ∙ or_left_bit (get_or vs place 0) bits n e

    pub add_more : IsAtLeast v (knows_all f ms ts ks (put word))
    add_more = kept_words f ms ts ks vs v refl ts (put word) (length-set vs place word)
        (λ q plain high. dite (ℕ_discrete q place) (λ e. absurd (not_both plain (is_set q e))) (λ ne. put_same word q ne))
        (λ q n low one. dite (ℕ_discrete q place)
        (λ e. ap (λ (y : ℕ). bit_at (get_or (put word) y 0) n) e ∙ ap (λ (y : ℕ). bit_at y n) (put_here word) ∙ old_bit n (ap (λ (y : ℕ). bit_at (get_or vs y 0) n) (sym e) ∙ one)) (λ ne. ap (λ (y : ℕ). bit_at y n) (put_same word q ne) ∙ one))

    new_bit : (n : ℕ) → n < 64 → bit_at word n ≡ 1 → (bit_at (get_or vs place 0) n ≡ 1) ⊎ IsElement p (knows_all f ms ts ks (put word)) grown.values may.key n
    new_bit n low e = dite (ℕ_discrete (bit_at (get_or vs place 0) n) 1) inl
        (λ out.
        let one : bit_at bits n ≡ 1 = or_new_bit (get_or vs place 0) bits n (ap (λ (y : ℕ). bit_at y n) (sym is_word) ∙ e) out in
        let in_value = (may.elements n low one).1 in
        inr
        (record {
          of = may.of;
          word = may.word;
          key = word_later v (knows_all f ms ts ks (put word)) add_more p may.key may.of may.word may.is;
          part = ⊎_elim (λ a. inl (a.0, has_code_more p ms (kind_in p may.of) may.value (grown.values may.of) (64 * may.word + n) (grown.reaches a.0) in_value)) (λ a. inr (a.0, (may.value, a.1, in_value))) may.may;
          code = (may.elements n low one).0;
        }))

    pub add_words : AreWords f ms ts ks (put word)
    add_words = record {
      bare = o.bare;
      nothing = o.nothing;
      trees = o.trees;
      values = grown.values;
      lower = grown.lower;
      ordered = words_after f ms ts ks vs v refl p lk lv o.values o.ordered grown.values ts (put word) add_more (kept_safe f ms ts ks vs v refl p ks (put word) add_more) grown.up
          (λ q lq nz. dite (ℕ_discrete q place) (λ e z. key.0 (sym (at_key q e) ∙ z)) (λ ne. o.ordered.keyed q lq (λ z. nz (put_same word q ne ∙ z))))
          (λ q lq plain nz. dite (ℕ_discrete q place) (λ e. absurd (not_both plain (is_set q e))) (λ ne. inl (put_same word q ne)))
          (λ q n lq st low e. dite (ℕ_discrete q place)
          (λ here. ⊎_elim (λ h. inl (ap (λ (y : ℕ). bit_at (get_or vs y 0) n) here ∙ h)) (λ h. inr (subst (λ (y : ℕ). IsElement p (knows_all f ms ts ks (put word)) grown.values y n) (sym (at_key q here)) h))
          (new_bit n low (ap (λ (y : ℕ). bit_at y n) (sym (put_here word)) ∙ ap (λ (y : ℕ). bit_at (get_or (put word) y 0) n) (sym here) ∙ e)))
          (λ ne. inl (ap (λ (y : ℕ). bit_at y n) (sym (put_same word q ne)) ∙ e)));
    }

  -- a circular instance that becomes true
  module _ (may : MayRaiseTruth p v place) where
    grown_true : Higher p o.values may.of may.value
    grown_true = higher p (are_rising p) (are_joins p) v o.values o.lower (λ j c. shown_at_most f ms ts ks vs lk lv o j (kind_in p j) refl c) (settled_shown f ms ts ks vs lk lv o) (by_words f ms ts ks vs lk lv o) may.of may.value (inl (may.is_circular, may.comes))

    is_true : truth (grown_true.values may.of) ≡ true
    is_true = (grown_true.reaches may.is_circular).in_truth may.is_true

    true_key : (may.key ≢ 0) × (place < length ks) × (get_or ks place 0 ≡ may.key)
    true_key = key_there f ms ts ks vs v refl place may.key may.here

    at_true_key : (q : ℕ) → q ≡ place → get_or ks q 0 ≡ may.key
    at_true_key q e = ap (λ y. get_or ks y 0) e ∙ true_key.2

    is_plain : is_set_word may.key ≡ false
    is_plain = stands_plain p v may.key may.of may.stands

    -- where nothing stands yet
    module _ (free : get_or vs place 0 ≡ 0) where
      at_free : (q n : ℕ) → q ≡ place → bit_at (get_or vs q 0) n ≡ 0
      at_free q n e = ap (λ (y : ℕ). bit_at (get_or vs y 0) n) e ∙ ap (λ (y : ℕ). bit_at y n) free ∙ bit_at-zero n

      pub true_more : IsAtLeast v (knows_all f ms ts ks (put 1))
      true_more = kept_words f ms ts ks vs v refl ts (put 1) (length-set vs place 1)
          (λ q plain high. put_same 1 q (λ e. let z : get_or vs q 0 ≡ 0 = ap (λ y. get_or vs y 0) e ∙ free in absurd (omega (arith, z, high))))
          (λ q n low one. ap (λ (y : ℕ). bit_at y n) (put_same 1 q (λ e. let z = at_free q n e in absurd (omega (arith, z, one)))) ∙ one)

      pub true_words : AreWords f ms ts ks (put 1)
      true_words = record {
        bare = o.bare;
        nothing = o.nothing;
        trees = o.trees;
        values = grown_true.values;
        lower = grown_true.lower;
        ordered = words_after f ms ts ks vs v refl p lk lv o.values o.ordered grown_true.values ts (put 1) true_more (kept_safe f ms ts ks vs v refl p ks (put 1) true_more) grown_true.up
            (λ q lq nz. dite (ℕ_discrete q place) (λ e z. true_key.0 (sym (at_true_key q e) ∙ z)) (λ ne. o.ordered.keyed q lq (λ z. nz (put_same 1 q ne ∙ z))))
            (λ q lq plain nz. dite (ℕ_discrete q place)
            (λ e.
            let raised : IsRaised p (knows_all f ms ts ks (put 1)) grown_true.values may.key
            = record { of = may.of; stands = stands_later v (knows_all f ms ts ks (put 1)) true_more p may.key may.of may.stands; is_circular = may.is_circular; kind = may.kind; is_true = is_true } in
            inr (inr (ap (λ (y : ℕ). get_or (put 1) y 0) e ∙ put_here 1, subst (λ (y : ℕ). IsRaised p (knows_all f ms ts ks (put 1)) grown_true.values y) (sym (at_true_key q e)) raised))
            )
            (λ ne. inl (put_same 1 q ne)))
            (λ q n lq st low e. dite (ℕ_discrete q place) (λ here. absurd (not_both is_plain (ap is_set_word (sym (at_true_key q here)) ∙ st))) (λ ne. inl (ap (λ (y : ℕ). bit_at y n) (sym (put_same 1 q ne)) ∙ e)));
      }

    -- where it is raised or sealed already, it is true
    pub true_already : get_or vs place 0 ≢ 0 → bit_at (get_or vs place 0) 0 ≡ 1
    true_already nz =
        let low = bit_at_lowest (get_or vs place 0) in
        ⊎_elim
        (λ x.
        let of : x.2.settled.of ≡ may.of = stands_once v (one_there f ms ts ks vs lk lv o) p (by_words f ms ts ks vs lk lv o) may.key x.2.settled.of may.of x.2.settled.stands may.stands in
        let circular = ap (equations_of p).circular of ∙ may.is_circular in
        let least : IsAtMost (grown_true.values x.2.settled.of) x.2.settled.code.value
        = lower_below (equations_of p) (order_in p) (fits_in p) (join_in p) (are_rising p) (are_joins p) grown_true.values grown_true.lower x.2.settled.of x.2.settled.code.value circular x.2.settled.code.has in
        let yes = least.in_truth (subst (λ (j : Instance). truth (grown_true.values j) ≡ true) (sym of) is_true) in
        let one : x.0 ≡ 1 = true_code p ms (by_words f ms ts ks vs lk lv o) x.2.settled.of x.0 x.2.settled.code (ap (kind_in p) of ∙ may.kind) yes in
        omega (arith, low, one, x.1)
        )
        (λ x. omega (arith, low, x.0))
        (coded_now f ms ts ks vs v refl p lk lv o.values o.ordered place (get_or vs place 0) may.key (omega (arith, lv, lt)) (read_at vs place (get_or vs place 0) (omega (arith, lv, lt))) nz may.here is_plain)

-- one bit of 1
pub bit_of_one : (n : ℕ) → bit_at 1 n ≡ 1 → n ≡ 0
bit_of_one n e = dite (ℕ_discrete n 0) (λ z. z) (λ nz. let none = bit_at-pow_other 0 n nz in absurd (omega (arith, none, e)))

-- as a pass sees it whose words these are
module _ (f : Frame) (ms : List CodedInstance) (ks vs : List ℕ) (lk : length ks ≡ f.cells) (lv : length vs ≡ f.cells) (o : AreWords f ms [] ks vs) (v : View) (told : IsTold f ms ks vs v) (g : Frame) (own : IsPassOf g v) (place : ℕ) (lt : place < g.cells) where
  abbrev same_frame : f ≡ g
  same_frame = same f ms ks vs lk lv o v told g own place lt

  there : place < f.cells
  there = inside f ms ks vs lk lv o v told g own place lt

  abbrev all : View
  all = knows_all f ms [] ks vs

  more_known : IsAtLeast v all
  more_known = least f ms ks vs lk lv o v told g own place lt

  found_there : (found : ℕ) → found ≡ get_or vs place found → found ≡ get_or vs place 0
  found_there found e = e ∙ sym (read_at vs place found (omega (arith, there, lv)))

  module _ (bits found word : ℕ) (e : found ≡ get_or vs place found) (is_word : word ≡ bit_or found bits) (may : MayAdd (program_of g.system.value) v place bits) where
    its : MayAdd (program_of f.system.value) all place bits
    its = may_add_later (program_of f.system.value) v all more_known place bits (subst (λ (h : Frame). MayAdd (program_of h.system.value) v place bits) (sym same_frame) may)

    at_word : word ≡ bit_or (get_or vs place 0) bits
    at_word = is_word ∙ ap (λ (y : ℕ). bit_or y bits) (found_there found e)

    abbrev after_add : View
    after_add = after v (LeftValue place found word)

    pub added_words : AreWords f ms [] ks (set vs place word)
    added_words = add_words f ms [] ks vs lk lv o place there bits word its at_word

    pub added_now : IsTold f ms ks (set vs place word) after_add
    added_now = value_now f ms ks vs lk lv o v told g own place lt found word (set vs place word) (length-set vs place word ∙ lv) added_words (add_more f ms [] ks vs lk lv o place there bits word its at_word) (put_here f ms [] ks vs lk lv o place there word)

    pub added_own : IsPassOf g after_add
    added_own = value_own f ms ks vs lk lv o v told g own place lt found word (set vs place word) (length-set vs place word ∙ lv) added_words (add_more f ms [] ks vs lk lv o place there bits word its at_word) (put_here f ms [] ks vs lk lv o place there word)

    pub added_seen : BitsAdded (program_of g.system.value) v after_add place bits word
    added_seen = record {
      seen = bits_seen f ms ks vs lk lv o v told g own place lt found word (set vs place word) (length-set vs place word ∙ lv) added_words (add_more f ms [] ks vs lk lv o place there bits word its at_word) (put_here f ms [] ks vs lk lv o place there word);
      added = λ n b. ap (λ (y : ℕ). bit_at y n) is_word ∙ or_right_bit found bits n b;
    }

  module _ (found left : ℕ) (e : found ≡ get_or vs place found) (may : MayRaiseTruth (program_of g.system.value) v place) where
    true_its : MayRaiseTruth (program_of f.system.value) all place
    true_its = may_raise_truth_later (program_of f.system.value) v all more_known place (subst (λ (h : Frame). MayRaiseTruth (program_of h.system.value) v place) (sym same_frame) may)

    abbrev after_true : View
    after_true = after v (LeftValue place found left)

    module _ (z : found ≡ 0) (is : left ≡ 1) where
      unset_now : get_or vs place 0 ≡ 0
      unset_now = sym (found_there found e) ∙ z

      pub raised_words : AreWords f ms [] ks (set vs place left)
      raised_words = subst (λ (y : ℕ). AreWords f ms [] ks (set vs place y)) (sym is) (true_words f ms [] ks vs lk lv o place there true_its unset_now)

      raised_more : IsAtLeast all (knows_all f ms [] ks (set vs place left))
      raised_more = subst (λ (y : ℕ). IsAtLeast all (knows_all f ms [] ks (set vs place y))) (sym is) (true_more f ms [] ks vs lk lv o place there true_its unset_now)

      pub raised_now : IsTold f ms ks (set vs place left) after_true
      raised_now = value_now f ms ks vs lk lv o v told g own place lt found left (set vs place left) (length-set vs place left ∙ lv) raised_words raised_more (put_here f ms [] ks vs lk lv o place there left)

      pub raised_own : IsPassOf g after_true
      raised_own = value_own f ms ks vs lk lv o v told g own place lt found left (set vs place left) (length-set vs place left ∙ lv) raised_words raised_more (put_here f ms [] ks vs lk lv o place there left)

      pub raised_seen : BitsAdded (program_of g.system.value) v after_true place 1 left
      raised_seen = record {
        seen = bits_seen f ms ks vs lk lv o v told g own place lt found left (set vs place left) (length-set vs place left ∙ lv) raised_words raised_more (put_here f ms [] ks vs lk lv o place there left);
        added = λ n b. ap (λ (y : ℕ). bit_at y n) is ∙ b;
      }

    module _ (nz : found ≢ 0) (is : left ≡ found) where
      pub raised_already : BitsAdded (program_of g.system.value) v after_true place 1 left
      raised_already = record {
        seen = bits_seen f ms ks vs lk lv o v told g own place lt found left vs lv o (at_least_itself all) (sym (found_there found e) ∙ sym is);
        added = λ n b. ap (λ (y : ℕ × ℕ). bit_at y.0 y.1) (λ i. ((is ∙ found_there found e) i, bit_of_one n b i)) ∙ true_already f ms [] ks vs lk lv o place there true_its (λ y. nz (found_there found e ∙ y));
      }
