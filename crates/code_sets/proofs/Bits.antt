-- The codes of a word one by one, and how many there are.
use Rattle.std.proofs.Common.{◌≡◌, ◌≢◌, ℕ, zero, suc, ◌+◌, ◌*◌, ◌<◌, ◌≤◌, ◌/◌, ◌%◌, ◌^◌, ◌==◌, Bool, true, false, cond, List, [], ◌∷◌, ◌++◌, length, drop, get_or, count_ones, refl, sym, ap, ◌∙◌, arith, append-nil, append_assoc, length-append}
use mathlib.Core.Logic.{dite}
use native.Mathlib.Decide.{ℕ_discrete}
use mir.Syntax.{w64}
use Rattle.std.specs.Int.{bit_at, trailing_zeros}
use Rattle.std.specs.Int.Bits.{bit_xor}
use Rattle.std.specs.Int.Count.{ones_step}
use Rattle.std.specs.List.{AllByRecursion, filter, range_with_len}
use Rattle.std.specs.Ordering.{eq_by_cmp, nat_cmp}
use Rattle.std.proofs.lemmas.List.Elements.{All-from_recursion}
use Rattle.std.proofs.lemmas.Map.Views.{length-le_from_below}
use Rattle.std.proofs.Math.Nat.{pow-suc}
use Rattle.std.proofs.lemmas.Nat.{one_shl, ones_le_self, shr-shr}
use Rattle.std.proofs.lemmas.Nat.Bits.{bit_at-lt, bit_at-pow_other, bit_at-pow_same, bit_at-trailing_zeros, bit_at_xor}
use Rattle.code_sets.specs.Members.{has_code}
use Rattle.code_sets.specs.declared.word.Word.{Word}
use Rattle.code_sets.specs.Words.{AreWords, IsWord, codes_of_word, codes_of_words, has_bit, numbers_of}
use Rattle.code_sets.proofs.Rising.{apart, tied}
use Rattle.code_sets.proofs.Words.{no_bit, word_has, word_lacks, words_below, words_rise}

-- ---- numbers of a range that pass a test

module _ (p q : ℕ → Bool) where
  same_kept : (a n : ℕ) → ((c : ℕ) → a ≤ c → c < a + n → q c ≡ p c) → filter q (range_with_len a n) ≡ filter p (range_with_len a n)
  same_kept a zero h = refl
  same_kept a (suc n) h =
      ap (λ b. cond b (a ∷ filter q (range_with_len (a + 1) n)) (filter q (range_with_len (a + 1) n))) (h a (omega arith) (omega arith))
      ∙ ap (λ l. cond (p a) (a ∷ l) l) (same_kept (a + 1) n (λ c l m. h c (omega (arith, l)) (omega (arith, m))))

  -- x is the first that passes p, and q passes the others
  first_kept : (a n x : ℕ) → a ≤ x → x < a + n → ((c : ℕ) → a ≤ c → c < x → p c ≡ false) → p x ≡ true → q x ≡ false
      → ((c : ℕ) → a ≤ c → c < a + n → c ≢ x → q c ≡ p c) → filter p (range_with_len a n) ≡ x ∷ filter q (range_with_len a n)
  first_kept a zero x l m below passes fails same = absurd (omega (arith, l, m))
  first_kept a (suc n) x l m below passes fails same =
      let rest = range_with_len (a + 1) n in
      dite (ℕ_discrete a x)
      (λ e.
      ap (λ b. cond b (a ∷ filter p rest) (filter p rest)) (ap p e ∙ passes)
      ∙ ap (λ y. y ∷ filter p rest) e
      ∙ ap (λ (ys : List ℕ). x ∷ ys) (sym (same_kept (a + 1) n (λ c low high. same c (omega (arith, low)) (omega (arith, high)) (λ i. absurd (omega (arith, low, i, e))))))
      ∙ ap (λ b. x ∷ cond b (a ∷ filter q rest) (filter q rest)) (sym (ap q e ∙ fails)))
      (λ e.
      let none = below a (omega arith) (omega (arith, l, e)) in
      ap (λ b. cond b (a ∷ filter p rest) (filter p rest)) none
      ∙ first_kept (a + 1) n x (omega (arith, l, e)) (omega (arith, m)) (λ c low. below c (omega (arith, low))) passes fails (λ c low high. same c (omega (arith, low)) (omega (arith, high)))
      ∙ ap (λ b. x ∷ cond b (a ∷ filter q rest) (filter q rest)) (sym (same a (omega arith) (omega arith) e ∙ none)))

none_kept : (p : ℕ → Bool) → ((c : ℕ) → p c ≡ false) → (xs : List ℕ) → filter p xs ≡ []
none_kept p h [] = refl
none_kept p h (x ∷ xs) = ap (λ b. cond b (x ∷ filter p xs) (filter p xs)) (h x) ∙ none_kept p h xs

-- ---- the lowest bit of a word

odd_out : (a : ℕ) → a < 2 → (a + 0) % 2 ≡ a
odd_out a h = omega (arith, h)

pub word_none : (w : ℕ) → codes_of_word w 0 ≡ []
unfolding codes_of_word
word_none w = none_kept (has_bit 0) no_bit (range_with_len (64 * w) 64)

-- the code of the lowest bit comes first, and then come those of the other bits
pub lowest_first : (w bits : ℕ) → bits ≢ 0 → bits < 2 ^ 64
    → codes_of_word w bits ≡ (64 * w + trailing_zeros w64 bits) ∷ codes_of_word w (bit_xor bits (1 * 2 ^ trailing_zeros w64 bits % 2 ^ 64))
unfolding codes_of_word
lowest_first w bits some small =
    let low = bit_at-trailing_zeros w64 bits (omega (arith, some)) small in
    lowest (trailing_zeros w64 bits) low.0 low.1 low.2
  where
    lowest : (k : ℕ) → k < 64 → bit_at bits k ≡ 1 → ((i : ℕ) → i < k → bit_at bits i ≡ 0)
        → filter (has_bit bits) (range_with_len (64 * w) 64) ≡ (64 * w + k) ∷ filter (has_bit (bit_xor bits (1 * 2 ^ k % 2 ^ 64))) (range_with_len (64 * w) 64)
    lowest k within set zeros =
        let shifted : 1 * 2 ^ k % 2 ^ 64 ≡ 2 ^ k = one_shl k 64 within in
        let flips : (i : ℕ) → bit_at (bit_xor bits (1 * 2 ^ k % 2 ^ 64)) i ≡ (bit_at bits i + bit_at (2 ^ k) i) % 2 = λ i. ap (λ m. bit_at (bit_xor bits m) i) shifted ∙ bit_at_xor bits (2 ^ k) i in
        let at : (64 * w + k) % 64 ≡ k = omega (arith, within) in
        first_kept (has_bit bits) (has_bit (bit_xor bits (1 * 2 ^ k % 2 ^ 64))) (64 * w) 64 (64 * w + k) (omega arith) (omega (arith, within))
        (λ c l m. ap (λ b. b == 1) (zeros (c % 64) (omega (arith, l, m, within))))
        (ap (λ i. bit_at bits i == 1) at ∙ ap (λ b. b == 1) set)
        (ap (λ i. bit_at (bit_xor bits (1 * 2 ^ k % 2 ^ 64)) i == 1) at ∙ ap (λ b. b == 1) (flips k ∙ ap (λ b. (b + bit_at (2 ^ k) k) % 2) set ∙ ap (λ b. (1 + b) % 2) (bit_at-pow_same k)))
        (λ c l m e.
        ap (λ b. b == 1)
        (flips (c % 64) ∙ ap (λ b. (bit_at bits (c % 64) + b) % 2) (bit_at-pow_other k (c % 64) (λ i. e (omega (arith, i, l, m)))) ∙ odd_out (bit_at bits (c % 64)) (bit_at-lt bits (c % 64))))

-- the word of one code
pub one_code : (x c : ℕ) → has_code (codes_of_word (x / 64) (1 * 2 ^ (x % 64) % 2 ^ 64)) c ≡ eq_by_cmp nat_cmp c x
one_code x c =
    let shifted : 1 * 2 ^ (x % 64) % 2 ^ 64 ≡ 2 ^ (x % 64) = one_shl (x % 64) 64 (omega arith) in
    dite (ℕ_discrete (c / 64) (x / 64))
    (λ same.
    word_has (x / 64) _ c same
    ∙ ap (λ m. has_bit m c) shifted
    ∙ dite (ℕ_discrete (c % 64) (x % 64))
    (λ e. ap (λ i. bit_at (2 ^ (x % 64)) i == 1) e ∙ ap (λ b. b == 1) (bit_at-pow_same (x % 64)) ∙ sym (tied c x (omega (arith, same, e))))
    (λ e. ap (λ b. b == 1) (bit_at-pow_other (x % 64) (c % 64) e) ∙ sym (apart c x (λ i. e (ap (λ (y : ℕ). y % 64) i)))))
    (λ other. word_lacks (x / 64) _ c other ∙ sym (apart c x (λ i. other (ap (λ (y : ℕ). y / 64) i))))

-- ---- how many codes there are

one_more : (y x : ℕ) (xs : List ℕ) → y < 2 → length (cond (y == 1) (x ∷ xs) xs) ≡ y + length xs
one_more zero x xs h = omega arith
one_more (suc zero) x xs h = omega arith
one_more (suc (suc y)) x xs h = absurd (omega (arith, h))

-- those of n bits from the one at i on
count_from : (bits n w i : ℕ) → i + n ≤ 64 → bits / 2 ^ i < 2 ^ n → length (filter (has_bit bits) (range_with_len (64 * w + i) n)) ≡ count_ones (bits / 2 ^ i)
count_from bits zero w i h small = let few = ones_le_self (bits / 2 ^ i) in omega (arith, small, few)
count_from bits (suc n) w i h small =
    let half : bits / 2 ^ (i + 1) ≡ bits / 2 ^ i / 2 = sym (shr-shr bits i 1) in
    let double : 2 ^ suc n ≡ 2 ^ n * 2 = pow-suc 2 n in
    let at : (64 * w + i) % 64 ≡ i = omega (arith, h) in
    let rest = filter (has_bit bits) (range_with_len (64 * w + i + 1) n) in
    ap (λ j. length (cond (bit_at bits j == 1) ((64 * w + i) ∷ rest) rest)) at
    ∙ one_more (bit_at bits i) (64 * w + i) rest (bit_at-lt bits i)
    ∙ ap (λ m. bit_at bits i + m)
    (ap (λ a. length (filter (has_bit bits) (range_with_len a n))) (omega arith) ∙ count_from bits n w (i + 1) (omega (arith, h)) (omega (arith, small, half, double)))
    ∙ ap (λ m. bit_at bits i + count_ones m) half
    ∙ sym (ones_step (bits / 2 ^ i))

count_word : (n w bits : ℕ) → n ≤ 64 → bits < 2 ^ n → length (filter (has_bit bits) (range_with_len (64 * w) n)) ≡ count_ones bits
count_word n w bits h small =
    let whole : bits / 2 ^ 0 ≡ bits = omega arith in
    let first : 64 * w ≡ 64 * w + 0 = omega arith in
    ap (λ a. length (filter (has_bit bits) (range_with_len a n))) first ∙ count_from bits n w 0 (omega (arith, h)) (omega (arith, small, whole)) ∙ ap count_ones whole

pub word_len : (w bits : ℕ) → bits < 2 ^ 64 → length (codes_of_word w bits) ≡ count_ones bits
unfolding codes_of_word
word_len w bits small = count_word 64 w bits (omega arith) small

pub words_small : (es : List Word) → AllByRecursion IsWord es → AllByRecursion (λ w. w < 2 ^ 26) (numbers_of es)
words_small [] h = tt
words_small (e ∷ es) h = (h.0.small, words_small es h.1)

pub words_len : (es : List Word) → AreWords es → length (codes_of_words es) ≤ 2 ^ 32
words_len es h = length-le_from_below (2 ^ 32) (codes_of_words es) (words_rise es h.rise) (All-from_recursion (λ c. c < 2 ^ 32) (codes_of_words es) (words_below (2 ^ 26) es (words_small es h.each)))

-- ---- loops over the bits of a word, and over words

-- one code more is in a list
pub push_next : (items next start : List ℕ) (w bits : ℕ) → bits ≢ 0 → bits < 2 ^ 64 → next ≡ items ++ (w * 64 + trailing_zeros w64 bits) ∷ []
    → items ++ codes_of_word w bits ≡ start → next ++ codes_of_word w (bit_xor bits (1 * 2 ^ trailing_zeros w64 bits % 2 ^ 64)) ≡ start
push_next items next start w bits some small pushed so_far =
    let turned : w * 64 + trailing_zeros w64 bits ≡ 64 * w + trailing_zeros w64 bits = omega arith in
    let rest = codes_of_word w (bit_xor bits (1 * 2 ^ trailing_zeros w64 bits % 2 ^ 64)) in
    ap (λ (l : List ℕ). l ++ rest) pushed
    ∙ append_assoc items ((w * 64 + trailing_zeros w64 bits) ∷ []) rest
    ∙ ap (λ x. items ++ x ∷ rest) turned
    ∙ ap (λ (l : List ℕ). items ++ l) (sym (lowest_first w bits some small))
    ∙ so_far

pub push_fewer : (w bits : ℕ) → bits ≢ 0 → bits < 2 ^ 64 → length (codes_of_word w (bit_xor bits (1 * 2 ^ trailing_zeros w64 bits % 2 ^ 64))) < length (codes_of_word w bits)
push_fewer w bits some small = let e = ap length (lowest_first w bits some small) in omega (arith, e)

pub push_all : (items start : List ℕ) (w bits : ℕ) → bits ≡ 0 → items ++ codes_of_word w bits ≡ start → items ≡ start
push_all items start w bits none so_far = sym (append-nil items) ∙ ap (λ (l : List ℕ). items ++ l) (sym (ap (codes_of_word w) none ∙ word_none w)) ∙ so_far

-- those of one word more are counted
drop_at : (es : List Word) (i : ℕ) (d : Word) → i < length es → drop i es ≡ get_or es i d ∷ drop (suc i) es
drop_at [] i d h = absurd (omega (arith, h))
drop_at (e ∷ es) zero d h = refl
drop_at (e ∷ es) (suc i) d h = drop_at es i d (omega (arith, h))

pub count_next : (es : List Word) (i : ℕ) (d : Word) (n total : ℕ) → i < length es → (get_or es i d).bits < 2 ^ 64
    → n + length (codes_of_words (drop i es)) ≡ total → n + count_ones (get_or es i d).bits + length (codes_of_words (drop (i + 1) es)) ≡ total
count_next es i d n total h small so_far =
    let next : suc i ≡ i + 1 = omega arith in
    let parts = ap (λ (l : List Word). length (codes_of_words l)) (drop_at es i d h ∙ ap (λ k. get_or es i d ∷ drop k es) next) ∙ length-append (codes_of_word (get_or es i d).number (get_or es i d).bits) (codes_of_words (drop (i + 1) es)) in
    let word = word_len (get_or es i d).number (get_or es i d).bits small in
    omega (arith, parts, word, so_far)
