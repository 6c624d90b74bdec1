-- The codes of words: they rise, and which they are is told by the bits.
use Rattle.std.proofs.Common.{◌≡◌, ◌≢◌, ℕ, ◌+◌, ◌-◌, ◌*◌, ◌<◌, ◌≤◌, ◌/◌, ◌%◌, ◌^◌, ⊎_elim, ◌==◌, Bool, true, false, ◌&&◌, ◌||◌, not, List, [], ◌∷◌, ◌++◌, refl, ap, ◌∙◌, arith, max, min}
use mir.Syntax.{w64}
use Rattle.std.specs.Int.{bit_at, bit_not}
use Rattle.std.specs.Int.Bits.{bit_and, bit_or}
use Rattle.std.specs.List.{AllByRecursion, range_with_len}
use Rattle.std.specs.List.Sorted.{IsStrictlySortedBy}
use Rattle.std.specs.Ordering.{nat_cmp}
use Rattle.std.proofs.lemmas.Bool.{cases_lt}
use Rattle.std.proofs.lemmas.Grind.{flat_map-append}
use Rattle.std.proofs.lemmas.List.{map-append}
use Rattle.std.proofs.lemmas.List.Kept.{IsStrictlySortedBy-filter}
use Rattle.std.proofs.lemmas.Nat.Bits.{bit_at-lt, bit_at-zero, bit_at_and, bit_at_not, bit_at_or}
use Rattle.code_sets.specs.Members.{Rises, has_code}
use Rattle.code_sets.specs.declared.word.Word.{Word}
use Rattle.code_sets.specs.Words.{codes_of_word, codes_of_words, has_bit, numbers_of}
use Rattle.code_sets.proofs.Rising.{each_both, each_kept, each_map, has_kept, has_not_above, has_not_below, has_range, less_is, range_below, range_from, range_rises, rises_both}

-- ---- truth values

and_yes : (a b : Bool) → b ≡ true → (a && b) ≡ a
and_yes true b e = e
and_yes false b e = refl

pub or_no : (a b : Bool) → b ≡ false → (a || b) ≡ a
or_no true b e = refl
or_no false b e = e

-- ---- one word

module _ (w bits : ℕ) where
  pub word_rises : Rises (codes_of_word w bits)
  unfolding codes_of_word
  word_rises = IsStrictlySortedBy-filter nat_cmp (has_bit bits) (range_with_len (64 * w) 64) (range_rises (64 * w) 64)

  pub word_from : (b : ℕ) → b ≤ w → AllByRecursion (λ c. 64 * b ≤ c) (codes_of_word w bits)
  unfolding codes_of_word
  word_from b h = each_kept (λ c. 64 * b ≤ c) (has_bit bits) (range_with_len (64 * w) 64) (range_from (64 * b) (64 * w) 64 (omega (arith, h)))

  pub word_below : (m : ℕ) → w < m → AllByRecursion (λ c. c < 64 * m) (codes_of_word w bits)
  unfolding codes_of_word
  word_below m h = each_kept (λ c. c < 64 * m) (has_bit bits) (range_with_len (64 * w) 64) (range_below (64 * w) 64 (64 * m) (omega (arith, h)))

  -- a code of the word is told by its bit, and no other is there
  pub word_has : (c : ℕ) → c / 64 ≡ w → has_code (codes_of_word w bits) c ≡ has_bit bits c
  unfolding codes_of_word
  word_has c e = has_kept (has_bit bits) (range_with_len (64 * w) 64) c ∙ and_yes (has_bit bits c) _ (has_range (64 * w) 64 c (omega (arith, e)) (omega (arith, e)))

  pub word_lacks : (c : ℕ) → c / 64 ≢ w → has_code (codes_of_word w bits) c ≡ false
  word_lacks c e = ⊎_elim (λ low. has_not_above (64 * w) (codes_of_word w bits) c (word_from w (omega arith)) (omega (arith, low))) (λ high. has_not_below (64 * (w + 1)) (codes_of_word w bits) c (word_below (w + 1) (omega arith)) (omega (arith, high, e))) (cases_lt (c / 64) w)

-- ---- words in order

pub words_from : (b : ℕ) (es : List Word) → AllByRecursion (λ w. b ≤ w) (numbers_of es) → AllByRecursion (λ c. 64 * b ≤ c) (codes_of_words es)
words_from b [] h = tt
words_from b (e ∷ es) h = each_both (λ c. 64 * b ≤ c) (codes_of_word e.number e.bits) (codes_of_words es) (word_from e.number e.bits b h.0) (words_from b es h.1)

pub words_after : (e : Word) (es : List Word) → Rises (numbers_of (e ∷ es)) → AllByRecursion (λ c. 64 * (e.number + 1) ≤ c) (codes_of_words es)
unfolding IsStrictlySortedBy
words_after e es r = words_from (e.number + 1) es (each_map (λ w h. let l = less_is e.number w h in omega (arith, l)) (numbers_of es) r.0)

pub words_rise : (es : List Word) → Rises (numbers_of es) → Rises (codes_of_words es)
unfolding IsStrictlySortedBy
words_rise [] r = tt
words_rise (e ∷ es) r = rises_both (64 * (e.number + 1)) (codes_of_word e.number e.bits) (codes_of_words es) (word_rises e.number e.bits) (words_rise es r.1) (word_below e.number e.bits (e.number + 1) (omega arith)) (words_after e es r)

pub words_below : (m : ℕ) (es : List Word) → AllByRecursion (λ w. w < m) (numbers_of es) → AllByRecursion (λ c. c < 64 * m) (codes_of_words es)
words_below m [] h = tt
words_below m (e ∷ es) h = each_both (λ c. c < 64 * m) (codes_of_word e.number e.bits) (codes_of_words es) (word_below e.number e.bits m h.0) (words_below m es h.1)

pub words_both : (es fs : List Word) → codes_of_words (es ++ fs) ≡ codes_of_words es ++ codes_of_words fs
words_both es fs = flat_map-append (λ e. codes_of_word e.number e.bits) es fs

pub numbers_both : (es fs : List Word) → numbers_of (es ++ fs) ≡ numbers_of es ++ numbers_of fs
numbers_both es fs = map-append (λ e. e.number) es fs

-- words of higher numbers, or of lower ones, have no code of a word
pub words_lack_above : (es : List Word) (w c : ℕ) → AllByRecursion (λ n. w < n) (numbers_of es) → c / 64 ≡ w → has_code (codes_of_words es) c ≡ false
words_lack_above es w c h e = has_not_above (64 * (w + 1)) (codes_of_words es) c (words_from (w + 1) es (each_map (λ n l. omega (arith, l)) (numbers_of es) h)) (omega (arith, e))

pub words_lack_below : (es : List Word) (w c : ℕ) → AllByRecursion (λ n. n < w) (numbers_of es) → c / 64 ≡ w → has_code (codes_of_words es) c ≡ false
words_lack_below es w c h e = has_not_below (64 * w) (codes_of_words es) c (words_below w es h) (omega (arith, e))

pub no_bit : (c : ℕ) → has_bit 0 c ≡ false
no_bit c = ap (λ b. b == 1) (bit_at-zero (c % 64))

-- ---- bits of two words

either_one : (a b : ℕ) → a < 2 → b < 2 → (max a b == 1) ≡ ((a == 1) || (b == 1))
either_one a b h k = grind arith

both_one : (a b : ℕ) → a < 2 → b < 2 → (min a b == 1) ≡ ((a == 1) && (b == 1))
both_one a b h k = grind arith

other_one : (a : ℕ) → a < 2 → (1 - a == 1) ≡ not (a == 1)
other_one a h = grind arith

pub has_either : (a b c : ℕ) → has_bit (bit_or a b) c ≡ (has_bit a c || has_bit b c)
has_either a b c = ap (λ x. x == 1) (bit_at_or a b (c % 64)) ∙ either_one (bit_at a (c % 64)) (bit_at b (c % 64)) (bit_at-lt a (c % 64)) (bit_at-lt b (c % 64))

pub has_each : (a b c : ℕ) → has_bit (bit_and a b) c ≡ (has_bit a c && has_bit b c)
has_each a b c = ap (λ x. x == 1) (bit_at_and a b (c % 64)) ∙ both_one (bit_at a (c % 64)) (bit_at b (c % 64)) (bit_at-lt a (c % 64)) (bit_at-lt b (c % 64))

pub has_others : (a c : ℕ) → a < 2 ^ 64 → has_bit (bit_not w64 a) c ≡ not (has_bit a c)
has_others a c h = ap (λ x. x == 1) (bit_at_not w64 a (c % 64) h (omega arith)) ∙ other_one (bit_at a (c % 64)) (bit_at-lt a (c % 64))
