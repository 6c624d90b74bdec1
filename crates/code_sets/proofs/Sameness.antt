-- Sets that are empty, and sets that are the same.
use Rattle.std.proofs.Common.{◌≡◌, ℕ, ◌+◌, ◌*◌, ◌<◌, ◌≤◌, ◌/◌, ◌%◌, ◌^◌, ◌==◌, ⊎_elim, true, ◌&&◌, List, [], ◌∷◌, ◌++◌, length, refl, sym, ap, ◌∙◌, arith}
use mir.Syntax.{w64}
use Rattle.std.specs.Bool.{Decides}
use Rattle.std.specs.Int.{bit_at, trailing_zeros}
use Rattle.std.specs.Int.Bits.{bit_xor}
use Rattle.std.specs.List.{AllByRecursion}
use Rattle.std.specs.List.Sorted.{IsStrictlySortedBy}
use Rattle.std.proofs.lemmas.Bool.{cases_lt, false≢true, ne_eqb}
use Rattle.std.proofs.lemmas.Bool.Decides.{Decides-and, Decides-eqb, Decides-like}
use Rattle.std.proofs.lemmas.Nat.Bits.{bit_at-lt, bit_at-trailing_zeros, same_from_bits_below}
use Rattle.code_sets.specs.declared.word.Word.{Word}
use Rattle.code_sets.specs.Members.{has_code}
use Rattle.code_sets.specs.Words.{AreWords, codes_of_word, codes_of_words, numbers_of}
use Rattle.code_sets.proofs.Bits.{lowest_first}
use Rattle.code_sets.proofs.Made.{has_at}
use Rattle.code_sets.proofs.Rising.{each_map, has_itself, less_is}
use Rattle.code_sets.proofs.Words.{words_lack_above}

-- the words behind the first
rest_words : (e : Word) (es : List Word) → AreWords (e ∷ es) → AreWords es
unfolding IsStrictlySortedBy
rest_words e es h = record { rise = h.rise.1; each = h.each.1 }

after_first : (e : Word) (es : List Word) → AreWords (e ∷ es) → AllByRecursion (λ n. e.number < n) (numbers_of es)
unfolding IsStrictlySortedBy
after_first e es h = each_map (λ n l. less_is e.number n l) (numbers_of es) h.rise.0

-- ---- sets that are empty

-- the first code of words
first_code : (e : Word) (es : List Word) → AreWords (e ∷ es) → codes_of_words (e ∷ es) ≡ (64 * e.number + trailing_zeros w64 e.bits) ∷ codes_of_word e.number (bit_xor e.bits (1 * 2 ^ trailing_zeros w64 e.bits % 2 ^ 64)) ++ codes_of_words es
first_code e es h = ap (λ (l : List ℕ). l ++ codes_of_words es) (lowest_first e.number e.bits h.each.0.some h.each.0.fits)

pub words_empty : (es : List Word) → AreWords es → (length es == 0) ≡ (length (codes_of_words es) == 0)
words_empty [] h = refl
words_empty (e ∷ es) h =
    let some = ap length (first_code e es h) in
    ne_eqb (length (e ∷ es)) 0 (λ i. omega (arith, i)) ∙ sym (ne_eqb (length (codes_of_words (e ∷ es))) 0 (λ i. omega (arith, i, some)))

-- ---- sets that are the same

-- the number of the first word is that of the first code
number_within : (e f : Word) (es fs : List Word) → AreWords (e ∷ es) → AreWords (f ∷ fs) → codes_of_words (e ∷ es) ≡ codes_of_words (f ∷ fs) → f.number ≤ e.number
number_within e f es fs h k same = ⊎_elim (λ less. absurd (lacks less)) (λ le. le) (cases_lt e.number f.number)
  where
    c : ℕ
    c = 64 * e.number + trailing_zeros w64 e.bits

    at : c / 64 ≡ e.number
    at = let low = bit_at-trailing_zeros w64 e.bits (let some = h.each.0.some in omega (arith, some)) h.each.0.fits in let l : trailing_zeros w64 e.bits < 64 = low.0 in omega (arith, l)

    has : has_code (codes_of_words (f ∷ fs)) c ≡ true
    has = ap (λ (l : List ℕ). has_code l c) (sym same ∙ first_code e es h) ∙ has_itself c c _ refl

    lacks : e.number < f.number → ⊥
    lacks less = false≢true (sym (words_lack_above (f ∷ fs) e.number c (less, each_map (λ n l. omega (arith, l, less)) (numbers_of fs) (after_first f fs k)) at) ∙ has)

bits_same : (e f : Word) (es fs : List Word) → AreWords (e ∷ es) → AreWords (f ∷ fs) → codes_of_words (e ∷ es) ≡ codes_of_words (f ∷ fs) → e.number ≡ f.number → e.bits ≡ f.bits
bits_same e f es fs h k same number = same_from_bits_below 64 e.bits f.bits h.each.0.fits k.each.0.fits (λ i l. equal (bit_at e.bits i) (bit_at f.bits i) (bit_at-lt e.bits i) (bit_at-lt f.bits i) (bit i l))
  where
    equal : (a b : ℕ) → a < 2 → b < 2 → (a == 1) ≡ (b == 1) → a ≡ b
    equal a b l m t = grind arith

    bit : (i : ℕ) → i < 64 → (bit_at e.bits i == 1) ≡ (bit_at f.bits i == 1)
    bit i l =
        let c = 64 * e.number + i in
        let low : c % 64 ≡ i = omega (arith, l) in
        let at : c / 64 ≡ e.number = omega (arith, l) in
        ap (λ j. bit_at e.bits j == 1) (sym low)
        ∙ has_at (e ∷ es) 0 e.number e h.rise (omega arith) refl c at
        ∙ ap (λ (x : List ℕ). has_code x c) same
        ∙ sym (has_at (f ∷ fs) 0 f.number f k.rise (omega arith) refl c (at ∙ number))
        ∙ ap (λ j. bit_at f.bits j == 1) low

cancel : (xs ys zs : List ℕ) → xs ++ ys ≡ xs ++ zs → ys ≡ zs
cancel [] ys zs e = e
cancel (x ∷ xs) ys zs e = cancel xs ys zs (ap rest e)
  where
    rest : List ℕ → List ℕ
    rest [] = []
    rest (y ∷ l) = l

word_same : (e f : Word) → e.number ≡ f.number → e.bits ≡ f.bits → e ≡ f
word_same e f n b = ap (λ (m : ℕ). record { number = m; bits = e.bits }) n ∙ ap (λ (m : ℕ). record { number = f.number; bits = m }) b

-- words are told by their codes
pub words_same : (es fs : List Word) → AreWords es → AreWords fs → codes_of_words es ≡ codes_of_words fs → es ≡ fs
words_same [] [] h k same = refl
words_same [] (f ∷ fs) h k same = let some = ap length (same ∙ first_code f fs k) in absurd (omega (arith, some))
words_same (e ∷ es) [] h k same = let some = ap length (sym same ∙ first_code e es h) in absurd (omega (arith, some))
words_same (e ∷ es) (f ∷ fs) h k same =
    let low = number_within e f es fs h k same in
    let high = number_within f e fs es k h (sym same) in
    let number : e.number ≡ f.number = omega (arith, low, high) in
    let first = word_same e f number (bits_same e f es fs h k same number) in
    let left = cancel (codes_of_word e.number e.bits) (codes_of_words es) (codes_of_words fs) (same ∙ ap (λ (w : Word). codes_of_word w.number w.bits ++ codes_of_words fs) (sym first)) in
    ap (λ (w : Word). w ∷ es) first ∙ ap (λ (l : List Word). f ∷ l) (words_same es fs (rest_words e es h) (rest_words f fs k) left)

pub word_decides : (a b : Word) → Decides ((a.number == b.number) && (a.bits == b.bits)) (a ≡ b)
word_decides a b =
    Decides-like ((a.number == b.number) && (a.bits == b.bits)) (λ p. word_same a b p.0 p.1) (λ e. (ap (λ (w : Word). w.number) e, ap (λ (w : Word). w.bits) e))
    (Decides-and (a.number == b.number) (a.bits == b.bits) (Decides-eqb a.number b.number) (Decides-eqb a.bits b.bits))
