-- Sets to which a word is added.
use Rattle.std.proofs.Common.{◌≡◌, ◌≢◌, ℕ, zero, suc, ◌<◌, ◌≤◌, ◌/◌, ◌^◌, Bool, true, false, ◌||◌, List, [], ◌∷◌, ◌++◌, length, get_or, set, take, drop, refl, sym, ap, ◌∙◌, subst, arith, append-nil}
use mathlib.Core.Logic.{dite}
use native.Mathlib.Decide.{ℕ_discrete}
use Rattle.std.specs.Int.Bits.{bit_or}
use Rattle.std.specs.List.{AllByRecursion, insert, refill}
use Rattle.std.specs.List.Sorted.{IsStrictlySortedBy}
use Rattle.std.proofs.lemmas.List.{take-append-drop}
use Rattle.std.proofs.lemmas.Nat.{le_or_r, or_lt}
use Rattle.code_sets.specs.declared.word.Word.{Word}
use Rattle.code_sets.specs.Members.{AreMade, Rises, has_code}
use Rattle.code_sets.specs.Places.{IsAt, IsGapFor}
use Rattle.code_sets.specs.Words.{AreWords, IsWord, codes_of_word, codes_of_words, has_bit, numbers_of}
use Rattle.code_sets.proofs.Rising.{each_map, has_both, is_less, less_is, rises_both}
use Rattle.code_sets.proofs.Searching.{each_at}
use Rattle.code_sets.proofs.Words.{has_either, no_bit, numbers_both, or_no, word_has, word_lacks, words_both, words_lack_above, words_lack_below, words_rise}

-- ---- truth values

or_nothing : (a b : Bool) → b ≡ false → a ≡ (a || b)
or_nothing true b e = refl
or_nothing false b e = sym e

put_last : (a n b : Bool) → (a || (n || b)) ≡ ((a || b) || n)
put_last true n b = refl
put_last false true true = refl
put_last false true false = refl
put_last false false true = refl
put_last false false false = refl

put_both : (a b o n : Bool) → (a || ((o || n) || b)) ≡ ((a || (o || b)) || n)
put_both true b o n = refl
put_both false b true n = refl
put_both false true false true = refl
put_both false true false false = refl
put_both false false false true = refl
put_both false false false false = refl

-- ---- a word that was found, or wasn't

-- the codes of the word at a place are told by its bits
pub has_at : (es : List Word) (at n : ℕ) (d : Word) → Rises (numbers_of es) → at < length es → (get_or es at d).number ≡ n → (c : ℕ) → c / 64 ≡ n → has_bit (get_or es at d).bits c ≡ has_code (codes_of_words es) c
unfolding IsStrictlySortedBy
has_at [] at n d r lt e c same = absurd (omega (arith, lt))
has_at (w ∷ es) zero n d r lt e c same =
    sym (has_both (codes_of_word w.number w.bits) (codes_of_words es) c
    ∙ or_no _ _ (words_lack_above es w.number c (each_map (λ m h. less_is w.number m h) (numbers_of es) r.0) (same ∙ sym e))
    ∙ word_has w.number w.bits c (same ∙ sym e))
has_at (w ∷ es) (suc at) n d r lt e c same =
    let after : w.number < (get_or es at d).number = each_at (λ m. w.number < m) es at d (each_map (λ m h. less_is w.number m h) (numbers_of es) r.0) (omega (arith, lt)) in
    has_at es at n d r.1 (omega (arith, lt)) e c same
    ∙ sym (has_both (codes_of_word w.number w.bits) (codes_of_words es) c ∙ ap (λ b. b || has_code (codes_of_words es) c) (word_lacks w.number w.bits c (λ i. omega (arith, after, e, same, i))))

pub has_none : (es : List Word) (at n c : ℕ) → IsGapFor es n at → c / 64 ≡ n → has_bit 0 c ≡ has_code (codes_of_words es) c
has_none es at n c gap same =
    no_bit c
    ∙ sym (ap (λ (l : List Word). has_code (codes_of_words l) c) (sym (take-append-drop at es))
    ∙ ap (λ (l : List ℕ). has_code l c) (words_both (take at es) (drop at es))
    ∙ has_both (codes_of_words (take at es)) (codes_of_words (drop at es)) c
    ∙ or_no _ _ (words_lack_above (drop at es) n c gap.after same)
    ∙ words_lack_below (take at es) n c gap.before same)

-- ---- a word between others

each_word_both : (es fs : List Word) → AllByRecursion IsWord es → AllByRecursion IsWord fs → AllByRecursion IsWord (es ++ fs)
each_word_both [] fs h k = k
each_word_both (e ∷ es) fs h k = (h.0, each_word_both es fs h.1 k)

pub words_put : (front back : List Word) (w : Word) → AreWords front → AreWords back → IsWord w
    → AllByRecursion (λ n. n < w.number) (numbers_of front) → AllByRecursion (λ n. w.number < n) (numbers_of back) → AreWords (front ++ w ∷ back)
unfolding IsStrictlySortedBy
words_put front back w f b is before after = record {
  rise = subst Rises (sym (numbers_both front (w ∷ back)))
      (rises_both w.number (numbers_of front) (w.number ∷ numbers_of back) f.rise
      (each_map (λ n h. is_less w.number n h) (numbers_of back) after, b.rise) before
      (omega arith, each_map (λ n h. omega (arith, h)) (numbers_of back) after));
  each = each_word_both front (w ∷ back) f.each (is, b.each);
}

-- ---- the front and the back of words

pub words_front : (at : ℕ) (es : List Word) → AreWords es → AreWords (take at es)
unfolding IsStrictlySortedBy
words_front at es h = record { rise = rise at es h.rise; each = each at es h.each }
  where
    first : (P : ℕ → Type 0) (k : ℕ) (l : List Word) → AllByRecursion P (numbers_of l) → AllByRecursion P (numbers_of (take k l))
    first P zero l h = tt
    first P (suc k) [] h = tt
    first P (suc k) (e ∷ l) h = (h.0, first P k l h.1)

    rise : (k : ℕ) (l : List Word) → Rises (numbers_of l) → Rises (numbers_of (take k l))
    rise zero l r = tt
    rise (suc k) [] r = tt
    rise (suc k) (e ∷ l) r = (first _ k l r.0, rise k l r.1)

    each : (k : ℕ) (l : List Word) → AllByRecursion IsWord l → AllByRecursion IsWord (take k l)
    each zero l h = tt
    each (suc k) [] h = tt
    each (suc k) (e ∷ l) h = (h.0, each k l h.1)

pub words_back : (at : ℕ) (es : List Word) → AreWords es → AreWords (drop at es)
unfolding IsStrictlySortedBy
words_back at es h = record { rise = rise at es h.rise; each = each at es h.each }
  where
    rise : (k : ℕ) (l : List Word) → Rises (numbers_of l) → Rises (numbers_of (drop k l))
    rise zero l r = r
    rise (suc k) [] r = r
    rise (suc k) (e ∷ l) r = rise k l r.1

    each : (k : ℕ) (l : List Word) → AllByRecursion IsWord l → AllByRecursion IsWord (drop k l)
    each zero l h = h
    each (suc k) [] h = h
    each (suc k) (e ∷ l) h = each k l h.1

-- ---- a word is put in

module _ (es : List Word) (at : ℕ) (w : Word) (words : AreWords es) (is : IsWord w) (gap : IsGapFor es w.number at) where
  pub words_insert : AreWords (insert es at w)
  words_insert = words_put (take at es) (drop at es) w (words_front at es words) (words_back at es words) is gap.before gap.after

  pub made_insert : AreMade (λ a b. a || b) (codes_of_words es) (codes_of_word w.number w.bits) (codes_of_words (insert es at w))
  made_insert = record {
    rises = words_rise (insert es at w) words_insert.rise;
    members = λ c.
        ap (λ (l : List ℕ). has_code l c) (words_both (take at es) (w ∷ drop at es))
        ∙ has_both (codes_of_words (take at es)) (codes_of_word w.number w.bits ++ codes_of_words (drop at es)) c
        ∙ ap (λ b. has_code (codes_of_words (take at es)) c || b) (has_both (codes_of_word w.number w.bits) (codes_of_words (drop at es)) c)
        ∙ put_last (has_code (codes_of_words (take at es)) c) (has_code (codes_of_word w.number w.bits) c) (has_code (codes_of_words (drop at es)) c)
        ∙ ap (λ b. b || has_code (codes_of_word w.number w.bits) c)
        (sym (has_both (codes_of_words (take at es)) (codes_of_words (drop at es)) c)
        ∙ ap (λ (l : List ℕ). has_code l c) (sym (words_both (take at es) (drop at es)))
        ∙ ap (λ (l : List Word). has_code (codes_of_words l) c) (take-append-drop at es));
  }

-- ---- bits are put into a word

numbers_set : (es : List Word) (at : ℕ) (d w : Word) → at < length es → w.number ≡ (get_or es at d).number → numbers_of (set es at w) ≡ numbers_of es
numbers_set [] at d w lt e = absurd (omega (arith, lt))
numbers_set (v ∷ es) zero d w lt e = ap (λ n. n ∷ numbers_of es) e
numbers_set (v ∷ es) (suc at) d w lt e = ap (λ (l : List ℕ). v.number ∷ l) (numbers_set es at d w (omega (arith, lt)) e)

each_set : (es : List Word) (at : ℕ) (w : Word) → IsWord w → AllByRecursion IsWord es → AllByRecursion IsWord (set es at w)
each_set [] at w is h = h
each_set (v ∷ es) zero w is h = (is, h.1)
each_set (v ∷ es) (suc at) w is h = (h.0, each_set es at w is h.1)

pub words_set : (es : List Word) (at : ℕ) (d w : Word) → at < length es → w.number ≡ (get_or es at d).number → IsWord w → AreWords es → AreWords (set es at w)
words_set es at d w lt e is h = record { rise = subst Rises (sym (numbers_set es at d w lt e)) h.rise; each = each_set es at w is h.each }

-- a word that has bits besides has their codes besides
word_more : (n bits more c : ℕ) → has_code (codes_of_word n (bit_or bits more)) c ≡ (has_code (codes_of_word n bits) c || has_code (codes_of_word n more) c)
word_more n bits more c =
    dite (ℕ_discrete (c / 64) n)
    (λ same.
    word_has n (bit_or bits more) c same
    ∙ has_either bits more c
    ∙ ap (λ b. b || has_bit more c) (sym (word_has n bits c same))
    ∙ ap (λ b. has_code (codes_of_word n bits) c || b) (sym (word_has n more c same)))
    (λ other.
    word_lacks n (bit_or bits more) c other
    ∙ sym (ap (λ b. b || has_code (codes_of_word n more) c) (word_lacks n bits c other) ∙ word_lacks n more c other))

more_members : (es : List Word) (at : ℕ) (d w : Word) (more c : ℕ) → at < length es → w.number ≡ (get_or es at d).number → w.bits ≡ bit_or (get_or es at d).bits more
    → has_code (codes_of_words (set es at w)) c ≡ (has_code (codes_of_words es) c || has_code (codes_of_word w.number more) c)
more_members [] at d w more c lt e f = absurd (omega (arith, lt))
more_members (v ∷ es) zero d w more c lt e f =
    let new = has_code (codes_of_word w.number more) c in
    has_both (codes_of_word w.number w.bits) (codes_of_words es) c
    ∙ ap (λ b. b || has_code (codes_of_words es) c) (ap (λ b. has_code (codes_of_word w.number b) c) f ∙ word_more w.number v.bits more c)
    ∙ put_both false (has_code (codes_of_words es) c) (has_code (codes_of_word w.number v.bits) c) new
    ∙ ap (λ b. b || new) (ap (λ n. has_code (codes_of_word n v.bits) c || has_code (codes_of_words es) c) e ∙ sym (has_both (codes_of_word v.number v.bits) (codes_of_words es) c))
more_members (v ∷ es) (suc at) d w more c lt e f =
    let old = has_code (codes_of_word v.number v.bits) c in
    has_both (codes_of_word v.number v.bits) (codes_of_words (set es at w)) c
    ∙ ap (λ b. old || b) (more_members es at d w more c (omega (arith, lt)) e f)
    ∙ regroup old (has_code (codes_of_words es) c) (has_code (codes_of_word w.number more) c)
    ∙ ap (λ b. b || has_code (codes_of_word w.number more) c) (sym (has_both (codes_of_word v.number v.bits) (codes_of_words es) c))
  where
    regroup : (a b n : Bool) → (a || (b || n)) ≡ ((a || b) || n)
    regroup true b n = refl
    regroup false b n = refl

pub made_set : (es : List Word) (at : ℕ) (d w : Word) (more : ℕ) → at < length es → w.number ≡ (get_or es at d).number → w.bits ≡ bit_or (get_or es at d).bits more
    → AreWords (set es at w) → AreMade (λ a b. a || b) (codes_of_words es) (codes_of_word w.number more) (codes_of_words (set es at w))
made_set es at d w more lt e f words = record { rises = words_rise (set es at w) words.rise; members = λ c. more_members es at d w more c lt e f }

-- where no bit is put in, nothing is
pub made_nothing : (xs : List ℕ) (n : ℕ) → Rises xs → AreMade (λ a b. a || b) xs (codes_of_word n 0) xs
made_nothing xs n r = record {
  rises = r;
  members = λ c. or_nothing _ _ (dite (ℕ_discrete (c / 64) n) (λ same. word_has n 0 c same ∙ no_bit c) (λ other. word_lacks n 0 c other));
}

-- a slice that is written as a whole
pub refilled : (es fs : List Word) → length fs ≡ length es → refill (length es) es fs ≡ fs
refilled es fs e = ap (λ (n : ℕ). take (length es) (fs ++ drop n es)) e ∙ ap (λ (l : List Word). take (length es) (fs ++ l)) (none es) ∙ ap (take (length es)) (append-nil fs) ∙ ap (λ (n : ℕ). take n fs) (sym e) ∙ whole fs
  where
    none : (l : List Word) → drop (length l) l ≡ []
    none [] = refl
    none (x ∷ l) = none l

    whole : (l : List Word) → take (length l) l ≡ l
    whole [] = refl
    whole (x ∷ l) = ap (λ (k : List Word). x ∷ k) (whole l)

-- ---- bits are put into a word of a slice

word_at : (es : List Word) (at : ℕ) (d : Word) → AllByRecursion IsWord es → at < length es → IsWord (get_or es at d)
word_at [] at d h lt = absurd (omega (arith, lt))
word_at (e ∷ es) zero d h lt = h.0
word_at (e ∷ es) (suc at) d h lt = word_at es at d h.1 (omega (arith, lt))

module _ (es : List Word) (at n more : ℕ) (d : Word) (is : IsAt es n at) (words : AreWords es) (fits : more < 2 ^ 64) where
  -- the word at the place, with more bits
  abbrev pub with_bits : List Word → Word
  with_bits l = record { number = (get_or l at d).number; bits = bit_or (get_or l at d).bits more }

  pub set_words : more ≢ 0 → AreWords (set es at (with_bits es))
  set_words some =
      let more_still : more ≤ bit_or (get_or es at d).bits more = le_or_r (get_or es at d).bits more in
      let old : IsWord (get_or es at d) = word_at es at d words.each is.in_range in
      words_set es at d (with_bits es) is.in_range refl (record { small = old.small; some = λ e. omega (arith, more_still, some, e); fits = or_lt 64 (get_or es at d).bits more old.fits fits }) words

  pub set_made : more ≢ 0 → AreMade (λ a b. a || b) (codes_of_words es) (codes_of_word n more) (codes_of_words (set es at (with_bits es)))
  set_made some =
      subst (λ (m : ℕ). AreMade (λ a b. a || b) (codes_of_words es) (codes_of_word m more) (codes_of_words (set es at (with_bits es)))) (is.has_number d)
      (made_set es at d (with_bits es) more is.in_range refl refl (set_words some))
