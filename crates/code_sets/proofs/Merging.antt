-- Words of two sets side by side.
use Rattle.std.proofs.Common.{◌≡◌, ◌≢◌, ℕ, zero, suc, ◌+◌, ◌<◌, ◌≤◌, ◌*◌, ◌/◌, ◌%◌, ◌^◌, ◌⊎◌, inl, inr, ⊎_elim, ◌==◌, Bool, true, false, ◌&&◌, ◌||◌, not, if◌then◌else◌, List, [], ◌∷◌, ◌++◌, length, refl, sym, ap, ◌∙◌, subst, arith, append-nil}
use mathlib.Core.Logic.{dite}
use native.Mathlib.Decide.{ℕ_discrete}
use mir.Syntax.{w64}
use Rattle.std.specs.Int.{bit_at, bit_not}
use Rattle.std.specs.Int.Bits.{and_lt, bit_and}
use Rattle.std.specs.List.{AllByRecursion}
use Rattle.std.specs.List.Sorted.{IsStrictlySortedBy}
use Rattle.std.proofs.lemmas.Bool.{eq-eqb, false≢true, ne_eqb}
use Rattle.std.proofs.lemmas.Nat.Bits.{bit_at-lt, bit_at-zero, same_from_bits_below}
use Rattle.code_sets.specs.declared.merges.Operation.{Operation}
use Rattle.code_sets.specs.declared.merges.Operation.TheVariants.{Union, Inter, Minus}
use Rattle.code_sets.specs.declared.word.Word.{Word}
use Rattle.code_sets.specs.Members.{AreMade, IsWithin, has_code}
use Rattle.code_sets.specs.Merges.{IsFirstNumber, IsParted, keeps, word_of}
use Rattle.code_sets.specs.Words.{AreWords, codes_of_word, codes_of_words, has_bit, numbers_of}
use Rattle.code_sets.proofs.Bits.{word_none}
use Rattle.code_sets.proofs.Made.{words_put}
use Rattle.code_sets.proofs.Rising.{each_both, each_map, has_both, less_is, rises_none}
use Rattle.code_sets.proofs.Words.{has_each, has_others, no_bit, numbers_both, word_has, word_lacks, words_both, words_lack_above, words_rise}

-- ---- truth values

or_false : (b : Bool) → (b || false) ≡ b
or_false true = refl
or_false false = refl

or_split : (a b : Bool) → (a || b) ≡ true → (a ≡ true) ⊎ (b ≡ true)
or_split true b e = inl refl
or_split false b e = inr e

or_left : (a b : Bool) → a ≡ true → (a || b) ≡ true
or_left a b e = ap (λ x. x || b) e

or_right : (a b : Bool) → b ≡ true → (a || b) ≡ true
or_right true b e = refl
or_right false b e = e

kept_by : (a b : Bool) → (a && not b) ≡ false → a ≡ true → b ≡ true
kept_by true true e f = refl
kept_by true false e f = absurd (false≢true (sym e))
kept_by false b e f = absurd (false≢true f)

apart_from : {A : Type 0} (b : Bool) → b ≡ true → b ≡ false → A
apart_from b e f = absurd (false≢true (sym f ∙ e))

-- ---- the lowest number

pub empty : (xs : List Word) → length xs ≡ 0 → xs ≡ []
empty [] e = refl
empty (x ∷ xs) e = absurd (omega (arith, e))

from_first : (w : Word) (es : List Word) → AreWords (w ∷ es) → (n : ℕ) → n ≤ w.number → AllByRecursion (λ m. n ≤ m) (numbers_of (w ∷ es))
unfolding IsStrictlySortedBy
from_first w es h n le = (le, each_map (λ m l. let less = less_is w.number m l in omega (arith, le, less)) (numbers_of es) h.rise.0)

first_in : (w : Word) (es xs : List Word) → xs ≡ w ∷ es → AreWords xs → (n : ℕ) → n ≤ w.number → AllByRecursion (λ m. n ≤ m) (numbers_of xs)
first_in w es xs e h n le = subst (λ (l : List Word). AllByRecursion (λ m. n ≤ m) (numbers_of l)) (sym e) (from_first w es (subst AreWords e h) n le)

above_first : (w : Word) (es xs : List Word) → xs ≡ w ∷ es → (n : ℕ) → AllByRecursion (λ m. n ≤ m) (numbers_of xs) → n ≤ w.number
above_first w es xs e n h = (subst (λ (l : List Word). AllByRecursion (λ m. n ≤ m) (numbers_of l)) e h).0

small_first : (w : Word) (es xs : List Word) → xs ≡ w ∷ es → AreWords xs → w.number < 2 ^ 26
small_first w es xs e h = (subst AreWords e h).each.0.small

none_in : (n : ℕ) (xs : List Word) → xs ≡ [] → AllByRecursion (λ m. n ≤ m) (numbers_of xs)
none_in n xs e = subst (λ (l : List Word). AllByRecursion (λ m. n ≤ m) (numbers_of l)) (sym e) tt

module _ (xs ys : List Word) (h : AreWords xs) (k : AreWords ys) where
  pub first_of_both : (v w : Word) (vs ws : List Word) (n : ℕ) → xs ≡ v ∷ vs → ys ≡ w ∷ ws → n ≤ v.number → n ≤ w.number → (n ≡ v.number) ⊎ (n ≡ w.number) → IsFirstNumber xs ys n
  first_of_both v w vs ws n e f le ge one = record {
    ours_from = first_in v vs xs e h n le;
    theirs_from = first_in w ws ys f k n ge;
    greatest = λ m a b.
        let on_our = above_first v vs xs e m a in
        let on_their = above_first w ws ys f m b in
        ⊎_elim (λ i. omega (arith, i, on_our)) (λ i. omega (arith, i, on_their)) one;
    small = let our = small_first v vs xs e h in omega (arith, our, le);
  }

  pub first_of_ours : (v : Word) (vs : List Word) → xs ≡ v ∷ vs → ys ≡ [] → IsFirstNumber xs ys v.number
  first_of_ours v vs e f = record {
    ours_from = first_in v vs xs e h v.number (omega arith);
    theirs_from = none_in v.number ys f;
    greatest = λ m a b. above_first v vs xs e m a;
    small = small_first v vs xs e h;
  }

  pub first_of_theirs : (w : Word) (ws : List Word) → xs ≡ [] → ys ≡ w ∷ ws → IsFirstNumber xs ys w.number
  first_of_theirs w ws e f = record {
    ours_from = none_in w.number xs e;
    theirs_from = first_in w ws ys f k w.number (omega arith);
    greatest = λ m a b. above_first w ws ys f m b;
    small = small_first w ws ys f k;
  }

-- ---- words without that of a number

parted_first : (w : Word) (es : List Word) → AreWords (w ∷ es) → IsParted (w ∷ es) w.number w.bits es
unfolding IsStrictlySortedBy
parted_first w es h = record {
  parts = refl;
  left = record { rise = h.rise.1; each = h.each.1 };
  after = each_map (λ m l. less_is w.number m l) (numbers_of es) h.rise.0;
  shorter = inl (omega arith);
}

pub parted_here : (es rest : List Word) (w : Word) (n : ℕ) → es ≡ w ∷ rest → w.number ≡ n → AreWords es → IsParted es n w.bits rest
parted_here es rest w n e same h =
    subst (λ (m : ℕ). IsParted es m w.bits rest) same (subst (λ (l : List Word). IsParted l w.number w.bits rest) (sym e) (parted_first w rest (subst AreWords e h)))

not_parted : (es : List Word) (n : ℕ) → AreWords es → AllByRecursion (λ m. n < m) (numbers_of es) → IsParted es n 0 es
not_parted es n h after = record {
  parts = sym (ap (λ (l : List ℕ). l ++ codes_of_words es) (word_none n));
  left = h;
  after = after;
  shorter = inr refl;
}

pub parted_none : (es : List Word) (n : ℕ) → es ≡ [] → AreWords es → IsParted es n 0 es
parted_none es n e h = not_parted es n h (subst (λ (l : List Word). AllByRecursion (λ m. n < m) (numbers_of l)) (sym e) tt)

pub parted_later : (es rest : List Word) (w : Word) (n : ℕ) → es ≡ w ∷ rest → w.number ≢ n → AreWords es → AllByRecursion (λ m. n ≤ m) (numbers_of es) → IsParted es n 0 es
parted_later es rest w n e other h from =
    let le = above_first w rest es e n from in
    not_parted es n h (each_map (λ m l. omega (arith, l)) (numbers_of es) (first_in w rest es e h (n + 1) (let less : n < w.number = omega (arith, le, other) in omega (arith, less))))

-- one of two is shorter without the word of the lowest number
pub fewer : (xs ys left right : List Word) (n x y : ℕ) → IsFirstNumber xs ys n → IsParted xs n x left → IsParted ys n y right → length left + length right < length xs + length ys
fewer xs ys left right n x y first p q =
    ⊎_elim
    (λ a. ⊎_elim (λ b. omega (arith, a, b)) (λ b. let e = ap length b in omega (arith, a, e)) q.shorter)
    (λ a. ⊎_elim (λ b. let e = ap length a in omega (arith, b, e)) (λ b. let above = first.greatest (n + 1) (later xs left a p.after) (later ys right b q.after) in absurd (omega (arith, above))) q.shorter)
    p.shorter
  where
    later : (l rest : List Word) → rest ≡ l → AllByRecursion (λ m. n < m) (numbers_of rest) → AllByRecursion (λ m. n + 1 ≤ m) (numbers_of l)
    later l rest e h = each_map (λ m less. omega (arith, less)) (numbers_of l) (subst (λ (k : List Word). AllByRecursion (λ m. n < m) (numbers_of k)) e h)

-- ---- a word is put behind the others

record Pushed (words next : List Word) (n bits : ℕ) : Type 0 where
  are : AreWords next
  below : AllByRecursion (λ m. m < n + 1) (numbers_of next)
  codes : codes_of_words next ≡ codes_of_words words ++ codes_of_word n bits

pub no_words : AreWords []
no_words = record { rise = rises_none; each = tt }

pushed_none : (words : List Word) (n bits : ℕ) → AreWords words → AllByRecursion (λ m. m < n) (numbers_of words) → bits ≡ 0 → Pushed words (words ++ word_of n bits) n bits
pushed_none words n bits h below e =
    let nothing : word_of n bits ≡ [] = ap (λ b. if b then [] else record { number = n; bits = bits } ∷ []) (eq-eqb bits 0 e) in
    let same : words ≡ words ++ word_of n bits = sym (append-nil words) ∙ ap (λ (l : List Word). words ++ l) (sym nothing) in
    subst (λ (l : List Word). Pushed words l n bits) same (record {
      are = h;
      below = each_map (λ m l. omega (arith, l)) (numbers_of words) below;
      codes = sym (append-nil (codes_of_words words)) ∙ ap (λ (l : List ℕ). codes_of_words words ++ l) (sym (word_none n) ∙ ap (codes_of_word n) (sym e));
    })

pushed_some : (words : List Word) (n bits : ℕ) → AreWords words → AllByRecursion (λ m. m < n) (numbers_of words) → n < 2 ^ 26 → bits < 2 ^ 64 → bits ≢ 0 → Pushed words (words ++ word_of n bits) n bits
pushed_some words n bits h below small fits some =
    let w : Word = record { number = n; bits = bits } in
    let one : word_of n bits ≡ w ∷ [] = ap (λ b. if b then [] else w ∷ []) (ne_eqb bits 0 some) in
    subst (λ (l : List Word). Pushed words (words ++ l) n bits) (sym one) (record {
      are = words_put words [] w h no_words (record { small = small; some = some; fits = fits }) below tt;
      below = subst (AllByRecursion (λ m. m < n + 1)) (sym (numbers_both words (w ∷ []))) (each_both (λ m. m < n + 1) (numbers_of words) (n ∷ []) (each_map (λ m l. omega (arith, l)) (numbers_of words) below) (omega arith, tt));
      codes = words_both words (w ∷ []) ∙ ap (λ (l : List ℕ). codes_of_words words ++ l) (append-nil (codes_of_word n bits));
    })

pushed : (words : List Word) (n bits : ℕ) → AreWords words → AllByRecursion (λ m. m < n) (numbers_of words) → n < 2 ^ 26 → bits < 2 ^ 64 → Pushed words (words ++ word_of n bits) n bits
pushed words n bits h below small fits = dite (ℕ_discrete bits 0) (pushed_none words n bits h below) (pushed_some words n bits h below small fits)

-- ---- the codes of a word apart from the others

module _ (xs rest : List Word) (n x c : ℕ) (p : IsParted xs n x rest) where
  has_parts : has_code (codes_of_words xs) c ≡ (has_code (codes_of_word n x) c || has_code (codes_of_words rest) c)
  has_parts = ap (λ (l : List ℕ). has_code l c) p.parts ∙ has_both (codes_of_word n x) (codes_of_words rest) c

  lacks_after : c / 64 ≡ n → has_code (codes_of_words rest) c ≡ false
  lacks_after same = words_lack_above rest n c p.after same

module _ (of : Bool → Bool → Bool) where
  at_word : of false false ≡ false → (new a b our their : Bool) → our ≡ false → their ≡ false → new ≡ of a b → (new || of our their) ≡ of (a || our) (b || their)
  at_word none new a b our their e f g =
      ap (λ p. new || of p their) e
      ∙ ap (λ q. new || of false q) f
      ∙ ap (λ p. new || p) none
      ∙ or_false new
      ∙ g
      ∙ sym (ap (λ p. of (a || p) (b || their)) e ∙ ap (λ q. of (a || false) (b || q)) f ∙ ap (λ p. of p (b || false)) (or_false a) ∙ ap (λ q. of a q) (or_false b))

  off_word : (new a b our their : Bool) → new ≡ false → a ≡ false → b ≡ false → (new || of our their) ≡ of (a || our) (b || their)
  off_word new a b our their e f g = ap (λ p. p || of our their) e ∙ sym (ap (λ p. of (p || our) (b || their)) f ∙ ap (λ q. of our (q || their)) g)

-- ---- the merge

-- the words so far, with what is to be made of those that are left, have what is to be made of two sets
pub record Merges (of : Bool → Bool → Bool) (xs ys : List ℕ) (ours theirs words : List Word) : Type 0 where
  pub bound : ℕ
  pub our_words : AreWords ours
  pub their_words : AreWords theirs
  pub new_words : AreWords words
  pub our_numbers : AllByRecursion (λ n. bound ≤ n) (numbers_of ours)
  pub their_numbers : AllByRecursion (λ n. bound ≤ n) (numbers_of theirs)
  pub new_numbers : AllByRecursion (λ n. n < bound) (numbers_of words)
  pub members : (c : ℕ) → (has_code (codes_of_words words) c || of (has_code (codes_of_words ours) c) (has_code (codes_of_words theirs) c)) ≡ of (has_code xs c) (has_code ys c)

from_nothing : (ns : List ℕ) → AllByRecursion (λ n. 0 ≤ n) ns
from_nothing [] = tt
from_nothing (n ∷ ns) = (omega arith, from_nothing ns)

pub merges_none : (of : Bool → Bool → Bool) (ours theirs words : List Word) → words ≡ [] → AreWords ours → AreWords theirs → Merges of (codes_of_words ours) (codes_of_words theirs) ours theirs words
merges_none of ours theirs words e h k = subst (Merges of (codes_of_words ours) (codes_of_words theirs) ours theirs) (sym e) (record {
  bound = 0;
  our_words = h;
  their_words = k;
  new_words = no_words;
  our_numbers = from_nothing (numbers_of ours);
  their_numbers = from_nothing (numbers_of theirs);
  new_numbers = tt;
  members = λ c. refl;
})

module _ (of : Bool → Bool → Bool) (none : of false false ≡ false) (xs ys : List ℕ) (ours theirs words our_rest their_rest next : List Word) (n x y bits : ℕ) where
  pub merges_next : bits < 2 ^ 64 → Merges of xs ys ours theirs words → IsFirstNumber ours theirs n → IsParted ours n x our_rest → IsParted theirs n y their_rest
      → ((c : ℕ) → has_bit bits c ≡ of (has_bit x c) (has_bit y c)) → next ≡ words ++ word_of n bits → Merges of xs ys our_rest their_rest next
  merges_next fits before first p q h e =
      let low = first.greatest before.bound before.our_numbers before.their_numbers in
      let put : Pushed words next n bits
      = subst (λ (l : List Word). Pushed words l n bits) (sym e) (pushed words n bits before.new_words (each_map (λ m l. omega (arith, l, low)) (numbers_of words) before.new_numbers) first.small fits) in
      record {
        bound = n + 1;
        our_words = p.left;
        their_words = q.left;
        new_words = put.are;
        our_numbers = each_map (λ m l. omega (arith, l)) (numbers_of our_rest) p.after;
        their_numbers = each_map (λ m l. omega (arith, l)) (numbers_of their_rest) q.after;
        new_numbers = put.below;
        members = λ c.
            let old = has_code (codes_of_words words) c in
            let new = has_code (codes_of_word n bits) c in
            let a = has_code (codes_of_word n x) c in
            let b = has_code (codes_of_word n y) c in
            let our = has_code (codes_of_words our_rest) c in
            let their = has_code (codes_of_words their_rest) c in
            let word : (new || of our their) ≡ of (a || our) (b || their)
            = dite (ℕ_discrete (c / 64) n)
            (λ same.
            at_word of none new a b our their (lacks_after ours our_rest n x c p same) (lacks_after theirs their_rest n y c q same)
            (word_has n bits c same ∙ h c ∙ sym (ap (λ t. of t b) (word_has n x c same) ∙ ap (λ t. of (has_bit x c) t) (word_has n y c same))))
            (λ other. off_word of new a b our their (word_lacks n bits c other) (word_lacks n x c other) (word_lacks n y c other)) in
            ap (λ t. t || of our their) (ap (λ (l : List ℕ). has_code l c) put.codes ∙ has_both (codes_of_words words) (codes_of_word n bits) c)
            ∙ regroup old new (of our their)
            ∙ ap (λ t. old || t) (word ∙ sym (ap (λ t. of t (has_code (codes_of_words theirs) c)) (has_parts ours our_rest n x c p) ∙ ap (λ t. of (a || our) t) (has_parts theirs their_rest n y c q)))
            ∙ before.members c;
      }
    where
      regroup : (a b t : Bool) → ((a || b) || t) ≡ (a || (b || t))
      regroup true b t = refl
      regroup false b t = refl

pub merges_all : (of : Bool → Bool → Bool) → of false false ≡ false → (xs ys : List ℕ) (ours theirs words : List Word) → ours ≡ [] → theirs ≡ [] → Merges of xs ys ours theirs words → AreMade of xs ys (codes_of_words words)
merges_all of none xs ys ours theirs words e f h = record {
  rises = words_rise words h.new_words.rise;
  members = λ c.
      let old = has_code (codes_of_words words) c in
      sym (ap (λ (l : List Word). old || of (has_code (codes_of_words l) c) (has_code (codes_of_words theirs) c)) e
      ∙ ap (λ (l : List Word). old || of false (has_code (codes_of_words l) c)) f
      ∙ ap (λ t. old || t) none
      ∙ or_false old)
      ∙ h.members c;
}

-- ---- whether one set is within another

-- that depends on what is left of the two
pub record Withins (xs ys : List ℕ) (ours theirs : List Word) : Type 0 where
  pub our_words : AreWords ours
  pub their_words : AreWords theirs
  pub rest : IsWithin (codes_of_words ours) (codes_of_words theirs) → IsWithin xs ys
  pub whole : IsWithin xs ys → IsWithin (codes_of_words ours) (codes_of_words theirs)

pub withins_next : (xs ys : List ℕ) (ours theirs our_rest their_rest : List Word) (n x y : ℕ) → y < 2 ^ 64 → Withins xs ys ours theirs
    → IsParted ours n x our_rest → IsParted theirs n y their_rest → bit_and x (bit_not w64 y) ≡ 0 → Withins xs ys our_rest their_rest
withins_next xs ys ours theirs our_rest their_rest n x y small before p q none = record {
  our_words = p.left;
  their_words = q.left;
  rest = λ within. before.rest (λ c has. has_parts theirs their_rest n y c q ∙ dite (ℕ_discrete (c / 64) n)
      (λ same. or_left _ _ (⊎_elim
      (λ a. word_has n y c same ∙ kept_by (has_bit x c) (has_bit y c) (lost c) (sym (word_has n x c same) ∙ a))
      (λ b. apart_from _ b (lacks_after ours our_rest n x c p same))
      (parts c has)))
      (λ other. or_right _ _ (⊎_elim (λ a. apart_from _ a (word_lacks n x c other)) (λ b. within c b) (parts c has))));
  whole = λ within c has.
      ⊎_elim
      (λ a. dite (ℕ_discrete (c / 64) n) (λ same. apart_from _ has (lacks_after ours our_rest n x c p same)) (λ other. apart_from _ a (word_lacks n y c other)))
      (λ b. b)
      (or_split _ _ (sym (has_parts theirs their_rest n y c q) ∙ before.whole within c (has_parts ours our_rest n x c p ∙ or_right _ _ has)));
}
  where
    lost : (c : ℕ) → (has_bit x c && not (has_bit y c)) ≡ false
    lost c = sym (has_each x (bit_not w64 y) c ∙ ap (λ b. has_bit x c && b) (has_others y c small)) ∙ ap (λ b. has_bit b c) none ∙ no_bit c

    parts : (c : ℕ) → has_code (codes_of_words ours) c ≡ true → (has_code (codes_of_word n x) c ≡ true) ⊎ (has_code (codes_of_words our_rest) c ≡ true)
    parts c has = or_split _ _ (sym (has_parts ours our_rest n x c p) ∙ has)

-- no code is within every set
pub withins_all : (xs ys : List ℕ) (ours theirs : List Word) → ours ≡ [] → Withins xs ys ours theirs → IsWithin xs ys
withins_all xs ys ours theirs e h = h.rest (λ c has. apart_from _ has (ap (λ (l : List Word). has_code (codes_of_words l) c) e))

-- where a bit of the one set is not in the other, the codes aren't
bits_within : (xs ys : List ℕ) (ours theirs our_rest their_rest : List Word) (n x y : ℕ) → x < 2 ^ 64 → y < 2 ^ 64 → Withins xs ys ours theirs
    → IsParted ours n x our_rest → IsParted theirs n y their_rest → IsWithin xs ys → bit_and x (bit_not w64 y) ≡ 0
bits_within xs ys ours theirs our_rest their_rest n x y low small before p q within =
    same_from_bits_below 64 (bit_and x (bit_not w64 y)) 0 (and_lt 64 x (bit_not w64 y) low not_small) (omega arith) (λ i l. no_bit_at (bit_at (bit_and x (bit_not w64 y)) i) (bit_at-lt _ i) (lost i l) ∙ sym (bit_at-zero i))
  where
    not_small : bit_not w64 y < 2 ^ 64
    not_small = omega arith

    no_bit_at : (a : ℕ) → a < 2 → (a == 1) ≡ false → a ≡ 0
    no_bit_at zero l e = refl
    no_bit_at (suc zero) l e = absurd (false≢true (sym e))
    no_bit_at (suc (suc a)) l e = absurd (omega (arith, l))

    not_both : (a b : Bool) → (a ≡ true → b ≡ true) → (a && not b) ≡ false
    not_both true b h = ap not (h refl)
    not_both false b h = refl

    has_theirs : (c : ℕ) → c / 64 ≡ n → has_bit x c ≡ true → has_bit y c ≡ true
    has_theirs c same a =
        ⊎_elim
        (λ b. sym (word_has n y c same) ∙ b)
        (λ b. apart_from _ b (lacks_after theirs their_rest n y c q same))
        (or_split _ _ (sym (has_parts theirs their_rest n y c q) ∙ before.whole within c (has_parts ours our_rest n x c p ∙ or_left _ _ (word_has n x c same ∙ a))))

    lost : (i : ℕ) → i < 64 → (bit_at (bit_and x (bit_not w64 y)) i == 1) ≡ false
    lost i l =
        let c = 64 * n + i in
        let at : c % 64 ≡ i = omega (arith, l) in
        let same : c / 64 ≡ n = omega (arith, l) in
        ap (λ k. bit_at (bit_and x (bit_not w64 y)) k == 1) (sym at)
        ∙ has_each x (bit_not w64 y) c
        ∙ ap (λ b. has_bit x c && b) (has_others y c small)
        ∙ not_both (has_bit x c) (has_bit y c) (has_theirs c same)

pub beyond : (xs ys : List ℕ) (ours theirs our_rest their_rest : List Word) (n x y : ℕ) → x < 2 ^ 64 → y < 2 ^ 64 → Withins xs ys ours theirs
    → IsParted ours n x our_rest → IsParted theirs n y their_rest → bit_and x (bit_not w64 y) ≢ 0 → ¬ IsWithin xs ys
beyond xs ys ours theirs our_rest their_rest n x y low small before p q some within = some (bits_within xs ys ours theirs our_rest their_rest n x y low small before p q within)

-- ---- which codes are kept

pub keeps_none : (o : Operation) → keeps o false false ≡ false
keeps_none Union = refl
keeps_none Inter = refl
keeps_none Minus = refl
