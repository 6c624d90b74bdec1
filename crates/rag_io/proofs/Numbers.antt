-- Numbers of texts in a pool.
use Rattle.std.proofs.Common.{◌≡◌, ◌≢◌, ◌↔◌, ℕ, zero, suc, ◌+◌, ◌<◌, List, [], ◌∷◌, ◌++◌, length, map, get_or, position, slice_get, Bool, true, false, cond, not, ◌||◌, ◌&&◌, nat_lt, Option, Some, None, Vec, option_map, IfSome, bytes_eq, one-add, length-append, refl, sym, ap, ◌∙◌, arith}
use Rattle.std.proofs.Math.ListN.{length-map}
use Rattle.std.specs.List.{list_any, position_or_len}
use Rattle.std.proofs.lemmas.Bool.{cond-true, cond-false, and_parts, not-true, false_from_ne_true, both_ways, lt-ltb, or_parts}
use Rattle.std.proofs.lemmas.List.Folds.{list_any-append, list_any_at}
use Rattle.std.proofs.lemmas.List.Quantifiers.{position-Some}
use Rattle.std.proofs.lemmas.Option.{slice_get-get_or, slice_get_within, slice_get-map, slice_get_read, get_or_from_slice_get}
use Rattle.std.proofs.lemmas.Slice.Eq.{bytes_eq-Decides}
use Rattle.std.specs.declared.alloc.Global.{Global}
use Rattle.indexmap.specs.IndexSet.{insert_key}
use Rattle.std.proofs.lemmas.List.{map_push}
use Rattle.rag_io.specs.Distinct.{are_distinct}
use Rattle.rag_io.specs.Pool.{text_of, most_texts, ArePooled, number_of}

-- the first index that passes, of a list and of what its elements are seen as
or_len-map : {X Y : Type 0} (p : Y → Bool) (f : X → Y) (xs : List X) → position_or_len (λ x. p (f x)) xs ≡ position_or_len p (map f xs)
or_len-map p f [] = refl
or_len-map p f (x ∷ xs) = ap (λ (n : ℕ). cond (not (p (f x))) (1 + n) 0) (or_len-map p f xs)

-- a text is equal to another where the other is equal to it
unequal : (text other : List ℕ) → bytes_eq text other ≡ false → bytes_eq other text ≡ false
unequal text other apart =
    false_from_ne_true _ (λ same. both_ways _ apart ((bytes_eq-Decides text other).1 (sym ((bytes_eq-Decides other text).0 same))))

-- the number of a text, by the keys of the set
pub position-keys : (text : List ℕ) (keys : List (Vec ℕ Global)) → position (λ key. bytes_eq text key.items) keys ≡ number_of (map text_of keys) text
position-keys text keys =
    let at : position_or_len (λ key. bytes_eq text key.items) keys ≡ position_or_len (bytes_eq text) (map text_of keys) = or_len-map (bytes_eq text) text_of keys in
    let long : length keys ≡ length (map text_of keys) = sym (length-map keys text_of) in
    (λ i. cond (nat_lt (at i) (long i)) (Some (at i)) None)

-- whether a text is there, by the keys of the set
pub list_any-keys : (text : List ℕ) (keys : List (Vec ℕ Global)) → list_any (λ key. bytes_eq text key.items) keys ≡ list_any (bytes_eq text) (map text_of keys)
list_any-keys text [] = refl
list_any-keys text (key ∷ keys) = ap (λ (there : Bool). bytes_eq text key.items || there) (list_any-keys text keys)

-- a text that is there has an index below the length
or_len-found : (text : List ℕ) (texts : List (List ℕ)) → list_any (bytes_eq text) texts ≡ true → position_or_len (bytes_eq text) texts < length texts
or_len-found text [] there = cc
or_len-found text (other ∷ texts) there = go (bytes_eq text other) refl (or_len-found text texts)
  where
    go : (same : Bool) → bytes_eq text other ≡ same → (list_any (bytes_eq text) texts ≡ true → position_or_len (bytes_eq text) texts < length texts)
        → position_or_len (bytes_eq text) (other ∷ texts) < length (other ∷ texts)
    go true e within =
        let here : position_or_len (bytes_eq text) (other ∷ texts) ≡ 0 = ap (λ (same : Bool). cond (not same) (1 + position_or_len (bytes_eq text) texts) 0) e in
        omega (arith, here)
    go false e within =
        let behind : position_or_len (bytes_eq text) (other ∷ texts) ≡ 1 + position_or_len (bytes_eq text) texts = ap (λ (same : Bool). cond (not same) (1 + position_or_len (bytes_eq text) texts) 0) e in
        let rest : position_or_len (bytes_eq text) texts < length texts = within (sym (ap (λ (same : Bool). same || list_any (bytes_eq text) texts) e) ∙ there) in
        omega (arith, behind, rest)

-- a text that has no number is not there
pub absent : (text : List ℕ) (texts : List (List ℕ)) → number_of texts text ≡ None → list_any (bytes_eq text) texts ≡ false
absent text texts none =
    false_from_ne_true _ (λ there.
    let found : number_of texts text ≡ Some (position_or_len (bytes_eq text) texts) = cond-true _ _ _ (lt-ltb _ _ (or_len-found text texts there)) in
    let never : None ≡ Some (position_or_len (bytes_eq text) texts) = sym none ∙ found in
    cc)

-- the text of a number
pub text_at : (text : List ℕ) (texts : List (List ℕ)) (number : ℕ) → number_of texts text ≡ Some number → slice_get texts number ≡ Some text
text_at text texts number e =
    let found = position-Some (bytes_eq text) texts number [] e in
    slice_get-get_or texts number [] found.0 ∙ ap Some (sym ((bytes_eq-Decides text (get_or texts number [])).0 found.1))

-- a text that isn't there differs from the text at each number
differs : (other text : List ℕ) (texts : List (List ℕ)) (number : ℕ) → list_any (bytes_eq other) texts ≡ false → slice_get texts number ≡ Some text → bytes_eq text other ≡ false
differs other text texts number apart at =
    false_from_ne_true _ (λ same.
    let is : other ≡ get_or texts number [] = sym ((bytes_eq-Decides text other).0 same) ∙ sym (get_or_from_slice_get texts number text [] at) in
    both_ways _ apart (list_any_at (bytes_eq other) texts number [] (slice_get_within texts number text at) ((bytes_eq-Decides other (get_or texts number [])).1 is)))

-- among distinct texts the index of a text is the first at which it stands
or_len-at : (text : List ℕ) (texts : List (List ℕ)) (number : ℕ) → are_distinct bytes_eq texts ≡ true → slice_get texts number ≡ Some text → position_or_len (bytes_eq text) texts ≡ number
or_len-at text [] number distinct at = cc
or_len-at text (other ∷ texts) zero distinct at =
    let same : text ≡ other = cc in
    ap (λ (same : Bool). cond (not same) (1 + position_or_len (bytes_eq text) texts) 0) ((bytes_eq-Decides text other).1 same)
or_len-at text (other ∷ texts) (suc number) distinct at =
    let parts = and_parts (not (list_any (bytes_eq other) texts)) (are_distinct bytes_eq texts) distinct in
    let apart : bytes_eq text other ≡ false = differs other text texts number (not-true _ parts.0) at in
    ap (λ (same : Bool). cond (not same) (1 + position_or_len (bytes_eq text) texts) 0) apart
    ∙ ap (λ (n : ℕ). 1 + n) (or_len-at text texts number parts.1 at) ∙ one-add number

-- the number of the text at an index
pub number_at : (text : List ℕ) (texts : List (List ℕ)) (number : ℕ) → are_distinct bytes_eq texts ≡ true → slice_get texts number ≡ Some text → number_of texts text ≡ Some number
number_at text texts number distinct at =
    let is : position_or_len (bytes_eq text) texts ≡ number = or_len-at text texts number distinct at in
    let within : position_or_len (bytes_eq text) texts < length texts = omega (arith, is, slice_get_within texts number text at) in
    cond-true _ _ _ (lt-ltb _ _ within) ∙ ap Some is

-- the text that was put last
pub slice_get-last : (texts : List (List ℕ)) (text : List ℕ) → slice_get (texts ++ text ∷ []) (length texts) ≡ Some text
slice_get-last [] text = refl
slice_get-last (other ∷ texts) text = slice_get-last texts text

-- the first text stays where another is put last
slice_get-first : (texts : List (List ℕ)) (first text : List ℕ) → slice_get texts 0 ≡ Some first → slice_get (texts ++ text ∷ []) 0 ≡ Some first
slice_get-first [] first text at = cc
slice_get-first (other ∷ texts) first text at = at

-- distinct texts, with one that isn't there
distinct_push : (texts : List (List ℕ)) (text : List ℕ) → are_distinct bytes_eq texts ≡ true → list_any (bytes_eq text) texts ≡ false → are_distinct bytes_eq (texts ++ text ∷ []) ≡ true
distinct_push [] text distinct apart = refl
distinct_push (other ∷ texts) text distinct apart =
    let parts = and_parts (not (list_any (bytes_eq other) texts)) (are_distinct bytes_eq texts) distinct in
    let differ = or_parts (bytes_eq text other) (list_any (bytes_eq text) texts) apart in
    let none : list_any (bytes_eq other) (texts ++ text ∷ []) ≡ false = list_any-append (bytes_eq other) texts (text ∷ [])
    ∙ (λ i. not-true _ parts.0 i || (unequal text other differ.0 i || false)) in
    (λ i. not (none i) && distinct_push texts text parts.1 differ.1 i)

-- the texts of a pool, with one that isn't there
pub pooled_push : (texts : List (List ℕ)) (text : List ℕ) → ArePooled texts → number_of texts text ≡ None → length texts < most_texts → ArePooled (texts ++ text ∷ [])
pooled_push texts text pooled none room = record {
  distinct = distinct_push texts text pooled.distinct (absent text texts none);
  few = omega (arith, length-append texts (text ∷ []), room);
  empty_first = slice_get-first texts [] text pooled.empty_first;
}

-- the number of a text that was put last
pub number_of-last : (texts : List (List ℕ)) (text : List ℕ) → ArePooled texts → number_of texts text ≡ None → number_of (texts ++ text ∷ []) text ≡ Some (length texts)
number_of-last texts text pooled none =
    number_at text (texts ++ text ∷ []) (length texts) (distinct_push texts text pooled.distinct (absent text texts none)) (slice_get-last texts text)

-- what is found is the number of the text
pub found_text : (text : List ℕ) (texts : List (List ℕ)) (number : Option ℕ) → number ≡ number_of texts text → IfSome number (λ n. slice_get texts n ≡ Some text)
found_text text texts None e = tt
found_text text texts (Some number) e = text_at text texts number (sym e)

-- the keys of a set, with a text that isn't there
pub keys-insert : (copy : Vec ℕ Global) (text : List ℕ) (old new : List (Vec ℕ Global)) → number_of (map text_of old) text ≡ None → copy.items ≡ text
    → new ≡ insert_key (λ x y. bytes_eq x.items y.items) old copy → map text_of new ≡ map text_of old ++ text ∷ []
keys-insert copy text old new none items inserted =
    let apart : list_any (λ key. bytes_eq copy.items key.items) old ≡ false =
    ap (λ (bytes : List ℕ). list_any (λ key. bytes_eq bytes key.items) old) items ∙ list_any-keys text old ∙ absent text (map text_of old) none in
    ap (map text_of) (inserted ∙ cond-false _ _ _ apart) ∙ map_push text_of old copy ∙ ap (λ (bytes : List ℕ). map text_of old ++ bytes ∷ []) items

-- what a text that is put last makes of a pool
pub record IsAdded (new : List (List ℕ)) (text : List ℕ) (number : ℕ) : Type 0 where
  pub pooled : ArePooled new
  pub numbered : number_of new text ≡ Some number
  pub at : slice_get new number ≡ Some text

-- a text that wasn't there is put last
pub put_last : {texts old new : List (List ℕ)} {text : List ℕ} (number : ℕ) → texts ≡ old → ArePooled texts → None ≡ number_of old text → number ≡ length old → number ≢ most_texts
    → new ≡ texts ++ text ∷ [] → IsAdded new text number
put_last {texts} {old} {new} {text} number is pooled none counted room pushed =
    let absent_here : number_of texts text ≡ None = ap (λ (xs : List (List ℕ)). number_of xs text) is ∙ sym none in
    let count : number ≡ length texts = counted ∙ ap (λ (xs : List (List ℕ)). length xs) (sym is) in
    let few : length texts < most_texts = omega (arith, pooled.few) in
    rw (pushed, count) (record {
      pooled = pooled_push texts text pooled absent_here few;
      numbered = number_of-last texts text pooled absent_here;
      at = slice_get-last texts text;
    })

-- the text behind the key at an index
pub slice_get-keys : (keys : List (Vec ℕ Global)) (number : ℕ) (key : Vec ℕ Global) → number < length (map text_of keys) → key ≡ get_or keys number key
    → slice_get (map text_of keys) number ≡ Some key.items
slice_get-keys keys number key within is =
    let there : number < length keys = omega (arith, within, length-map keys text_of) in
    slice_get-map text_of keys number ∙ ap (option_map text_of) (slice_get_read keys (length keys) number key refl there is)

-- two texts of a pool are equal where their numbers are, and their numbers where they are
pub same_number : (texts : List (List ℕ)) (m n : ℕ) (a b : List ℕ) → ArePooled texts → slice_get texts m ≡ Some a → slice_get texts n ≡ Some b → (a ≡ b) ↔ (m ≡ n)
same_number texts m n a b pooled at_m at_n =
    let first : number_of texts a ≡ Some m = number_at a texts m pooled.distinct at_m in
    let second : number_of texts b ≡ Some n = number_at b texts n pooled.distinct at_n in
    ((λ same. let e : Some m ≡ Some n = sym first ∙ ap (number_of texts) same ∙ second in cc), (λ same. let e : Some a ≡ Some b = sym at_m ∙ ap (slice_get texts) same ∙ at_n in cc))
