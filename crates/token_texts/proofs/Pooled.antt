-- A text goes into a pool: which numbers stay, and what adding it answers.
use Rattle.std.proofs.Common.{◌≡◌, ℕ, ◌+◌, ◌<◌, ◌≤◌, List, [], ◌∷◌, ◌++◌, Bool, true, false, ◌&&◌, nat_le, nat_lt, length, get_or, Option, Some, None, is_none, is_some, if◌then◌else◌, refl, sym, ap, subst, ◌∙◌, append_assoc, arith, length-append}
use Rattle.std.proofs.lemmas.List.{append-nil, get_or_append_left, get_or_default}
use Rattle.std.proofs.lemmas.List.Folds.{list_any_at}
use Rattle.std.proofs.lemmas.List.Quantifiers.{position-Some}
use Rattle.std.proofs.lemmas.List.Sums.{position_or_len_is}
use Rattle.std.specs.List.{position_or_len}
use Rattle.std.proofs.lemmas.Bool.{both_ways, cond-true, false_from_ne_true, lt-ltb}
use Rattle.std.proofs.lemmas.Bool.Decides.{nat_tests}
use Rattle.std.proofs.lemmas.Slice.Eq.{bytes_eq-Decides}
use Rattle.std.proofs.Math.Seq.{get_or-append_seam}
use Rattle.std.specs.Str.{bytes_eq}
use Rattle.rag_io.proofs.Numbers.{absent}
use Rattle.rag_io.specs.Pool.{most_texts, number_of, with_text}
use Rattle.rag_io.specs.Tokens.{Lexed}
use Rattle.rag_io.specs.Unquoted.{meant}
use Rattle.rag_io.specs.declared.token.TokenKind.{TokenKind}
use Rattle.rag_io.specs.declared.token.TokenKind.TheVariants as kinds
use Rattle.token_texts.specs.Texts.{Extends, code_by_kind, is_past, or_zero, pooled, pooled_by_kind, pooled_texts}

-- a text has the number of the first place at which it stands
number_here : (pool : List (List ℕ)) (text : List ℕ) (n : ℕ) → n < length pool → ((k : ℕ) (d : List ℕ) → k < n → bytes_eq text (get_or pool k d) ≡ false)
    → ((d : List ℕ) → bytes_eq text (get_or pool n d) ≡ true) → number_of pool text ≡ Some n
number_here pool text n within before here =
    let is : position_or_len (bytes_eq text) pool ≡ n =
    position_or_len_is (bytes_eq text) pool n [] (omega (arith, within)) (λ k. before k []) (λ h. here []) in
    let there : nat_lt (position_or_len (bytes_eq text) pool) (length pool) ≡ true =
    lt-ltb (position_or_len (bytes_eq text) pool) (length pool) (omega (arith, is, within)) in
    cond-true _ _ _ there ∙ ap Some is

-- the number of a text that is there stays where texts follow behind
number_stays : (pool more : List (List ℕ)) (text : List ℕ) (n : ℕ) → number_of pool text ≡ Some n → number_of (pool ++ more) text ≡ Some n
number_stays pool more text n is =
    let found = position-Some (bytes_eq text) pool n [] is in
    number_here (pool ++ more) text n (omega (arith, found.0, length-append pool more))
    (λ k d lt. ap (bytes_eq text) (get_or_append_left pool more d k (omega (arith, found.0, lt))
    ∙ get_or_default pool k d [] (omega (arith, found.0, lt))) ∙ found.2 k lt)
    (λ d. ap (bytes_eq text) (get_or_append_left pool more d n found.0 ∙ get_or_default pool n d [] found.0) ∙ found.1)

-- a text that wasn't there has the number of the place at which it was put
number_last : (pool : List (List ℕ)) (text : List ℕ) → number_of pool text ≡ None → number_of (pool ++ text ∷ []) text ≡ Some (length pool)
number_last pool text none =
    number_here (pool ++ text ∷ []) text (length pool) (omega (arith, length-append pool (text ∷ [])))
    (λ k d lt. ap (bytes_eq text) (get_or_append_left pool (text ∷ []) d k lt)
    ∙ false_from_ne_true _ (λ same. both_ways _ (absent text pool none) (list_any_at (bytes_eq text) pool k d lt same)))
    (λ d. ap (bytes_eq text) (get_or-append_seam pool text [] d) ∙ (bytes_eq-Decides text text).1 refl)

-- what pooling makes of a pool, by the number of the text and by whether the pool is full
abbrev chosen : List (List ℕ) → List ℕ → Option ℕ → Bool → List (List ℕ)
chosen pool text number full = if is_none number && full then pool else (if is_some number then pool else pool ++ text ∷ [])

-- A text was pooled: it is there now, or the pool is as it was and full. What the pool has is what it had, and perhaps the text last.
data IsPooled (pool : List (List ℕ)) (text : List ℕ) : List (List ℕ) → Type 0 where
  full : number_of pool text ≡ None → nat_le most_texts (length pool) ≡ true → IsPooled pool text pool
  known : (number : ℕ) → number_of pool text ≡ Some number → IsPooled pool text pool
  last : number_of pool text ≡ None → nat_le most_texts (length pool) ≡ false → IsPooled pool text (pool ++ text ∷ [])

-- what is chosen is pooled, by the number of the text and by whether the pool is full
chosen_is : (pool : List (List ℕ)) (text : List ℕ) (number : Option ℕ) (is_full : Bool) → number_of pool text ≡ number
    → nat_le most_texts (length pool) ≡ is_full → IsPooled pool text (chosen pool text number is_full)
chosen_is pool text None true number is_full = full number is_full
chosen_is pool text None false number is_full = last number is_full
chosen_is pool text (Some n) is_full number _ = known n number

-- pooling pools
is_pooled : (pool : List (List ℕ)) (text : List ℕ) → IsPooled pool text (pooled pool text)
is_pooled pool text = chosen_is pool text (number_of pool text) (nat_le most_texts (length pool)) refl refl

-- The text has a number that stays, since it is there or there is no room for it.
data Stays (pool : List (List ℕ)) (text : List ℕ) : Type 0 where
  there : (number : ℕ) → number_of pool text ≡ Some number → Stays pool text
  no_room : nat_le most_texts (length pool) ≡ true → Stays pool text

-- Where a further text is pooled, it stays.
record Stayed (pool more : List (List ℕ)) (text : List ℕ) : Type 0 where
  number : number_of more text ≡ number_of pool text
  stays : Stays more text

-- it stays where one more text is pooled
stayed_one : {pool more : List (List ℕ)} {other : List ℕ} (text : List ℕ) → IsPooled pool other more → Stays pool text → Stayed pool more text
stayed_one text (full none is_full) stays = record { number = refl; stays = stays }
stayed_one text (known n is) stays = record { number = refl; stays = stays }
stayed_one {pool} {other = other} text (last none room) (there n is) =
    let new = number_stays pool (other ∷ []) text n is in
    record { number = new ∙ sym is; stays = there n new }
stayed_one text (last none room) (no_room is_full) = absurd (both_ways _ room is_full)

-- and where the text of a token is pooled, if it is one
stayed_kind : (pool : List (List ℕ)) (kind : TokenKind) (other text : List ℕ) → Stays pool text → Stayed pool (pooled_by_kind pool kind other) text
stayed_kind pool kinds.Name other text stays = record { number = refl; stays = stays }
stayed_kind pool kinds.Int other text stays = record { number = refl; stays = stays }
stayed_kind pool kinds.Text other text stays = stayed_one text (is_pooled pool (meant other)) stays
stayed_kind pool kinds.Symbol other text stays = record { number = refl; stays = stays }
stayed_kind pool kinds.End other text stays = record { number = refl; stays = stays }

-- where the texts of further tokens are pooled, it stays
stayed_texts : (ts : List Lexed) (pool : List (List ℕ)) (text : List ℕ) → Stays pool text → number_of (pooled_texts pool ts) text ≡ number_of pool text
stayed_texts [] pool text stays = refl
stayed_texts (t ∷ ts) pool text stays =
    let one = stayed_kind pool t.kind t.text text stays in
    stayed_texts ts (pooled_by_kind pool t.kind t.text) text one.stays ∙ one.number

-- a text that was pooled stays
stays_pooled : {pool more : List (List ℕ)} {text : List ℕ} → IsPooled pool text more → Stays more text
stays_pooled (full none is_full) = no_room is_full
stays_pooled (known n is) = there n is
stays_pooled {pool} {text = text} (last none room) = there (length pool) (number_last pool text none)

-- so does the code of a token whose text was pooled
pub code_stays : (kind : TokenKind) (text : List ℕ) (pool : List (List ℕ)) (ts : List Lexed)
    → code_by_kind (pooled_by_kind pool kind text) kind text ≡ code_by_kind (pooled_texts (pooled_by_kind pool kind text) ts) kind text
code_stays kinds.Name text pool ts = refl
code_stays kinds.Int text pool ts = refl
code_stays kinds.Text text pool ts = ap or_zero (sym (stayed_texts ts (pooled pool (meant text)) (meant text) (stays_pooled (is_pooled pool (meant text)))))
code_stays kinds.Symbol text pool ts = refl
code_stays kinds.End text pool ts = refl

-- The text is in the pool.
pub record IsThere (pool : List (List ℕ)) (text : List ℕ) : Type 0 where
  pub number : ℕ
  pub is : number_of pool text ≡ Some number

-- a text that is there is there when further ones are pooled
pub there_later : (ts : List Lexed) (pool : List (List ℕ)) (text : List ℕ) → IsThere pool text → IsThere (pooled_texts pool ts) text
there_later ts pool text found = record { number = found.number; is = stayed_texts ts pool text (there found.number found.is) ∙ found.is }

-- a text that was pooled is there, if there was room
there_after : {pool more : List (List ℕ)} (text : List ℕ) → IsPooled pool text more → is_past pool text ≡ false → IsThere more text
there_after text (full none is_full) room = absurd (both_ways _ room (λ i. is_none (none i) && is_full i))
there_after text (known n is) room = record { number = n; is = is }
there_after {pool} text (last none rest) room = record { number = length pool; is = number_last pool text none }

-- where there was room for it, it is there
pub there_pooled : (pool : List (List ℕ)) (text : List ℕ) → is_past pool text ≡ false → IsThere (pooled pool text) text
there_pooled pool text room = there_after text (is_pooled pool text) room

-- a pool extends itself
pub extends_none : (pool : List (List ℕ)) → Extends pool pool
extends_none pool = record { more = []; are = sym (append-nil pool) }

-- what extends an extended pool extends the pool
pub extends_then : {a b c : List (List ℕ)} → Extends a b → Extends b c → Extends a c
extends_then {a} x y = record { more = x.more ++ y.more; are = y.are ∙ ap (λ zs. zs ++ y.more) x.are ∙ append_assoc a x.more y.more }

-- pooling extends a pool
extends_one : {pool more : List (List ℕ)} {text : List ℕ} → IsPooled pool text more → Extends pool more
extends_one {pool} (full none is_full) = extends_none pool
extends_one {pool} (known n is) = extends_none pool
extends_one {text = text} (last none room) = record { more = text ∷ []; are = refl }

-- a pool is extended by a text
pub extends_pooled : {pool more : List (List ℕ)} (text : List ℕ) → more ≡ pooled pool text → Extends pool more
extends_pooled {pool} text is = subst (Extends pool) (sym is) (extends_one (is_pooled pool text))

-- the number that adding a text answers
pub code_found : (pool : List (List ℕ)) (bytes text : List ℕ) (number : ℕ) → number_of pool bytes ≡ Some number → bytes ≡ text
    → number ≡ or_zero (number_of pool text)
code_found pool bytes text number found same = ap or_zero (sym found ∙ ap (number_of pool) same)

-- there was room for it
pub not_past : (old new : List (List ℕ)) (text : List ℕ) → new ≡ with_text old text → length new ≤ most_texts → is_past old text ≡ false
not_past old new text added few = go (number_of old text) (nat_le most_texts (length old)) refl refl
  where
    go : (number : Option ℕ) (is_full : Bool) → number_of old text ≡ number → nat_le most_texts (length old) ≡ is_full
        → (is_none (number_of old text) && nat_le most_texts (length old)) ≡ false
    go (Some n) is_full number room = (λ i. is_none (number i) && nat_le most_texts (length old))
    go None false number room = (λ i. is_none (number i) && room i)
    go None true number room =
        let longer : new ≡ old ++ text ∷ [] = added ∙ (λ i. if is_some (number i) then old else old ++ text ∷ []) in
        let count : length new ≡ length old + 1 = ap length longer ∙ length-append old (text ∷ []) in
        absurd (grind (arith, nat_tests))

-- so it was pooled
pub pooled_added : (old new : List (List ℕ)) (text : List ℕ) → new ≡ with_text old text → length new ≤ most_texts → new ≡ pooled old text
pooled_added old new text added few = added ∙ sym (ap (λ b. if b then old else with_text old text) (not_past old new text added few))

-- there was none
pub is_full : (old : List (List ℕ)) (text : List ℕ) → number_of old text ≡ None → length old ≡ most_texts → is_past old text ≡ true
is_full old text none many = (λ i. is_none (none i) && nat_le most_texts (many i))

-- so the pool is as pooling makes it
pub pooled_full : (old new : List (List ℕ)) (text : List ℕ) → number_of old text ≡ None → length old ≡ most_texts → new ≡ old → new ≡ pooled old text
pooled_full old new text none many same = same ∙ sym (ap (λ b. if b then old else with_text old text) (is_full old text none many))

-- it has no number
pub code_full : (pool new : List (List ℕ)) (bytes text : List ℕ) → number_of pool bytes ≡ None → new ≡ pool → bytes ≡ text → 0 ≡ or_zero (number_of new text)
code_full pool new bytes text none same is = ap or_zero (sym none ∙ ap (number_of pool) is ∙ ap (λ p. number_of p text) (sym same))
