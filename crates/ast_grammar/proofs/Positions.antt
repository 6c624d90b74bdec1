-- First places in lists.
use Rattle.std.proofs.Common.{◌≡◌, ℕ, ◌+◌, ◌<◌, Bool, true, false, not, cond, nat_lt, List, [], ◌∷◌, Some, None, All, length, get_or, map, position, one-add, refl, ap, ◌∙◌, arith}
use Rattle.std.specs.List.{position_or_len}
use Rattle.std.proofs.lemmas.Bool.{lt-ltb}
use Rattle.std.proofs.lemmas.Bool.Decides.{nat_tests}
use Rattle.std.proofs.lemmas.List.{length-map}
use Rattle.std.proofs.lemmas.List.Elements.{All-head, All-tail}
use Rattle.std.proofs.lemmas.List.Sums.{position_or_len_is}

position_or_len-map : {X Y : Type 0} (f : X → Y) (p : Y → Bool) (xs : List X) → position_or_len p (map f xs) ≡ position_or_len (λ x. p (f x)) xs
position_or_len-map f p [] = refl
position_or_len-map f p (x ∷ xs) = ap (λ n. cond (not (p (f x))) (1 + n) 0) (position_or_len-map f p xs)

-- a place in a list that is made of another
pub position-map : {X Y : Type 0} (f : X → Y) (p : Y → Bool) (xs : List X) → position p (map f xs) ≡ position (λ x. p (f x)) xs
position-map f p xs = rw (position_or_len-map f p xs, length-map xs f) refl

-- tests that agree on each element
module _ {X : Type 0} (p q : X → Bool) where
  or_len_agree : (xs : List X) → All (λ x. p x ≡ q x) xs → position_or_len p xs ≡ position_or_len q xs
  or_len_agree [] same = refl
  or_len_agree (x ∷ xs) same = (λ i. cond (not (All-head (λ y. p y ≡ q y) x xs same i)) (1 + or_len_agree xs (All-tail (λ y. p y ≡ q y) x xs same) i) 0)

  pub position_agree : (xs : List X) → All (λ x. p x ≡ q x) xs → position p xs ≡ position q xs
  position_agree xs same = ap (λ n. cond (nat_lt n (length xs)) (Some n) None) (or_len_agree xs same)

all_fail : {X : Type 0} (xs : List X) → position_or_len (λ (x : X). false) xs ≡ length xs
all_fail [] = refl
all_fail (x ∷ xs) = ap (λ n. 1 + n) (all_fail xs) ∙ one-add (length xs)

module _ {X : Type 0} (p : X → Bool) where
  found_at : (xs : List X) (n : ℕ) → position_or_len p xs ≡ n → n < length xs → position p xs ≡ Some n
  found_at xs n is within =
      let there : nat_lt (position_or_len p xs) (length xs) ≡ true = lt-ltb (position_or_len p xs) (length xs) (omega arith) in
      ap (λ b. cond b (Some (position_or_len p xs)) None) there ∙ ap Some is

  -- no element passes
  pub position_none : (xs : List X) → All (λ x. p x ≡ false) xs → position p xs ≡ None
  position_none xs fails =
      let is : position_or_len p xs ≡ length xs = or_len_agree p (λ x. false) xs fails ∙ all_fail xs in
      let past : nat_lt (position_or_len p xs) (length xs) ≡ false = grind (arith, nat_tests) in
      ap (λ b. cond b (Some (position_or_len p xs)) None) past

  -- the first that passes is here
  pub position_here : (xs : List X) (n : ℕ) → n < length xs → ((k : ℕ) (d : X) → k < n → p (get_or xs k d) ≡ false) → ((d : X) → p (get_or xs n d) ≡ true) → position p xs ≡ Some n
  position_here [] n within before here = absurd (omega arith)
  position_here (x ∷ xs) n within before here = found_at (x ∷ xs) n (position_or_len_is p (x ∷ xs) n x (omega arith) (λ k. before k x) (λ h. here x)) within
