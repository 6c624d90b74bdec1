-- The numbers of names.
use Rattle.std.proofs.Common.{◌≡◌, ℕ, ◌+◌, ◌<◌, List, [], ◌∷◌, Bool, true, false, not, ◌&&◌, ◌||◌, if◌then◌else◌, Some, None, length, get_or, position, nat_lt, zero, suc, refl, ap, ◌∙◌, arith}
use Rattle.std.specs.List.{list_any, position_or_len}
use Rattle.std.specs.Option.{is_some}
use Rattle.std.specs.Str.{bytes_eq}
use Rattle.std.proofs.lemmas.Bool.Decides.{nat_tests}
use Rattle.std.proofs.lemmas.Cmp.{nat_list_eq_equiv}
use Rattle.std.proofs.lemmas.List.Sums.{position_or_len_is}
use Rattle.rag_io.specs.Distinct.{are_distinct}
use Rattle.names.specs.Among.{is_among}

one_further : (n m : ℕ) → nat_lt (1 + n) (m + 1) ≡ nat_lt n m
one_further n m = grind (arith, nat_tests)

found_if : {X : Type 0} (p : X → Bool) (xs : List X) (b c : Bool) → nat_lt (position_or_len p xs) (length xs) ≡ c → nat_lt (if not b then 1 + position_or_len p xs else 0) (length xs + 1) ≡ (b || c)
found_if p xs true c h = grind (arith, nat_tests)
found_if p xs false c h = one_further (position_or_len p xs) (length xs) ∙ h

found : {X : Type 0} (p : X → Bool) (xs : List X) → nat_lt (position_or_len p xs) (length xs) ≡ list_any p xs
found p [] = refl
found p (x ∷ xs) = let longer : length (x ∷ xs) ≡ length xs + 1 = omega arith in ap (nat_lt (position_or_len p (x ∷ xs))) longer ∙ found_if p xs (p x) (list_any p xs) (found p xs)

is_some_if : (b : Bool) (n : ℕ) → is_some (if b then Some n else None) ≡ b
is_some_if true n = refl
is_some_if false n = refl

-- a name has a number exactly where it is there
pub number_known : (names : List (List ℕ)) (name : List ℕ) → is_some (position (bytes_eq name) names) ≡ is_among names name
number_known names name = is_some_if (nat_lt (position_or_len (bytes_eq name) names) (length names)) (position_or_len (bytes_eq name) names) ∙ found (bytes_eq name) names

both : (a b : Bool) → (a && b) ≡ true → (a ≡ true) × (b ≡ true)
both true true h = (refl, refl)
both true false h = cc
both false b h = cc

not_so : (b : Bool) → not b ≡ true → b ≡ false
not_so true h = cc
not_so false h = refl

neither : (a b : Bool) → (a || b) ≡ false → (a ≡ false) × (b ≡ false)
neither true b h = cc
neither false b h = (refl, h)

no_item : (i : ℕ) → i < 0 → ⊥
no_item i lt = omega arith

not_there : (names : List (List ℕ)) (name d : List ℕ) (i : ℕ) → is_among names name ≡ false → i < length names → bytes_eq name (get_or names i d) ≡ false
not_there [] name d i h lt = absurd (no_item i lt)
not_there (n ∷ ns) name d zero h lt = (neither (bytes_eq name n) (is_among ns name) h).0
not_there (n ∷ ns) name d (suc i) h lt = not_there ns name d i (neither (bytes_eq name n) (is_among ns name) h).1 (omega arith)

apart : (names : List (List ℕ)) (d : List ℕ) (i k : ℕ) → are_distinct bytes_eq names ≡ true → i < length names → k < i → bytes_eq (get_or names i d) (get_or names k d) ≡ false
apart [] d i k h lt le = absurd (no_item i lt)
apart (n ∷ ns) d zero k h lt le = absurd (no_item k le)
apart (n ∷ ns) d (suc i) zero h lt le =
    nat_list_eq_equiv.symm (get_or ns i d) n ∙ not_there ns n d i (not_so _ (both (not (is_among ns n)) (are_distinct bytes_eq ns) h).0) (omega arith)
apart (n ∷ ns) d (suc i) (suc k) h lt le = apart ns d i k (both (not (is_among ns n)) (are_distinct bytes_eq ns) h).1 (omega arith) (omega arith)

some_if : (b : Bool) (n : ℕ) → b ≡ true → (if b then Some n else None) ≡ Some n
some_if true n h = refl
some_if false n h = cc

position_at : {X : Type 0} (p : X → Bool) (xs : List X) (i : ℕ) → position_or_len p xs ≡ i → i < length xs → position p xs ≡ Some i
position_at p xs i e lt = let there : nat_lt (position_or_len p xs) (length xs) ≡ true = grind (arith, nat_tests) in some_if (nat_lt (position_or_len p xs) (length xs)) (position_or_len p xs) there ∙ ap Some e

-- where no name stands twice, each name's number is its place
pub own_number : (names : List (List ℕ)) (i : ℕ) (d : List ℕ) → are_distinct bytes_eq names ≡ true → i < length names → position (bytes_eq (get_or names i d)) names ≡ Some i
own_number names i d h lt =
    let here = position_or_len_is (bytes_eq (get_or names i d)) names i d (omega arith) (λ k le. apart names d i k h lt le) (λ l. nat_list_eq_equiv.refl (get_or names i d)) in
    position_at (bytes_eq (get_or names i d)) names i here lt
