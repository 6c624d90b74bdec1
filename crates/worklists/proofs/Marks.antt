-- Lists of which one element was set, and marks that are counted.
use Rattle.std.proofs.Common.{◌≡◌, ◌≢◌, ℕ, zero, suc, ◌+◌, ◌<◌, Bool, true, false, cond, List, [], ◌∷◌, Some, length, get_or, ltb, slice_get, set, refl, sym, ap, subst, arith}
use Rattle.std.proofs.lemmas.Bool.{ltb-true}
use Rattle.std.proofs.lemmas.Option.{slice_get_read}
use Rattle.worklists.specs.Searching.{unfound}

pub set_there : {X : Type 0} (xs : List X) (n : ℕ) (x y : X) → slice_get xs n ≡ Some y → slice_get (set xs n x) n ≡ Some x
set_there [] n x y at = cc
set_there (z ∷ zs) zero x y at = refl
set_there (z ∷ zs) (suc n) x y at = set_there zs n x y at

pub set_other : {X : Type 0} (xs : List X) (n k : ℕ) (x : X) → k ≢ n → slice_get (set xs n x) k ≡ slice_get xs k
set_other [] n k x other = refl
set_other (z ∷ zs) zero zero x other = absurd (other refl)
set_other (z ∷ zs) zero (suc k) x other = refl
set_other (z ∷ zs) (suc n) zero x other = refl
set_other (z ∷ zs) (suc n) (suc k) x other = set_other zs n k x (λ same. other (ap suc same))

-- what is read from a list at a place
pub read_at : {X : Type 0} (xs ys : List X) (n : ℕ) (x : X) → xs ≡ ys → true ≡ ltb n (length xs) → x ≡ get_or xs n x → slice_get ys n ≡ Some x
read_at xs ys n x same low is = subst (λ (zs : List _). slice_get zs n ≡ Some x) same (slice_get_read xs (length xs) n x refl (ltb-true n (length xs) (sym low)) is)

pub item_at : {X : Type 0} (xs ys : List X) (n : ℕ) (x : X) → xs ≡ ys → n < length xs → x ≡ get_or xs n x → slice_get ys n ≡ Some x
item_at xs ys n x same low is = subst (λ (zs : List _). slice_get zs n ≡ Some x) same (slice_get_read xs (length xs) n x refl low is)

-- what a mark counts
abbrev mark : Bool → ℕ
mark b = cond b 0 1

-- one less isn't found
pub unfound_set : (bs : List Bool) (n : ℕ) → slice_get bs n ≡ Some false → unfound bs ≡ unfound (set bs n true) + 1
unfound_set [] n at = cc
unfound_set (b ∷ bs) zero at =
    let is : b ≡ false = cc in
    let one : mark b ≡ 1 = ap mark is in
    omega (arith, one)
unfound_set (b ∷ bs) (suc n) at = let h : unfound bs ≡ unfound (set bs n true) + 1 = unfound_set bs n at in omega (arith, h)
