-- What an empty list of broken rules says.
use Rattle.std.proofs.Common.{◌≡◌, ℕ, ◌+◌, ◌<◌, List, [], ◌∷◌, ◌++◌, Bool, true, false, length, get_or, slice_get, take, Some, None, zero, suc, refl, ap, sym, ◌∙◌, arith, append_assoc, add-zero}
use Rattle.std.proofs.lemmas.List.{append-nil}
use Rattle.std.proofs.lemmas.Option.{get_or_from_slice_get, slice_get_within}
use Rattle.std.specs.List.{flat_map}
use Rattle.broken_rules.specs.Answers.{Answers, passes}
use Rattle.broken_rules.specs.declared.broken.Broken.{Broken}
use Rattle.broken_rules.specs.Notes.{broken_if, each_after, each_from}

pub append_none : (bs cs : List Broken) → bs ++ cs ≡ [] → (bs ≡ []) × (cs ≡ [])
append_none [] cs h = (refl, h)
append_none (b ∷ bs) cs h = cc

pub not_broken : (is_broken : Bool) (b : Broken) → broken_if is_broken b ≡ [] → is_broken ≡ false
not_broken true b h = cc
not_broken false b h = refl

no_item : (i : ℕ) → i < 0 → ⊥
no_item i lt = omega arith

-- Each item breaks nothing, where the list of what all break is empty.
pub flat_map_none : {X : Type 0} (f : X → List Broken) (xs : List X) (i : ℕ) (d : X) → flat_map f xs ≡ [] → i < length xs → f (get_or xs i d) ≡ []
flat_map_none f [] i d h lt = absurd (no_item i lt)
flat_map_none f (x ∷ xs) zero d h lt = (append_none (f x) (flat_map f xs) h).0
flat_map_none f (x ∷ xs) (suc i) d h lt = flat_map_none f xs i d (append_none (f x) (flat_map f xs) h).1 (omega arith)

after_none : {X : Type 0} (f : List X → X → List Broken) (before xs : List X) (i : ℕ) (d : X) → each_after f before xs ≡ [] → i < length xs → f (before ++ take i xs) (get_or xs i d) ≡ []
after_none f before [] i d h lt = absurd (no_item i lt)
after_none f before (x ∷ xs) zero d h lt = ap (λ zs. f zs x) (append-nil before) ∙ (append_none (f before x) (each_after f (before ++ x ∷ []) xs) h).0
after_none f before (x ∷ xs) (suc i) d h lt =
    ap (λ zs. f zs (get_or xs i d)) (sym (append_assoc before (x ∷ []) (take i xs)))
    ∙ after_none f (before ++ x ∷ []) xs i d (append_none (f before x) (each_after f (before ++ x ∷ []) xs) h).1 (omega arith)

pub each_after_none : {X : Type 0} (f : List X → X → List Broken) (xs : List X) (i : ℕ) (d : X) → each_after f [] xs ≡ [] → i < length xs → f (take i xs) (get_or xs i d) ≡ []
each_after_none f xs i d h lt = after_none f [] xs i d h lt

from_none : {X : Type 0} (f : ℕ → X → List Broken) (k : ℕ) (xs : List X) (i : ℕ) (d : X) → each_from f k xs ≡ [] → i < length xs → f (k + i) (get_or xs i d) ≡ []
from_none f k [] i d h lt = absurd (no_item i lt)
from_none f k (x ∷ xs) zero d h lt = ap (λ n. f n x) (add-zero k) ∙ (append_none (f k x) (each_from f (k + 1) xs) h).0
from_none f k (x ∷ xs) (suc i) d h lt =
    let shifted : k + suc i ≡ (k + 1) + i = omega arith in
    ap (λ n. f n (get_or xs i d)) shifted ∙ from_none f (k + 1) xs i d (append_none (f k x) (each_from f (k + 1) xs) h).1 (omega arith)

pub each_from_none : {X : Type 0} (f : ℕ → X → List Broken) (xs : List X) (i : ℕ) (d : X) → each_from f 0 xs ≡ [] → i < length xs → f i (get_or xs i d) ≡ []
each_from_none f xs i d h lt = let whole : i ≡ 0 + i = omega arith in ap (λ n. f n (get_or xs i d)) whole ∙ from_none f 0 xs i d h lt

-- the same of an item that `get` finds
pub flat_map_found : {X : Type 0} (f : X → List Broken) (xs : List X) (i : ℕ) (x : X) → flat_map f xs ≡ [] → slice_get xs i ≡ Some x → f x ≡ []
flat_map_found f xs i x h e = ap f (sym (get_or_from_slice_get xs i x x e)) ∙ flat_map_none f xs i x h (slice_get_within xs i x e)

pub each_from_found : {X : Type 0} (f : ℕ → X → List Broken) (xs : List X) (i : ℕ) (x : X) → each_from f 0 xs ≡ [] → slice_get xs i ≡ Some x → f i x ≡ []
each_from_found f xs i x h e = ap (f i) (sym (get_or_from_slice_get xs i x x e)) ∙ each_from_none f xs i x h (slice_get_within xs i x e)

-- where the answer to some phases is none, the first breaks nothing, and neither do the others
pub phase_none : {bs : List Broken} {rest : List (List Broken)} → Answers (bs ∷ rest) None → (bs ≡ []) × Answers rest None
phase_none (passes a) = (refl, a)
