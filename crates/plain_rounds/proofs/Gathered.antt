-- Names that are gone over one by one.
use Rattle.std.proofs.Common.{◌≡◌, ℕ, zero, suc, ◌+◌, ◌<◌, All, List, [], ◌∷◌, ◌++◌, get_or, length, map, take, sym, ap, subst, ◌∙◌, arith}
use Rattle.std.proofs.lemmas.List.{map-append, take_more}
use Rattle.std.proofs.lemmas.List.Elements.{All-append, All-cons, All-head, All-nil, All-tail}

module _ {A B : Type 0} (f : A → B) where
  -- what holds of what each is mapped to, at one of them
  pub all_at : (P : B → Type 0) (xs : List A) (k : ℕ) (d : A) → k < length xs → All P (map f xs) → P (f (get_or xs k d))
  all_at P [] k d h all = absurd (omega (arith, h))
  all_at P (x ∷ xs) zero d h all = All-head P (f x) (map f xs) all
  all_at P (x ∷ xs) (suc k) d h all = all_at P xs k d (omega (arith, h)) (All-tail P (f x) (map f xs) all)

  -- one more of them
  pub map_more : (xs : List A) (k : ℕ) (d : A) → k < length xs → map f (take (k + 1) xs) ≡ map f (take k xs) ++ f (get_or xs k d) ∷ []
  map_more xs k d h = ap (map f) (take_more xs k d h) ∙ map-append f (take k xs) (get_or xs k d ∷ [])

  pub all_more : (P : B → Type 0) (xs : List A) (k : ℕ) (d : A) → k < length xs → All P (map f (take k xs)) → P (f (get_or xs k d)) → All P (map f (take (k + 1) xs))
  all_more P xs k d h all here = subst (All P) (sym (map_more xs k d h)) (All-append P (map f (take k xs)) (f (get_or xs k d) ∷ []) all (All-cons P (f (get_or xs k d)) [] here (All-nil P)))
