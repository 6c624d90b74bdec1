-- Loops over items of memory, whose list is that of what is seen of them.
use Rattle.std.proofs.Common.{◌≡◌, ℕ, ◌+◌, ◌<◌, ◌≤◌, List, [], ◌∷◌, ◌++◌, length, get_or, take, map, Option, refl, ap, sym, ◌∙◌, arith}
use Rattle.std.specs.List.{flat_map}
use Rattle.std.proofs.Math.ListN.{get_or-map}
use Rattle.std.proofs.lemmas.List.{length-map, length-take-le, take_more}
use Rattle.broken_rules.specs.declared.broken.Broken.{Broken}
use Rattle.broken_rules.specs.Notes.{Notes, each_after, each_from}
use Rattle.broken_rules.proofs.Noting.{notes_all, notes_all_after, notes_all_from, notes_each, notes_each_after, notes_each_from}

module _ {X Y : Type 0} (seen : X → Y) (xs : List X) (i : ℕ) where
  within : i < length xs → i < length (map seen xs)
  within lt = omega (arith, length-map xs seen)

  item : {x : X} → x ≡ get_or xs i x → seen x ≡ get_or (map seen xs) i (seen x)
  item {x} is = ap seen is ∙ sym (get_or-map seen xs i x)

  end : length xs ≤ i → length (map seen xs) ≤ i
  end le = omega (arith, length-map xs seen)

  -- the items so far, and how many they are
  pub taken : {x : X} → x ≡ get_or xs i x → i < length xs → take (i + 1) (map seen xs) ≡ take i (map seen xs) ++ seen x ∷ []
  taken {x} is lt = take_more (map seen xs) i (seen x) (within lt) ∙ ap (λ y. take i (map seen xs) ++ y ∷ []) (sym (item is))

  pub length-taken : i < length xs → i ≡ length (take i (map seen xs))
  length-taken lt = sym (length-take-le i (map seen xs) (omega (arith, length-map xs seen)))

  -- a turn, and the end, where what an item breaks depends on nothing else
  pub notes_each_seen : (f : Y → List Broken) {x : X} {a b c : Option Broken} → x ≡ get_or xs i x → i < length xs → Notes (flat_map f (take i (map seen xs))) a b → Notes (f (seen x)) b c → Notes (flat_map f (take (i + 1) (map seen xs))) a c
  notes_each_seen f is lt h k = notes_each f (map seen xs) i (item is) (within lt) h k

  pub notes_all_seen : (f : Y → List Broken) {a b : Option Broken} → Notes (flat_map f (take i (map seen xs))) a b → length xs ≤ i → Notes (flat_map f (map seen xs)) a b
  notes_all_seen f h le = notes_all f (map seen xs) (map seen xs) i refl h (end le)

  -- a turn, where what an item breaks depends on the items before it, or on its index, and the end
  pub notes_each_after_seen : (f : List Y → Y → List Broken) {x : X} {a b c : Option Broken}
      → x ≡ get_or xs i x → i < length xs → Notes (each_after f [] (take i (map seen xs))) a b → Notes (f (take i (map seen xs)) (seen x)) b c → Notes (each_after f [] (take (i + 1) (map seen xs))) a c
  notes_each_after_seen f is lt h k = notes_each_after f (map seen xs) i (item is) (within lt) h k

  pub notes_all_after_seen : (f : List Y → Y → List Broken) {a b : Option Broken} → Notes (each_after f [] (take i (map seen xs))) a b → length xs ≤ i → Notes (each_after f [] (map seen xs)) a b
  notes_all_after_seen f h le = notes_all_after f (map seen xs) (map seen xs) i refl h (end le)

  pub notes_each_from_seen : (f : ℕ → Y → List Broken) {x : X} {a b c : Option Broken}
      → x ≡ get_or xs i x → i < length xs → Notes (each_from f 0 (take i (map seen xs))) a b → Notes (f i (seen x)) b c → Notes (each_from f 0 (take (i + 1) (map seen xs))) a c
  notes_each_from_seen f is lt h k = notes_each_from f (map seen xs) i (item is) (within lt) h k

  pub notes_all_from_seen : (f : ℕ → Y → List Broken) {a b : Option Broken} → Notes (each_from f 0 (take i (map seen xs))) a b → length xs ≤ i → Notes (each_from f 0 (map seen xs)) a b
  notes_all_from_seen f h le = notes_all_from f (map seen xs) (map seen xs) i refl h (end le)
