-- Loops over items of memory, whose list is that of what is seen of them.
use Rattle.std.proofs.Common.{◌≡◌, ℕ, ◌+◌, ◌<◌, ◌≤◌, List, [], length, get_or, take, map, Option, ap, sym, ◌∙◌, arith}
use Rattle.std.proofs.Math.ListN.{get_or-map}
use Rattle.std.proofs.lemmas.List.{length-map}
use Rattle.std.specs.List.{flat_map}
use Rattle.broken_rules.specs.declared.broken.Broken.{Broken}
use Rattle.broken_rules.specs.Notes.{Notes, each_after, each_from}
use Rattle.broken_rules.proofs.Noting.{notes_each, notes_all, notes_each_after, notes_each_from}

module _ {X Y : Type 0} (seen : X → Y) (xs : List X) (i : ℕ) where
  pub index_seen : i < length xs → i < length (map seen xs)
  index_seen lt = omega (arith, length-map xs seen)

  pub item_seen : {x : X} → x ≡ get_or xs i x → seen x ≡ get_or (map seen xs) i (seen x)
  item_seen {x} is = ap seen is ∙ sym (get_or-map seen xs i x)

  end_seen : length xs ≤ i → length (map seen xs) ≤ i
  end_seen le = omega (arith, length-map xs seen)

  -- a turn of a loop, and its end, where it went over a copy xs of ys
  pub notes_each_seen : (f : Y → List Broken) {x : X} {a b c : Option Broken}
      → x ≡ get_or xs i x → i < length xs → Notes (flat_map f (take i (map seen xs))) a b → Notes (f (seen x)) b c → Notes (flat_map f (take (i + 1) (map seen xs))) a c
  notes_each_seen f is lt h k = notes_each f (map seen xs) i (item_seen is) (index_seen lt) h k

  pub notes_all_seen : (f : Y → List Broken) (ys : List X) {a b : Option Broken} → xs ≡ ys → Notes (flat_map f (take i (map seen xs))) a b → length xs ≤ i → Notes (flat_map f (map seen ys)) a b
  notes_all_seen f ys e h le = notes_all f (map seen ys) (map seen xs) i (ap (map seen) e) h (end_seen le)

  -- a turn, where what an item breaks depends on the items before it, or on its index
  pub notes_each_after_seen : (f : List Y → Y → List Broken) {x : X} {a b c : Option Broken}
      → x ≡ get_or xs i x → i < length xs → Notes (each_after f [] (take i (map seen xs))) a b → Notes (f (take i (map seen xs)) (seen x)) b c → Notes (each_after f [] (take (i + 1) (map seen xs))) a c
  notes_each_after_seen f is lt h k = notes_each_after f (map seen xs) i (item_seen is) (index_seen lt) h k

  pub notes_each_from_seen : (f : ℕ → Y → List Broken) {x : X} {a b c : Option Broken}
      → x ≡ get_or xs i x → i < length xs → Notes (each_from f 0 (take i (map seen xs))) a b → Notes (f i (seen x)) b c → Notes (each_from f 0 (take (i + 1) (map seen xs))) a c
  notes_each_from_seen f is lt h k = notes_each_from f (map seen xs) i (item_seen is) (index_seen lt) h k
