-- What was found since, by what the steps found.
use Rattle.std.proofs.Common.{◌≡◌, ℕ, List, [], ◌∷◌, ◌++◌, inl, inr, ⊎_elim, refl, sym, ap, ◌∙◌, append_assoc}
use Rattle.equation_law.specs.Systems.{program_of}
use Rattle.memo_cells.specs.declared.probe.Search.TheVariants.{Nowhere}
use Rattle.memo_cells.specs.declared.view.Frame.{Frame}
use Rattle.memo_cells.specs.declared.view.View.{View}
use Rattle.memo_cells.specs.Causes.{FoundSince, IsFreeOnWay, IsLogOn, WhyMissing}
use Rattle.memo_cells.specs.Standing.{IsMissing}
use Rattle.memo_cells.specs.Steps.{IsSearched}
use Rattle.memo_cells.proofs.Bits.{has_left, has_right}

abbrev pub log_itself : (v : View) → IsLogOn v v
log_itself v = record { more = []; is = refl }

abbrev pub log_then : {u v w : View} → IsLogOn u v → IsLogOn v w → IsLogOn u w
log_then {u} a b = record { more = b.more ++ a.more; is = b.is ∙ ap (λ (l : List (ℕ × ℕ)). b.more ++ l) a.is ∙ sym (append_assoc b.more a.more u.found) }

-- one step
abbrev pub log_one : {v w : View} {x : ℕ × ℕ} → w.found ≡ x ∷ v.found → IsLogOn v w
log_one {x = x} e = record { more = x ∷ []; is = e }

pub found_one : {v w : View} {word x : ℕ} → w.found ≡ (word, x) ∷ v.found → FoundSince v w word x
found_one e = record { log = log_one e; there = inl refl }

-- what was found is found for one that began earlier, and goes on to be
pub found_before : {u v w : View} {word x : ℕ} → IsLogOn u v → FoundSince v w word x → FoundSince u w word x
found_before {word = word} {x = x} a f = record { log = log_then a f.log; there = has_left f.log.more a.more (word, x) f.there }

pub found_later : {u v w : View} {word x : ℕ} → FoundSince u v word x → IsLogOn v w → FoundSince u w word x
found_later {word = word} {x = x} f a = record { log = log_then f.log a; there = has_right a.more f.log.more (word, x) f.there }

-- a free place on the way of a key, for a call that began earlier
pub free_before : {f : Frame} {u v w : View} {k : ℕ} → IsLogOn u v → IsFreeOnWay f v w k → IsFreeOnWay f u w k
free_before a h = record { place = h.place; inside = h.inside; found = found_before a h.found; passed = h.passed }

-- so why a key wasn't found
pub missing_since : {f : Frame} {u v w : View} {k : ℕ} → IsLogOn u v → WhyMissing f v w k → WhyMissing f u w k
missing_since a h = ⊎_elim (λ free. inl (free_before a free)) inr h

-- what a search that ended at a free place says
pub found_nowhere : (f : Frame) (u v : View) (k a b : ℕ) → IsSearched f u v k a b Nowhere → IsMissing (program_of f.system.value) v k × IsFreeOnWay f u v k
found_nowhere f u v k a b h = h
