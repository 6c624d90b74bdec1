-- What a pass knows after a step on one word of the table.
use Rattle.std.specs.Prelude.{ℕ, ◌-◌, ◌^◌, ◌==◌, ◌&&◌, not, nat_le, List, [], ◌∷◌, ◌++◌, Option, Some, None, if◌then◌else◌}
use Rattle.memo_cells.specs.declared.learning.Step.{Step}
use Rattle.memo_cells.specs.declared.learning.Step.TheVariants.{Claim, Forget, Key, Value}
use Rattle.memo_cells.specs.declared.view.Frame.{Frame}
use Rattle.memo_cells.specs.declared.view.View.{View}
use Rattle.memo_cells.specs.Keys.{is_set_word}
use Rattle.memo_cells.specs.Views.{bits_below, key_word_at, shown_bits, value_word_at}

-- so many cells does it have
abbrev pub cells_in : Option Frame → ℕ
cells_in None = 0
cells_in (Some f) = f.cells

-- the keys, with one that was found at a place
abbrev pub with_key : ℕ → ℕ → List (ℕ × ℕ) → List (ℕ × ℕ)
with_key p k keys = if k == 0 then keys else (p, k) ∷ keys

-- what a value word at a place says of a key that is known there: whether it is settled, and which bits are set
abbrev pub value_said : ℕ → ℕ → ℕ → List (ℕ × ℕ × ℕ)
value_said p k x = if nat_le (2 ^ 63) x && not (is_set_word k) then (p, k, x - 2 ^ 63) ∷ [] else []

-- of each of these keys
unfoldable pub values_said : ℕ → ℕ → List (ℕ × ℕ) → List (ℕ × ℕ × ℕ)
values_said p x [] = []
values_said p x (k ∷ keys) = if k.0 == p then value_said p k.1 x ++ values_said p x keys else values_said p x keys

unfoldable pub bits_said : ℕ → ℕ → List (ℕ × ℕ) → List (ℕ × ℕ × ℕ)
bits_said p x [] = []
bits_said p x (k ∷ keys) = if k.0 == p then bits_below p k.1 x (shown_bits k.1) ++ bits_said p x keys else bits_said p x keys

-- without what was read
abbrev pub forgotten : View → View
forgotten v = record v { keys = []; values = []; bits = []; found = [] }

-- it found a key word, claimed a place, found a value word and left another one there, or forgot what it had read
abbrev pub after : View → Step → View
after v (Key place found) = record v { keys = with_key place found v.keys; found = (key_word_at place, found) ∷ v.found }
after v (Claim place key) = record v { keys = (place, key) ∷ v.keys; claims = place ∷ v.claims; found = (key_word_at place, 0) ∷ v.found }
after v (Value place found left) = record v { values = values_said place left v.keys ++ v.values; bits = bits_said place left v.keys ++ v.bits; found = (value_word_at (cells_in v.frame) place, found) ∷ v.found }
after v Forget = forgotten v
