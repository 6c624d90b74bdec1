-- The words of the table as plain data: where keys stand, and which values.
use Rattle.std.specs.Prelude.{◌≡◌, ◌≢◌, ℕ, true, false, ◌+◌, ◌^◌, ◌<◌, ◌≤◌, ◌⊎◌}
use Rattle.std.specs.Int.{bit_at}
use Rattle.memo_cells.specs.Keys.{is_set_word, start}

-- q is passed on the way from s to p, round a table of n places
abbrev pub Before : ℕ → ℕ → ℕ → ℕ → Type 0
Before n s p q = (q < n) × (s ≤ p → (s ≤ q) × (q < p)) × (p < s → q < s → q < p)

-- The value word of the key k is the mark of what is settled with a code, or raised.
abbrev pub IsCoded : (ℕ → ℕ → Type 0) → (ℕ → Type 0) → ℕ → ℕ → Type 0
IsCoded settled raised k w = ((c : ℕ) × (w ≡ c + 2 ^ 63) × settled k c) ⊎ ((w ≡ 1) × raised k)

-- The n key words and n value words, by their places. A key word may be formed or not, a key may be settled with a code, it may be raised,
-- and a bit may be set in the word of a set.
pub record AreOrdered (formed : ℕ → Type 0) (settled : ℕ → ℕ → Type 0) (raised : ℕ → Type 0) (element : ℕ → ℕ → Type 0) (n : ℕ) (K W : ℕ → ℕ) : Type 0 where
  -- each key is formed, stands once, and no place is free on the way to it
  pub formed_keys : (p : ℕ) → p < n → K p ≢ 0 → formed (K p)
  pub once : (p q : ℕ) → p < n → q < n → K p ≢ 0 → K p ≡ K q → p ≡ q
  pub reached : (p q : ℕ) → p < n → K p ≢ 0 → Before n (start n (K p)) p q → K q ≢ 0
  -- a value word that isn't 0 has a key: it is that of a set, or codes a value
  pub keyed : (p : ℕ) → p < n → W p ≢ 0 → K p ≢ 0
  pub coded : (p : ℕ) → p < n → is_set_word (K p) ≡ false → W p ≢ 0 → IsCoded settled raised (K p) (W p)
  pub elements : (p b : ℕ) → p < n → is_set_word (K p) ≡ true → b < 64 → bit_at (W p) b ≡ 1 → element (K p) b
