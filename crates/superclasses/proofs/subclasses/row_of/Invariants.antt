use Rattle.std.proofs.Common.{◌↔◌, ◌≡◌, ◌<◌, ℕ, IsTrue, false, get_or, length, vec_len}
use Rattle.superclasses.proofs.subclasses.row_of.Given as goal

-- the marks are those of the classes so far
abbrev pub invariant-loop-above : goal.invariant-loop-above
invariant-loop-above l = record {
  len : vec_len l.row ≡ length l.superclasses;
  so_far : (b : ℕ) → IsTrue (get_or l.row.items b false) ↔ (b < length l.superclasses) × ((k : ℕ) × (k < l.above-index) × (get_or l.above-items k b ≡ b));
}
