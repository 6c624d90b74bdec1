use Rattle.std.proofs.Common.{◌↔◌, ◌≡◌, ◌<◌, ℕ, IsTrue, None, Some, false, get_or, length, vec_len}
use Rattle.superclasses.proofs.jumps.marked.Given as goal

-- the marks are those of the jumps so far
abbrev pub invariant-loop-jump : goal.invariant-loop-jump
invariant-loop-jump l = record {
  len : vec_len l.marks ≡ length l.jumps;
  so_far : (c : ℕ) → IsTrue (get_or l.marks.items c false) ↔ (c < length l.jumps) × ((k : ℕ) × (k < l.jump-index) × (get_or l.jumps k None ≡ Some c));
}
