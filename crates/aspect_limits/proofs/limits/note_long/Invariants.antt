use Rattle.std.proofs.Common.{◌≡◌, ◌≤◌, ℕ, Some, drop}
use Rattle.rag_io.specs.Tokens.{seen_tokens}
use Rattle.aspect_limits.proofs.NotedLong.{NotesOn}
use Rattle.aspect_limits.proofs.limits.note_long.Given as goal

abbrev pub invariant-loop-event : goal.invariant-loop-event
invariant-loop-event l = record {
  few : l.at ≤ l.event-index;
  few_inside : (n : ℕ) → l.inside ≡ Some n → n ≤ l.event-index;
  notes : NotesOn (seen_tokens l.tokens) l.sentence l.fn.broken l.broken l.inside (drop l.at (seen_tokens l.tokens)) (drop l.event-index l.sentence);
}
