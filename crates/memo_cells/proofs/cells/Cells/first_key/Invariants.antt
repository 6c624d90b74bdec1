-- The word is of a key on the way to the instance, with fewer arguments at each step.
use Rattle.std.proofs.Common.{◌≡◌, ◌-◌}
use Rattle.equation_law.specs.Names.{Instance}
use Rattle.equation_law.specs.Systems.{program_of}
use Rattle.memo_cells.specs.Causes.{IsLogOn}
use Rattle.memo_cells.specs.Naming.{IsCellOf}
use Rattle.memo_cells.specs.Standing.{IsPassOf}
use Rattle.memo_cells.specs.Views.{IsAtLeast}
use Rattle.memo_cells.proofs.Firsts.{IsBehind}
use Rattle.memo_cells.proofs.cells.Cells.first_key.Given as goal

abbrev pub invariant-loop-done : goal.invariant-loop-done
invariant-loop-done l = record {
  own : IsPassOf l.self l.pass;
  kept : IsAtLeast l.fn.pass l.pass;
  log : IsLogOn l.fn.pass l.pass;
  behind : (i : Instance) → IsCellOf (program_of l.self.system.value) l.self l.fn.pass i l.fn.slot.0 → IsBehind l.pass i l.word (3 - l._done);
  claims : l.pass.claims ≡ l.fn.pass.claims;
}
