-- Demand that a table of cells can't hold.
use Rattle.std.specs.Prelude.{ℕ}
use Rattle.equation_law.specs.Keys.{HasMoreKeys, IsAsked}
use Rattle.equation_law.specs.Program.{Program}

-- the queries have more keys than there are cells
abbrev pub IsOverfull : Program → ℕ → Type 0
IsOverfull p cells = HasMoreKeys p (IsAsked p) cells
