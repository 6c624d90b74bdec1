-- Which attributes and queries have truth values.
use Rattle.std.specs.Prelude.{◌≡◌, ℕ, Bool, List, map}
use Rattle.attr_rules.specs.Types.{truth_kind}
use Rattle.equation_law.specs.Equations.{kind_in}
use Rattle.equation_law.specs.Names.{Instance}
use Rattle.equation_law.specs.Program.{Program}
use Rattle.equation_law.specs.Systems.{program_of}
use Rattle.memo_cells.specs.declared.view.Frame.{Frame}
use Rattle.memo_cells.specs.declared.view.View.{View}
use Rattle.memo_cells.specs.Naming.{IsCellOf}

-- by their numbers
pub record AreTruths (p : Program) (attributes queries : List Bool) : Type 0 where
  pub of_attributes : attributes ≡ map (λ x. truth_kind x.declared.kind) p.rules.attributes
  pub of_queries : queries ≡ map (λ q. truth_kind q.kind) p.queries

-- whether what has its cell at this place has truth values
abbrev pub TellsTruth : Frame → View → ℕ → Bool → Type 0
TellsTruth f v place told = (i : Instance) → IsCellOf (program_of f.system.value) f v i place → told ≡ truth_kind (kind_in (program_of f.system.value) i)
