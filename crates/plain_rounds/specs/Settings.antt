-- What rounds go over, and what stands there.
use Rattle.std.specs.Prelude.{◌≡◌, ℕ, List, Option, Some, All, length, map, slice_get}
use Rattle.std.specs.Option.{option_and_then}
use Rattle.solutions.specs.Rounds.{RoundsEnd}
use Rattle.equation_law.specs.declared.coding.Instance.{Instance as CodedInstance}
use Rattle.equation_law.specs.Checked.{IsInstance, IsProgram}
use Rattle.equation_law.specs.Codes.{IsCoded, Naming, instance_by}
use Rattle.equation_law.specs.Equations.{equations_of}
use Rattle.equation_law.specs.Names.{Instance}
use Rattle.equation_law.specs.Program.{Program}
use Rattle.equation_law.specs.Systems.{program_of}
use Rattle.equation_law.specs.Values.{Value}
use Rattle.made_trees.specs.Made.{naming_by_makers}
use Rattle.made_trees.specs.Makers.{AreTrees}
use Rattle.plain_rounds.specs.declared.setting.Setting.{Setting}
use Rattle.plain_rounds.specs.declared.values.NamedValue.{NamedValue}
use Rattle.plain_rounds.specs.Places.{IsHeld, first_place, kept_place}
use Rattle.plain_rounds.specs.Steps.{known, standing}
use Rattle.plain_rounds.specs.Trees.{HaveNumbers, IsOwn}

-- the program whose instances these are, and what codes stand for
abbrev pub program_at : Setting → Program
program_at s = program_of s.system.now

abbrev pub naming_at : Setting → Naming
naming_at s = naming_by_makers (program_at s) s.makers.now.makers

abbrev pub instance_at : Setting → CodedInstance → Instance
instance_at s i = instance_by (program_at s) (naming_at s) i

-- The instances are some of the program, coded well, with their first places. What made trees is what the makers are, and each instance that makes a
-- tree is one of them.
pub record IsSetting (s : Setting) : Type 0 where
  pub trees : AreTrees s.makers.now
  pub good : IsProgram (program_at s)
  pub coded : All (IsCoded (program_at s)) s.names.now
  pub instances : All (IsInstance (program_at s)) (map (instance_at s) s.names.now)
  pub numbers : HaveNumbers (program_at s) (naming_at s) s.makers.now.makers s.names.now
  pub places : (q : CodedInstance) → kept_place s.places.now.map q ≡ first_place s.names.now q

-- a value or none for each of the instances
pub record AreHeld (s : Setting) (values : List (Option NamedValue)) : Type 0 where
  pub long : length values ≡ length s.names.now
  pub held : All (IsHeld (program_at s)) values

-- what stands under an instance
abbrev pub standing_in : Setting → List (Option NamedValue) → Instance → Option Value
standing_in s values i = standing (program_at s) (naming_at s) s.names.now values i

-- values under which equations may be evaluated: each tree is one that its instance makes
pub record AreReady (s : Setting) (values : List (Option NamedValue)) : Type 0 where
  pub set : IsSetting s
  pub are : AreHeld s values
  pub own : (i : Instance) (v : Value) → standing_in s values i ≡ Some v → IsOwn (program_at s) i v

-- what stands under the names is what the rounds leave that ran until nothing was added
pub record AreLast (s : Setting) (values : List (Option NamedValue)) : Type 0 where
  pub end : RoundsEnd (equations_of (program_at s)) (map (instance_at s) s.names.now) (standing_in s values)
  pub each : (k : ℕ) (i : Instance) → slice_get (map (instance_at s) s.names.now) k ≡ Some i → option_and_then (λ (v : Option Value). v) (slice_get (map (known (program_at s) (naming_at s)) values) k) ≡ standing_in s values i
