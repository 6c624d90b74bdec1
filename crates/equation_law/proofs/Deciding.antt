-- Rounds over any list of a program's instances come to an end, and where the list has all that its members lead to, what they leave tells which of
-- these have a value and which a loop.
use Rattle.std.proofs.Common.{◌≡◌, ℕ, ◌≤◌, true, Option, Some, List, inl, inr, ◌⊎◌}
use Rattle.solutions.specs.Rounds.{Ended, IsStable, inner_rounds, is_in, outer_rounds}
use Rattle.solutions.proofs.Finishing.{stopped}
use Rattle.solutions.proofs.Runs.{inner_in, option_cases}
use Rattle.solutions.proofs.Stopping.{ends}
use Rattle.equation_law.specs.Checked.{AreInstances, IsProgram}
use Rattle.equation_law.specs.Names.{Instance, same_instance}
use Rattle.equation_law.specs.Values.{Value}
use Rattle.equation_law.specs.Program.{Program}
use Rattle.equation_law.specs.Equations.{HasValue, equations_of, kind_in}
use Rattle.equation_law.specs.Loops.{HasAllLed, HasLoop, fits_in, order_in}
use Rattle.equation_law.proofs.Bounded.{most, value_within}
use Rattle.equation_law.proofs.Ended.{led_has_loop, left_value}
use Rattle.equation_law.proofs.Finite.{In}
use Rattle.equation_law.proofs.Inside.{has_inside, instance_inside, names_inside}
use Rattle.equation_law.proofs.Names.{same_instance_is}
use Rattle.equation_law.proofs.QueryValues.{IsTypedBy, given_typed, inner_typed}
use Rattle.equation_law.proofs.Solution.{are_rising, have_heights, height_in}

module _ (p : Program) (good : IsProgram p) (list : List Instance) (are : AreInstances p list) where
  -- the values are of source nodes, and of nodes that stand inside the instances
  abbrev IsTyped : (Instance → Option Value) → Type 0
  IsTyped A = IsTypedBy p good (In (names_inside p list)) A

  -- no value is higher than the highest
  inner_within : (S : Instance → Option Value) → IsTyped S → (n : ℕ) (i : Instance) (v : Value) → inner_rounds (equations_of p) list S n i ≡ Some v → height_in p i v ≤ most p good list
  unfolding equations_of
  inner_within S f n i v e =
      value_within p good list (kind_in p i) v (inner_typed p good (In (names_inside p list)) (has_inside p list) list (instance_inside p list) S f n i (are i (inner_in (equations_of p) list S n i v e)) v e)

  -- so inner rounds end
  inner_ends : (S : Instance → Option Value) → IsTyped S → (n : ℕ) × IsStable (equations_of p) list S n
  inner_ends S f = ends (equations_of p) (order_in p) (fits_in p) (are_rising p) (height_in p) (have_heights p) list S (most p good list) (inner_within S f)

  -- and outer rounds
  pub rounds_end : Ended (equations_of p) list
  unfolding equations_of
  rounds_end = stopped (equations_of p) same_instance_is list (λ ns w. inner_ends (outer_rounds (equations_of p) list ns) (given_typed p good (In (names_inside p list)) (has_inside p list) list (instance_inside p list) ns))

  pub value_or_loop : HasAllLed p list → (i : Instance) → is_in same_instance list i ≡ true → ((v : Value) × HasValue p i v) ⊎ HasLoop p i
  value_or_loop led i m =
      let e = rounds_end in
      elim (option_cases (e.left i)) [
        | inl s ↦ inl (s.0, left_value p list e.left e.end i s.0 s.1)
        | inr n ↦ inr (led_has_loop p list e.left e.end led i m n)
      ]
