-- What the rounds over a list of instances of a program leave.
use Rattle.std.proofs.Common.{◌≡◌, ◌↔◌, true, false, List, Option, Some, None}
use Rattle.solutions.specs.Asking.{Ends}
use Rattle.solutions.specs.Rounds.{Graph, RoundsEnd, is_in}
use Rattle.solutions.specs.Leading.{AreUndeclared, HasDemands}
use Rattle.solutions.proofs.Dropping.{any_left_loop, any_loop_left, any_value_left}
use Rattle.solutions.proofs.Ended.{ended_left, left_val}
use Rattle.solutions.proofs.Looping.{left_loop, loop_left, value_left}
use Rattle.equation_law.specs.Names.{Instance, same_instance}
use Rattle.equation_law.specs.Values.{Value}
use Rattle.equation_law.specs.Program.{Program}
use Rattle.equation_law.specs.Equations.{HasValue, equations_of}
use Rattle.equation_law.specs.Loops.{HasAllLed, HasLoop, fits_in, join_in, order_in}
use Rattle.equation_law.proofs.Solution.{are_joins, are_rising}

module _ (p : Program) (names : List Instance) (A : Instance → Option Value) (r : RoundsEnd (equations_of p) names A) where
  -- what an instance is left with is its value
  pub left_value : (i : Instance) (v : Value) → A i ≡ Some v → HasValue p i v
  left_value i v a = left_val (equations_of p) names A r i v a

  -- an undeclared instance of the list whose equation ends under what is left has what it ends with
  pub ended_value : (i : Instance) → (equations_of p).circular i ≡ false → (v : Value) (demands : List Instance) → is_in same_instance names i ≡ true → Ends (Graph A) ((equations_of p).equation i) v demands → A i ≡ Some v
  unfolding equations_of
  ended_value i c v demands m e = ended_left (equations_of p) names A r i c m v demands e

  -- where the list has all that its instances demand or are stuck at, and none of them is circular
  module _ (plain : AreUndeclared (equations_of p) names) (whole : HasDemands (equations_of p) names A) (i : Instance) (m : is_in same_instance names i ≡ true) where
    -- an instance that is left without a value has a loop
    pub left_has_loop : A i ≡ None → HasLoop p i
    unfolding equations_of
    left_has_loop n = left_loop (equations_of p) (order_in p) (fits_in p) (join_in p) (are_rising p) names A r plain whole i m n

    -- it is left with a value exactly where it has that value
    pub left_is_value : (v : Value) → A i ≡ Some v ↔ HasValue p i v
    unfolding equations_of
    left_is_value v = value_left (equations_of p) (order_in p) (fits_in p) (join_in p) (are_rising p) names A r plain whole (are_joins p) i m v

    -- and without one exactly where it has a loop
    pub left_is_loop : A i ≡ None ↔ HasLoop p i
    unfolding equations_of
    left_is_loop = loop_left (equations_of p) (order_in p) (fits_in p) (join_in p) (are_rising p) names A r plain whole (are_joins p) i m

  -- the same of any list that has all that its members lead to, circular instances and all
  module _ (led : HasAllLed p names) (i : Instance) (m : is_in same_instance names i ≡ true) where
    pub led_has_loop : A i ≡ None → HasLoop p i
    unfolding equations_of
    led_has_loop n = any_left_loop (equations_of p) (order_in p) (fits_in p) (join_in p) (are_rising p) (are_joins p) names A r (λ k j l in_j meets leads. led j l in_j leads) i m n

    pub led_is_value : (v : Value) → A i ≡ Some v ↔ HasValue p i v
    unfolding equations_of
    led_is_value v = any_value_left (equations_of p) (order_in p) (fits_in p) (join_in p) (are_rising p) (are_joins p) names A r (λ k j l in_j meets leads. led j l in_j leads) i m v

    pub led_is_loop : A i ≡ None ↔ HasLoop p i
    unfolding equations_of
    led_is_loop = any_loop_left (equations_of p) (order_in p) (fits_in p) (join_in p) (are_rising p) (are_joins p) names A r (λ k j l in_j meets leads. led j l in_j leads) i m
