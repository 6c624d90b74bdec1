use Rattle.solutions.specs.Orders.{IsAtMost, Fits}
use Rattle.solutions.proofs.Dropping.{any_loop_left, any_value_left}
use Rattle.solutions.proofs.laws.led_values_and_loops.Goals as goal

pub returns : goal.returns
returns g c = λ G o r u J A left i m. (
  any_value_left G (IsAtMost o) (Fits o) o.join r u J A left.0 (λ n j k in_j meets leads. left.1 j k in_j leads) i m,
  any_loop_left G (IsAtMost o) (Fits o) o.join r u J A left.0 (λ n j k in_j meets leads. left.1 j k in_j leads) i m,
)
