-- Growing demands under assignments to circular instances, with the solution on the others.
use Rattle.std.proofs.Common.{◌≡◌, true, false, List}
use Rattle.solutions.specs.Asking.{Ends}
use Rattle.solutions.specs.Rounds.{Equations}
use Rattle.solutions.specs.Rising.{AgreeBelow, AreRising, LiesBelow, Under}
use Rattle.solutions.specs.Leading.{Mixed, fixed, present}
use Rattle.solutions.proofs.Growing.{done_below, growing}
use Rattle.solutions.proofs.Unique.{unique}

-- the first gives each circular instance at most what the second gives it
module _ {I V : Type 0} (G : Equations I V) (le : I → V → V → Type 0) (Fits : I → V → Type 0) (r : AreRising G le Fits) (T U : I → V) (low : (j : I) → G.circular j ≡ true → le j (T j) (U j)) where
  undeclared_there : (j : I) (w : V) → G.circular j ≡ false → Mixed G U j w → Mixed G T j w
  undeclared_there j w plain (fixed d a) = fixed d a
  undeclared_there j w plain (present c) = absurd cc

  circular_there : (j : I) (w : V) → G.circular j ≡ true → Mixed G U j w → (v : V) × Mixed G T j v × le j v w
  circular_there j w c (fixed d a) = absurd cc
  circular_there j w c (present d) = (T j, present d, low j d)

  lies : LiesBelow G.circular le (Mixed G T) (Mixed G U)
  lies = record { fixed = undeclared_there; below = circular_there }

  undeclared_same : (j : I) (v w : V) → G.circular j ≡ false → Mixed G T j v → Mixed G U j w → v ≡ w
  undeclared_same j v w plain (fixed d a) (fixed e b) = unique G le Fits r j v w a b
  undeclared_same j v w plain (fixed d a) (present e) = absurd cc
  undeclared_same j v w plain (present d) h = absurd cc

  circular_low : (j : I) (v w : V) → G.circular j ≡ true → Mixed G T j v → Mixed G U j w → le j v w
  circular_low j v w c (present d) (present e) = low j d
  circular_low j v w c (present d) (fixed e b) = absurd cc
  circular_low j v w c (fixed d a) h = absurd cc

  agrees : AgreeBelow G.circular le (Mixed G T) (Mixed G U)
  agrees = record { fixed = undeclared_same; below = circular_low }

  pub demands_assigned : (i : I) → G.circular i ≡ true → (w : V) (demands : List I) → Ends (Mixed G U) (G.equation i) w demands → Under (le i) (Mixed G T) (G.equation i) w demands
  demands_assigned i c w demands e = growing lies (r.rising i c) e

  pub values_assigned : (i : I) → G.circular i ≡ true → (v w : V) (first second : List I) → Ends (Mixed G T) (G.equation i) v first → Ends (Mixed G U) (G.equation i) w second → le i v w
  values_assigned i c v w first second d e = done_below agrees (r.rising i c) d e
