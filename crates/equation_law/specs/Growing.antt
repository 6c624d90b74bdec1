-- What demands and their values are under assignments of which one is at most another.
use Rattle.std.specs.Prelude.{List, Option}
use Rattle.solutions.specs.Asking.{Demands, Ends}
use Rattle.solutions.specs.Leading.{Mixed}
use Rattle.solutions.specs.Rising.{AgreeBelow, LiesBelow, Under}
use Rattle.solutions.specs.Rounds.{Graph}
use Rattle.equation_law.specs.Equations.{IsCircularIn, demands_of, equations_of}
use Rattle.equation_law.specs.Loops.{fits_in, order_in}
use Rattle.equation_law.specs.Names.{Instance}
use Rattle.equation_law.specs.Orders.{IsAtMost}
use Rattle.equation_law.specs.Program.{Program}
use Rattle.equation_law.specs.Values.{Value}

-- Where these demands aren't stuck under B, they aren't stuck under A: they are no more, in the same order, and come to a value at most the other one.
abbrev pub AsksNoMore : Demands Instance Value → (Instance → Value → Type 0) → (Instance → Value → Type 0) → Type 0
AsksNoMore c A B = (w : Value) (demands : List Instance) → Ends B c w demands → Under IsAtMost A c w demands

-- where they are stuck under neither, their value under A is at most that under B
abbrev pub GivesNoMore : Demands Instance Value → (Instance → Value → Type 0) → (Instance → Value → Type 0) → Type 0
GivesNoMore c A B = (v w : Value) (first second : List Instance) → Ends A c v first → Ends B c w second → IsAtMost v w

-- They are no more under values that stand wherever others stand, the same for undeclared instances and at most those for circular ones.
abbrev pub HasGrowingDemands : Program → Demands Instance Value → Type 0
HasGrowingDemands p c = (A B : Instance → Option Value) → LiesBelow (equations_of p).circular (order_in p) (Graph A) (Graph B) → AsksNoMore c (Graph A) (Graph B)

-- Their value is at most the other one under values that are, where both stand, the same for undeclared instances and at most the others for circular ones.
abbrev pub HasGrowingValues : Program → Demands Instance Value → Type 0
HasGrowingValues p c = (A B : Instance → Option Value) → AgreeBelow (equations_of p).circular (order_in p) (Graph A) (Graph B) → GivesNoMore c (Graph A) (Graph B)

-- the solution on the undeclared instances, and T on the circular ones
abbrev pub SolutionWith : Program → (Instance → Value) → Instance → Value → Type 0
SolutionWith p T = Mixed (equations_of p) T

-- for each circular instance T has a value at most that of U
abbrev pub AreAtMost : Program → (Instance → Value) → (Instance → Value) → Type 0
AreAtMost p T U = (j : Instance) → IsCircularIn p j → order_in p j (T j) (U j)

-- under T the equation of a circular instance demands no more than under U, in the same order, and comes to a value at most the other one
abbrev pub AsksNoMoreUnder : Program → (Instance → Value) → (Instance → Value) → Type 0
AsksNoMoreUnder p T U = (i : Instance) → IsCircularIn p i → AsksNoMore (demands_of p i) (SolutionWith p T) (SolutionWith p U)

-- where the equation of a circular instance is stuck under neither, its value under T is at most that under U
abbrev pub GivesNoMoreUnder : Program → (Instance → Value) → (Instance → Value) → Type 0
GivesNoMoreUnder p T U = (i : Instance) → IsCircularIn p i → GivesNoMore (demands_of p i) (SolutionWith p T) (SolutionWith p U)

-- i is circular, and w is of its type and a part of what its equation comes to under values at most those of T
abbrev pub MayRaise : Program → (Instance → Value) → Instance → Value → Type 0
MayRaise p T i w = IsCircularIn p i × ((B : Instance → Value) × AreAtMost p B T × ((v : Value) × (demands : List Instance) × Ends (SolutionWith p B) (demands_of p i) v demands × fits_in p i w × order_in p i w v))
