-- What the laws say of equations, an order of values, and assignments.
use Rattle.std.specs.Prelude.{◌≡◌, ◌↔◌, Bool, true, List, Option, Some, None}
use Rattle.solutions.specs.Asking.{Demands, Ends, Halts}
use Rattle.solutions.specs.Rounds.{Equations, Graph, HasValue, RoundsEnd, is_in}
use Rattle.solutions.specs.Rising.{AgreeBelow, LiesBelow, Rise, Under}
use Rattle.solutions.specs.Leading.{AreUndeclared, HasAllDemands, HasDemands, Mixed, raised}
use Rattle.solutions.specs.Orders.{Order, IsAtMost, Fits, HasLoopIn, IsClosedIn, IsLowerIn, LeadsIn, Related}

-- an instance whose equation is stuck under the solution has no value
abbrev pub HasNoneWhereStuck : {I V : Type 0} → Equations I V → I → Type 0
HasNoneWhereStuck {I} {V} G i = (j : I) (demands : List I) → Halts (HasValue G) (G.equation i) j demands → (v : V) → ¬ HasValue G i v

-- the equation of i ends under the solution with no other value than that of i
abbrev pub HasItsEnd : {I V : Type 0} → Equations I V → I → Type 0
HasItsEnd {I} {V} G i = (v : V) (demands : List I) → Ends (HasValue G) (G.equation i) v demands → HasValue G i v

-- Of demands that rise from c to d, c demands no more than d under a lower assignment, in the same order, and comes to a value at most that of d.
abbrev pub DemandMoreAbove : {I V : Type 0} → (I → Bool) → Order I V → (V → V → Bool) → Type 0
DemandMoreAbove {I} {V} circular o related = (c d : Demands I V) → Rise circular (IsAtMost o) (Related related) c d → (A B : I → Option V) → LiesBelow circular (IsAtMost o) (Graph A) (Graph B) → (w : V) (demands : List I) → Ends (Graph B) d w demands → Under (Related related) (Graph A) c w demands

-- Where both come to a value, and the first assignment is at most the second wherever both have one, that of c is at most that of d.
abbrev pub GiveMoreAbove : {I V : Type 0} → (I → Bool) → Order I V → (V → V → Bool) → Type 0
GiveMoreAbove {I} {V} circular o related = (c d : Demands I V) → Rise circular (IsAtMost o) (Related related) c d → (A B : I → Option V) → AgreeBelow circular (IsAtMost o) (Graph A) (Graph B) → (v w : V) (first second : List I) → Ends (Graph A) c v first → Ends (Graph B) d w second → Related related v w

-- at each circular instance T has a value at most that of U
abbrev pub AreAtMost : {I V : Type 0} → Equations I V → Order I V → (I → V) → (I → V) → Type 0
AreAtMost {I} G o T U = (j : I) → G.circular j ≡ true → IsAtMost o j (T j) (U j)

-- under T the equation of a circular instance demands no more than under U, in the same order, and comes to a value at most the other one
abbrev pub AsksNoMoreUnder : {I V : Type 0} → Equations I V → Order I V → (I → V) → (I → V) → Type 0
AsksNoMoreUnder {I} {V} G o T U = (i : I) → G.circular i ≡ true → (w : V) (demands : List I) → Ends (Mixed G U) (G.equation i) w demands → Under (IsAtMost o i) (Mixed G T) (G.equation i) w demands

-- where the equation of a circular instance is stuck under neither, its value under T is at most that under U
abbrev pub GivesNoMoreUnder : {I V : Type 0} → Equations I V → Order I V → (I → V) → (I → V) → Type 0
GivesNoMoreUnder {I} {V} G o T U = (i : I) → G.circular i ≡ true → (v w : V) (first second : List I) → Ends (Mixed G T) (G.equation i) v first → Ends (Mixed G U) (G.equation i) w second → IsAtMost o i v w

-- T is at most the solution wherever a circular instance has a value
abbrev pub IsBelowSolution : {I V : Type 0} → Equations I V → Order I V → (I → V) → Type 0
IsBelowSolution {I} {V} G o T = (i : I) (v : V) → G.circular i ≡ true → HasValue G i v → IsAtMost o i (T i) v

-- two lower assignments joined are one
abbrev pub JoinToLower : {I V : Type 0} → Equations I V → Order I V → Type 0
JoinToLower {I} {V} G o = (T U : I → V) → IsLowerIn G o T → IsLowerIn G o U → IsLowerIn G o (λ j. o.join j (T j) (U j))

-- T stays a lower assignment where it is joined, at a circular instance, with a part of what the equation comes to under values at most those of T
abbrev pub StaysLower : {I V : Type 0} → Equations I V → Order I V → (I → V) → Type 0
StaysLower {I} {V} G o T = (i : I) → G.circular i ≡ true → (B : I → V) → AreAtMost G o B T → (v w : V) (demands : List I) → Ends (Mixed G B) (G.equation i) v demands → Fits o i w → IsAtMost o i w v → IsLowerIn G o (raised G o.join T i w)

-- each instance of a closed set under a lower assignment has that assignment's value
abbrev pub ClosedHaveValues : {I V : Type 0} → Equations I V → Order I V → Type 0
ClosedHaveValues {I} {V} G o = (C : List I) (T : I → V) → IsClosedIn G o C T → (i : I) → is_in G.same C i ≡ true → HasValue G i (T i)

-- rounds over some undeclared instances and all that they demand ran until nothing was added, and left A
abbrev pub IsLeftByPlain : {I V : Type 0} → Equations I V → List I → (I → Option V) → Type 0
IsLeftByPlain G J A = RoundsEnd G J A × AreUndeclared G J × HasDemands G J A

-- rounds over some instances and all that they demand ran until nothing was added, and left A
abbrev pub IsLeft : {I V : Type 0} → Equations I V → List I → (I → Option V) → Type 0
IsLeft G J A = RoundsEnd G J A × HasAllDemands G J A

-- an instance of the list that A leaves without a value has a loop
abbrev pub LeavesLoops : {I V : Type 0} → Equations I V → Order I V → List I → (I → Option V) → Type 0
LeavesLoops {I} G o J A = (i : I) → is_in G.same J i ≡ true → A i ≡ None → HasLoopIn G o i

-- A leaves an instance of the list with its value exactly where it has one, and without a value exactly where it has a loop
abbrev pub LeavesValuesAndLoops : {I V : Type 0} → Equations I V → Order I V → List I → (I → Option V) → Type 0
LeavesValuesAndLoops {I} {V} G o J A = (i : I) → is_in G.same J i ≡ true → ((v : V) → A i ≡ Some v ↔ HasValue G i v) × (A i ≡ None ↔ HasLoopIn G o i)

-- what plain rounds leave tells values from loops
abbrev pub PlainRoundsTell : {I V : Type 0} → Equations I V → Order I V → Type 0
PlainRoundsTell {I} {V} G o = (J : List I) (A : I → Option V) → IsLeftByPlain G J A → LeavesValuesAndLoops G o J A

-- and so does what any rounds leave
abbrev pub RoundsTell : {I V : Type 0} → Equations I V → Order I V → Type 0
RoundsTell {I} {V} G o = (J : List I) (A : I → Option V) → IsLeft G J A → LeavesValuesAndLoops G o J A

-- a list of instances has all that its members lead to
abbrev pub HasAllLed : {I V : Type 0} → Equations I V → Order I V → List I → Type 0
HasAllLed {I} G o J = (i j : I) → is_in G.same J i ≡ true → LeadsIn G o i j → is_in G.same J j ≡ true

-- rounds over such a list ran until nothing was added, and left A
abbrev pub IsLeftByLed : {I V : Type 0} → Equations I V → Order I V → List I → (I → Option V) → Type 0
IsLeftByLed G o J A = RoundsEnd G J A × HasAllLed G o J

-- what these leave tells values from loops too
abbrev pub LedRoundsTell : {I V : Type 0} → Equations I V → Order I V → Type 0
LedRoundsTell {I} {V} G o = (J : List I) (A : I → Option V) → IsLeftByLed G o J A → LeavesValuesAndLoops G o J A
