-- What leads where among the instances of a program, and its loops.
use Rattle.std.specs.Prelude.{◌≡◌, ◌⊎◌, List, true}
use Rattle.solutions.specs.Leading.{Leads as LeadsOf, Chain as ChainOf, HasLoop as HasLoopOf}
use Rattle.solutions.specs.Rounds.{is_in}
use Rattle.equation_law.specs.Names.{Instance, same_instance}
use Rattle.equation_law.specs.Values.{Value}
use Rattle.equation_law.specs.Program.{Program}
use Rattle.equation_law.specs.Checked.{AreInstances}
use Rattle.equation_law.specs.Equations.{HasValue, equations_of, kind_in}
use Rattle.equation_law.specs.Orders.{IsAtMost, FitsKind, join_of}

-- the order of an instance's values, those of its type, and their joins
abbrev pub order_in : Program → Instance → Value → Value → Type 0
order_in p i v w = IsAtMost v w

abbrev pub fits_in : Program → Instance → Value → Type 0
fits_in p i v = FitsKind (kind_in p i) v

abbrev pub join_in : Program → Instance → Value → Value → Value
join_in p i v w = join_of (kind_in p i) v w

-- one step
abbrev pub Leads : Program → Instance → Instance → Type 0
Leads p i j = LeadsOf (equations_of p) (order_in p) (fits_in p) (join_in p) i j

-- none or more
abbrev pub Chain : Program → Instance → Instance → Type 0
Chain p i j = ChainOf (equations_of p) (order_in p) (fits_in p) (join_in p) i j

-- the instance leads into a loop, or stands on one
abbrev pub HasLoop : Program → Instance → Type 0
HasLoop p i = HasLoopOf (equations_of p) (order_in p) (fits_in p) (join_in p) i

-- a list of instances has all that its members lead to
abbrev pub HasAllLed : Program → List Instance → Type 0
HasAllLed p list = (i j : Instance) → is_in same_instance list i ≡ true → Leads p i j → is_in same_instance list j ≡ true

-- one of a list of instances of the program, which has all that its members lead to
pub record LeadsWithin (p : Program) (list : List Instance) (i : Instance) : Type 0 where
  pub instances : AreInstances p list
  pub led : HasAllLed p list
  pub among : is_in same_instance list i ≡ true

abbrev pub HasValueOrLoop : Program → Instance → Type 0
HasValueOrLoop p i = ((v : Value) × HasValue p i v) ⊎ HasLoop p i
