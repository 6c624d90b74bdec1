-- Lower assignments of values to the circular instances of a program, and closed sets under them.
use Rattle.std.specs.Prelude.{List}
use Rattle.solutions.specs.Leading.{IsClosed as IsClosedIn, IsLower as IsLowerIn, raised}
use Rattle.equation_law.specs.Names.{Instance}
use Rattle.equation_law.specs.Values.{Value}
use Rattle.equation_law.specs.Program.{Program}
use Rattle.equation_law.specs.Equations.{equations_of}
use Rattle.equation_law.specs.Loops.{order_in, fits_in, join_in}

-- values of circular instances that are of their types, and at most those that some rising list reaches
abbrev pub IsLower : Program → (Instance → Value) → Type 0
IsLower p T = IsLowerIn (equations_of p) (order_in p) (fits_in p) (join_in p) T

-- circular instances whose equations come to at most these values, and read their own values, and else values of the solution alone
abbrev pub IsClosed : Program → List Instance → (Instance → Value) → Type 0
IsClosed p C T = IsClosedIn (equations_of p) (order_in p) (fits_in p) (join_in p) C T

-- the values of two joined
abbrev pub joined : Program → (Instance → Value) → (Instance → Value) → Instance → Value
joined p T U i = join_in p i (T i) (U i)

-- a value joined to that of an instance
abbrev pub raised_at : Program → (Instance → Value) → Instance → Value → Instance → Value
raised_at p T i v = raised (equations_of p) (join_in p) T i v
