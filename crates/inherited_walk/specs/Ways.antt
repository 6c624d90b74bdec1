-- Ways upwards from nodes, for inherited attributes.
use Rattle.std.specs.Prelude.{◌≡◌, ◌≤◌, ℕ, List, Some}
use Rattle.std.specs.HashMap.{HashMap, get}
use Rattle.equation_law.specs.Equations.{inherited_site}
use Rattle.equation_law.specs.Names.{Argument, Reference, Source}
use Rattle.equation_law.specs.Program.{Program}
use Rattle.inherited_walk.specs.contracts.ways.StartPartialEq.TheImpl as starts
use Rattle.inherited_walk.specs.declared.ways.Start.{Start}

-- the equation of the inherited attribute a at node n is the one that is found from a node above it on upwards, or from n itself
pub record IsWay (p : Program) (a n top : ℕ) : Type 0 where
  pub above : top ≤ n
  pub same : (zs : List Argument) (root : Reference) → inherited_site p a zs root (Source n) ≡ inherited_site p a zs root (Source top)

-- each top that is kept is that of the way from its node
abbrev pub AreWays : {S : Type 0} → Program → HashMap Start ℕ S → Type 0
AreWays p tops = (s : Start) (top : ℕ) → get starts.ghosts.eq tops s ≡ Some top → IsWay p s.attr.0 s.node top
