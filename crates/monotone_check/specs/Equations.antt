-- What the equations of circular attributes break.
use Rattle.std.specs.Prelude.{◌≡◌, ℕ, List, [], Bool, true, false, None, Result, Ok, Err, All}
use Rattle.std.specs.List.{flat_map}
use Rattle.broken_rules.specs.declared.broken.Broken.{Broken}
use Rattle.broken_rules.specs.Answers.{IsFirst}
use Rattle.attr_rules.specs.Rules.{Equation, RuleSet, circular_at}
use Rattle.monotone_check.specs.Permitted.{IsPermitted}
use Rattle.monotone_check.specs.Positions.{broken_in}

-- whether the attribute of this number is declared circular
abbrev pub is_circular : RuleSet → ℕ → Bool
is_circular rules a = circular_at rules.attributes a

abbrev pub broken_where : Bool → List Broken → List Broken
broken_where true bs = bs
broken_where false bs = []

-- an equation of an attribute that isn't circular breaks nothing, whatever it calls
abbrev pub equation_broken : RuleSet → Equation → List Broken
equation_broken rules e = broken_where (is_circular rules e.target.attribute.0) (broken_in (is_circular rules) None e.body)

abbrev pub equations_broken : RuleSet → List Broken
equations_broken rules = flat_map (equation_broken rules) rules.equations

-- the answer to what is broken: none where nothing is, and else the first
abbrev pub Verdict : List Broken → Result (Unit {0}) Broken → Type 0
Verdict bs (Ok x) = bs ≡ []
Verdict bs (Err b) = IsFirst bs b

-- the calls in the equation of a circular attribute stand in permitted positions
abbrev pub EquationPermitted : RuleSet → Equation → Type 0
EquationPermitted rules e = is_circular rules e.target.attribute.0 ≡ true → IsPermitted (is_circular rules) e.body

-- those in the equations of all circular attributes do
abbrev pub ArePermitted : RuleSet → Type 0
ArePermitted rules = All (EquationPermitted rules) rules.equations
