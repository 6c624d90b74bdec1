-- A reader that has no value. It is read by the names of source nodes, so no code stands for a node that was made, and knows every code.
use Rattle.std.specs.Prelude.{◌≡◌, ◌≤◌, None, length}
use Rattle.attr_rules.specs.declared.expression.TExpr.{TExpr}
use Rattle.attr_rules.specs.declared.queries.QueryEq.{QueryEq}
use Rattle.attr_rules.specs.Expression.{expression_of}
use Rattle.tree_arena.specs.Nodes.{most_nodes}
use Rattle.equation_law.specs.Checked.{TreesFit}
use Rattle.equation_law.specs.Codes.{source_names}
use Rattle.equation_law.specs.Created.{making_in}
use Rattle.equation_law.specs.Program.{Program, text_of}
use Rattle.equation_law.specs.Reading.{Told}

-- what the program makes fits the grammar, and its tree is no larger than one may be
pub record IsReadable (p : Program) : Type 0 where
  pub fit : TreesFit p
  pub few : length p.tree ≤ most_nodes

abbrev pub nothing : {S : Type 0} → Program → Told S
nothing p = record { for = λ q. (q ≡ p) × IsReadable q; has = λ i v. ⊥; can = λ i v. ⊥; keeps = λ earlier. Unit {0}; names = λ n. n ≡ source_names (text_of p); knows = λ c. Unit {0}; height = λ c. c }

-- the expression is no `new`
abbrev pub MakesNone : TExpr → Type 0
MakesNone e = making_in (expression_of e) ≡ None

-- and that of the query is none
abbrev pub AsksNone : QueryEq → Type 0
AsksNone q = MakesNone q.expression
