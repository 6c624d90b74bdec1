-- In equations that break nothing the calls of circular attributes stand in permitted positions, and the other way round.
use Rattle.std.proofs.Common.{◌≡◌, List, [], ◌∷◌, ◌++◌, ℕ, ◌↔◌, Bool, true, false, All, None, get_or, suc, refl, arith}
use Rattle.std.specs.List.{flat_map}
use Rattle.broken_rules.specs.declared.broken.Broken.{Broken}
use Rattle.broken_rules.proofs.Clean.{flat_map_none}
use Rattle.attr_rules.specs.Expression.{Expression}
use Rattle.attr_rules.specs.Rules.{Equation, RuleSet}
use Rattle.monotone_check.specs.Equations.{ArePermitted, EquationPermitted, broken_where, equation_broken, equations_broken, is_circular}
use Rattle.monotone_check.specs.Permitted.{IsPermitted}
use Rattle.monotone_check.specs.Positions.{broken_in}
use Rattle.monotone_check.proofs.Positioned.{breaks_none, permits}

where_broken : (b : Bool) (bs : List Broken) → broken_where b bs ≡ [] → b ≡ true → bs ≡ []
where_broken true bs h k = h
where_broken false bs h k = cc

none_where : (b : Bool) (bs : List Broken) → (b ≡ true → bs ≡ []) → broken_where b bs ≡ []
none_where true bs h = h refl
none_where false bs h = refl

permits_in : (rules : RuleSet) (e : Equation) → equation_broken rules e ≡ [] → EquationPermitted rules e
permits_in rules e h k = permits (is_circular rules) e.body (where_broken (is_circular rules e.target.attribute.0) (broken_in (is_circular rules) None e.body) h k)

breaks_in : (rules : RuleSet) (e : Equation) → EquationPermitted rules e → equation_broken rules e ≡ []
breaks_in rules e h = none_where (is_circular rules e.target.attribute.0) (broken_in (is_circular rules) None e.body) (λ k. breaks_none (is_circular rules) (h k))

each_breaks : (rules : RuleSet) (es : List Equation) → All (EquationPermitted rules) es → flat_map (equation_broken rules) es ≡ []
each_breaks rules [] h = refl
each_breaks rules (e ∷ es) h =
    let first : equation_broken rules e ≡ [] = breaks_in rules e (h 0 e (omega arith)) in
    (λ i. first i ++ each_breaks rules es (λ k d lt. h (suc k) d (omega arith)) i)

pub accepted : (rules : RuleSet) → equations_broken rules ≡ [] → ArePermitted rules
accepted rules h k d lt = permits_in rules (get_or rules.equations k d) (flat_map_none (equation_broken rules) rules.equations k d h lt)

pub permitted : (rules : RuleSet) → ArePermitted rules → equations_broken rules ≡ []
permitted rules h = each_breaks rules rules.equations h

pub of_expression : (circular : ℕ → Bool) (e : Expression) → (broken_in circular None e ≡ []) ↔ IsPermitted circular e
of_expression circular e = (permits circular e, breaks_none circular)
