-- The right sides of equations among the expressions of rules.
use Rattle.std.proofs.Common.{◌≡◌, ◌<◌, ◌∙◌, ℕ, Some, ap, arith, length, map, option_map, slice_get}
use Rattle.std.specs.List.{flat_map}
use Rattle.std.proofs.Math.ListN.{length-append}
use Rattle.std.proofs.lemmas.List.{length-map}
use Rattle.std.proofs.lemmas.Option.{slice_get-map, slice_get_within}
use Rattle.attr_rules.specs.Rules.{Equation, RuleSet, bodies, body_at, expression_in, expressions_in}
use Rattle.attr_equations.proofs.Places.{in_front}

-- the number of an equation is that of an expression
pub equation_within : (r : RuleSet) (e : ℕ) → e < length r.equations → e < length (bodies r)
equation_within r e within =
    let all = length-append (map expression_in r.equations) (flat_map expressions_in r.contributions) in
    omega (arith, within, all, length-map r.equations expression_in)

-- which is its right side
pub body_is : (r : RuleSet) (e : ℕ) (q : Equation) → slice_get r.equations e ≡ Some q → body_at r e ≡ Some q.body
body_is r e q is =
    in_front (map expression_in r.equations) (flat_map expressions_in r.contributions) e (omega (arith, length-map r.equations expression_in, slice_get_within r.equations e q is)) ∙ slice_get-map expression_in r.equations e
    ∙ ap (option_map expression_in) is
