-- Contributions as the code keeps them: each with the numbers of its expressions.
use Rattle.std.specs.Prelude.{◌≡◌, ℕ, ◌+◌, ◌*◌, ◌<◌, ◌^◌, Bool, true, false, List, Option, Some, None, length, slice_get}
use Rattle.attr_equations.specs.declared.contributions.Contribution as kept
use Rattle.attr_equations.specs.declared.contributions.KeptContribution.{KeptContribution}
use Rattle.attr_equations.specs.declared.contributions.TypedContribution.{TypedContribution}
use Rattle.attr_rules.specs.declared.expression.TExpr.{TExpr}
use Rattle.attr_rules.specs.declared.kinds.EqId.{EqId}
use Rattle.attr_rules.specs.Expression.{Expression, Truth, expression_of}
use Rattle.attr_rules.specs.Rules.{Contribution, RuleSet, body_at}

abbrev pub contribution_in : KeptContribution → Contribution
contribution_in c = record { class = c.numbers.class; target = c.numbers.target; condition = expression_of c.condition; receiver = expression_of c.receiver; value = expression_of c.value }

-- a condition that isn't written is `true`, and has no number
abbrev pub condition_typed : Option TExpr → Expression
condition_typed None = Truth true
condition_typed (Some e) = expression_of e

abbrev pub number_if : ℕ → Option TExpr → Option EqId
number_if first None = None
number_if first (Some e) = Some (record { 0 = first })

abbrev pub contribution_typed : TypedContribution → Contribution
contribution_typed c = record { class = c.class; target = c.target; condition = condition_typed c.condition; receiver = expression_of c.receiver; value = expression_of c.value }

-- three numbers side by side, from this one on; the first may be left out
pub record HasNumbers (first : ℕ) (c : kept.Contribution) : Type 0 where
  pub guard : (n : EqId) → c.guard ≡ Some n → n.0 ≡ first
  pub receiver : c.receiver.0 ≡ first + 1
  pub value : c.value.0 ≡ first + 2

-- the literal `true`
abbrev pub is_true : Expression → Bool
is_true (Truth b) = b
is_true e = false

-- a contribution whose expressions have numbers from this one on
pub record IsNumbered (first : ℕ) (c : KeptContribution) : Type 0 where
  pub numbers : HasNumbers first c.numbers
  pub left_out : c.numbers.guard ≡ None → is_true (expression_of c.condition) ≡ true

-- contributions whose expressions have numbers of 32 bits from this one on
pub record AreNumbered (first : ℕ) (list : List KeptContribution) : Type 0 where
  pub few : first + 3 * length list < 2 ^ 32
  pub each : (k : ℕ) (c : KeptContribution) → slice_get list k ≡ Some c → IsNumbered (first + 3 * k) c

-- The contribution of a number among rules, with the numbers of its expressions. A condition that isn't written has no number, and is `true`.
pub record IsContributionAt (r : RuleSet) (k : ℕ) (c : kept.Contribution) : Type 0 where
  pub contribution : Contribution
  pub is : slice_get r.contributions k ≡ Some contribution
  pub class : c.class ≡ contribution.class
  pub target : c.target ≡ contribution.target
  pub numbers : HasNumbers (length r.equations + 3 * k) c
  pub guard : (n : EqId) → c.guard ≡ Some n → body_at r n.0 ≡ Some contribution.condition
  pub left_out : c.guard ≡ None → contribution.condition ≡ Truth true
  pub receiver : body_at r c.receiver.0 ≡ Some contribution.receiver
  pub value : body_at r c.value.0 ≡ Some contribution.value
