-- The parts of a form are lighter, which is why going down one ends.
use Rattle.std.proofs.Common.{◌≡◌, ◌<◌, ◌+◌, ℕ, true, None, Some, arith, refl, subst}
use Rattle.attr_rules.specs.declared.kinds.Kind.{Kind}
use Rattle.attr_rules.specs.declared.expression.TArgs.{TArgs}
use Rattle.attr_rules.specs.declared.expression.TArgs.TheVariants as kept_arguments
use Rattle.attr_rules.specs.declared.expression.TExpr.{TExpr}
use Rattle.attr_rules.specs.declared.expression.TExpr.TheVariants as kept
use Rattle.attr_rules.specs.Expression.{expression_of}
use Rattle.expr_eval.specs.Evaluating.{is_over_form}
use Rattle.expr_eval.specs.Parts.{node_part, part_of, parts_of, range_and_body, token_read}
use Rattle.expr_eval.specs.Saved.{body_of, range_of}

-- how many forms an expression has
abbrev mutual
  pub weight : TExpr → ℕ
  weight (kept.Truth b) = 1
  weight (kept.Int z) = 1
  weight (kept.Text n) = 1
  weight kept.Null = 1
  weight kept.Empty = 1
  weight kept.This = 1
  weight (kept.Variable k) = 1
  weight (kept.Source k) = 1
  weight (kept.New c fields) = 1
  weight (kept.Child' k o e) = weight e + 1
  weight (kept.Count' k o e) = weight e + 1
  weight (kept.Has' k o e) = weight e + 1
  weight (kept.Token' t k o e) = weight e + 1
  weight (kept.Cast' c o e) = weight e + 1
  weight (kept.InstanceOf' c o e) = weight e + 1
  weight (kept.Single' o e) = weight e + 1
  weight (kept.Size' o e) = weight e + 1
  weight (kept.Not' o e) = weight e + 1
  weight (kept.Negate' o e) = weight e + 1
  weight (kept.Element' k m e n i) = weight e + weight i + 1
  weight (kept.Sets' o t m e n i) = weight e + weight i + 1
  weight (kept.Contains' m e n i) = weight e + weight i + 1
  weight (kept.Binary' o m e n i) = weight e + weight i + 1
  weight (kept.OrBoth' m e n i) = weight e + weight i + 1
  weight (kept.And' m e n i) = weight e + weight i + 1
  weight (kept.Or' m e n i) = weight e + weight i + 1
  weight (kept.Quantified' q k m e n i) = weight e + weight i + 1
  weight (kept.QuantifiedSet' q m e n i) = weight e + weight i + 1
  weight (kept.Each' t k m e n i) = weight e + weight i + 1
  weight (kept.EachOfSet' t m e n i) = weight e + weight i + 1
  weight (kept.If' p e q a at r b) = weight e + weight a + weight b + 1
  weight (kept.Call' t at p e xs) = weight e + arguments_weight xs + 1

  pub arguments_weight : TArgs → ℕ
  arguments_weight kept_arguments.End = 1
  arguments_weight (kept_arguments.More' p e q xs) = weight e + arguments_weight xs + 1

no_some : {T : Type 0} {a : T} → None ≡ Some a → ⊥
no_some h = cc

lighter : {x a : TExpr} (n : ℕ) → Some x ≡ Some a → weight x < n → weight a < n
lighter {x} {a} n h light = let same : x ≡ a = cc in subst (λ y. weight y < n) same light

-- the part of a form
pub one_lighter : (e a : TExpr) → part_of e ≡ Some a → weight a < weight e
one_lighter (kept.Count' k o e) a h = lighter (weight e + 1) h (omega arith)
one_lighter (kept.Single' o e) a h = lighter (weight e + 1) h (omega arith)
one_lighter (kept.Size' o e) a h = lighter (weight e + 1) h (omega arith)
one_lighter (kept.Not' o e) a h = lighter (weight e + 1) h (omega arith)
one_lighter (kept.Negate' o e) a h = lighter (weight e + 1) h (omega arith)
one_lighter _ a h = absurd (no_some h)

-- the part that gives a node
pub node_lighter : (e a : TExpr) → node_part e ≡ Some a → weight a < weight e
node_lighter (kept.Child' k o e) a h = lighter (weight e + 1) h (omega arith)
node_lighter (kept.Has' k o e) a h = lighter (weight e + 1) h (omega arith)
node_lighter (kept.Cast' c o e) a h = lighter (weight e + 1) h (omega arith)
node_lighter (kept.InstanceOf' c o e) a h = lighter (weight e + 1) h (omega arith)
node_lighter _ a h = absurd (no_some h)

reader_lighter : {x y : Kind × ℕ × TExpr} (n : ℕ) → Some x ≡ Some y → weight x.2 < n → weight y.2 < n
reader_lighter {x} {y} n h light = let same : x ≡ y = cc in subst (λ z. weight z.2 < n) same light

-- the part that gives the node of a token
pub token_lighter : (e : TExpr) (t : Kind) (k : ℕ) (a : TExpr) → token_read e ≡ Some (t, k, a) → weight a < weight e
token_lighter (kept.Token' u m o e) t k a h = reader_lighter (weight e + 1) h (omega arith)
token_lighter _ t k a h = absurd (no_some h)

both_lighter : {x y : TExpr × TExpr} (n : ℕ) → Some x ≡ Some y → (weight x.0 < n) × (weight x.1 < n) → (weight y.0 < n) × (weight y.1 < n)
both_lighter {x} {y} n h light = let same : x ≡ y = cc in subst (λ z. (weight z.0 < n) × (weight z.1 < n)) same light

-- both parts
pub two_lighter : (e a b : TExpr) → parts_of e ≡ Some (a, b) → (weight a < weight e) × (weight b < weight e)
two_lighter (kept.Element' k m x n y) a b h = both_lighter (weight x + weight y + 1) h (omega arith, omega arith)
two_lighter (kept.Sets' o t m x n y) a b h = both_lighter (weight x + weight y + 1) h (omega arith, omega arith)
two_lighter (kept.Contains' m x n y) a b h = both_lighter (weight x + weight y + 1) h (omega arith, omega arith)
two_lighter (kept.Binary' o m x n y) a b h = both_lighter (weight x + weight y + 1) h (omega arith, omega arith)
two_lighter (kept.OrBoth' m x n y) a b h = both_lighter (weight x + weight y + 1) h (omega arith, omega arith)
two_lighter _ a b h = absurd (no_some h)

-- what elements come from, and what is said at them
pub over_lighter : (e a b : TExpr) → range_and_body e ≡ Some (a, b) → (weight a < weight e) × (weight b < weight e)
over_lighter (kept.Quantified' q k m x n y) a b h = both_lighter (weight x + weight y + 1) h (omega arith, omega arith)
over_lighter (kept.QuantifiedSet' q m x n y) a b h = both_lighter (weight x + weight y + 1) h (omega arith, omega arith)
over_lighter (kept.Each' t k m x n y) a b h = both_lighter (weight x + weight y + 1) h (omega arith, omega arith)
over_lighter (kept.EachOfSet' t m x n y) a b h = both_lighter (weight x + weight y + 1) h (omega arith, omega arith)
over_lighter _ a b h = absurd (no_some h)

-- a form over elements by its parts
abbrev IsOver : TExpr → TExpr × TExpr → Type 0
IsOver e x = (is_over_form (expression_of e) ≡ true) × (range_of (expression_of e) ≡ expression_of x.0) × (body_of (expression_of e) ≡ expression_of x.1)

of_range : (e : TExpr) {x y : TExpr × TExpr} → Some x ≡ Some y → IsOver e x → IsOver e y
of_range e {x} {y} h over = let same : x ≡ y = cc in subst (IsOver e) same over

pub over_is : (e a b : TExpr) → range_and_body e ≡ Some (a, b) → IsOver e (a, b)
over_is (kept.Quantified' q k m x n y) a b h = of_range (kept.Quantified' q k m x n y) h (refl, refl, refl)
over_is (kept.QuantifiedSet' q m x n y) a b h = of_range (kept.QuantifiedSet' q m x n y) h (refl, refl, refl)
over_is (kept.Each' t k m x n y) a b h = of_range (kept.Each' t k m x n y) h (refl, refl, refl)
over_is (kept.EachOfSet' t m x n y) a b h = of_range (kept.EachOfSet' t m x n y) h (refl, refl, refl)
over_is _ a b h = absurd (no_some h)
