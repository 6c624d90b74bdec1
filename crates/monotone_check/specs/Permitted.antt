-- Expressions as they were written in which calls of circular attributes stand in permitted positions alone.
use Rattle.std.specs.Prelude.{◌≡◌, ℕ, Bool, true, false, Option, None}
use Rattle.rag_io.specs.declared.Place.{Place}
use Rattle.attr_rules.specs.declared.kinds.Kind.{Kind}
use Rattle.attr_rules.specs.declared.expression.Quantifier.TheVariants.{Any, All}
use Rattle.attr_rules.specs.declared.expression.SetOperator.TheVariants.{Union, Inter, Minus}
use Rattle.attr_rules.specs.Expression.{Expression, Arguments, Call, Quantified, QuantifiedSet, Each, EachOfSet, Sets, Contains, And, Or, OrBoth, If}
use Rattle.attr_rules.specs.Rising.{has_call, have_call}

-- Each call of a circular attribute stands in permitted positions alone, from the call outwards to the whole expression: both sides of `&&` and
-- `||`; the parts of `? :`, where the else part of a condition with such a call was written as the literal `false` or `empty`, and so has no
-- place; the bodies of `any`, `all` and `each`; the ranges of `any` and `each`; both arguments of `union` and `inter`; the first arguments of
-- `minus` and `contains`.
pub data IsPermitted (circular : ℕ → Bool) : Expression → Type 0 where
  without : {e : Expression} → has_call circular e ≡ false → IsPermitted circular e
  call : {e : Expression} {es : Arguments} (a : ℕ) (at : Place) → has_call circular e ≡ false → have_call circular es ≡ false → IsPermitted circular (Call a at e es)
  and : {a b : Expression} → IsPermitted circular a → IsPermitted circular b → IsPermitted circular (And a b)
  or : {a b : Expression} → IsPermitted circular a → IsPermitted circular b → IsPermitted circular (Or a b)
  or_both : {a b : Expression} → IsPermitted circular a → IsPermitted circular b → IsPermitted circular (OrBoth a b)
  choice : {c a b : Expression} (at : Option Place) → IsPermitted circular c → IsPermitted circular a → IsPermitted circular b → (has_call circular c ≡ true → at ≡ None) → IsPermitted circular (If c a at b)
  any : {e b : Expression} (k : ℕ) → has_call circular e ≡ false → IsPermitted circular b → IsPermitted circular (Quantified Any k e b)
  all : {e b : Expression} (k : ℕ) → has_call circular e ≡ false → IsPermitted circular b → IsPermitted circular (Quantified All k e b)
  any_of_set : {e b : Expression} → IsPermitted circular e → IsPermitted circular b → IsPermitted circular (QuantifiedSet Any e b)
  all_of_set : {e b : Expression} → has_call circular e ≡ false → IsPermitted circular b → IsPermitted circular (QuantifiedSet All e b)
  each : {e b : Expression} (t : Kind) (k : ℕ) → has_call circular e ≡ false → IsPermitted circular b → IsPermitted circular (Each t k e b)
  each_of_set : {e b : Expression} (t : Kind) → IsPermitted circular e → IsPermitted circular b → IsPermitted circular (EachOfSet t e b)
  union : {a b : Expression} (t : Kind) → IsPermitted circular a → IsPermitted circular b → IsPermitted circular (Sets Union t a b)
  inter : {a b : Expression} (t : Kind) → IsPermitted circular a → IsPermitted circular b → IsPermitted circular (Sets Inter t a b)
  minus : {a b : Expression} (t : Kind) → IsPermitted circular a → has_call circular b ≡ false → IsPermitted circular (Sets Minus t a b)
  contains : {a b : Expression} → IsPermitted circular a → has_call circular b ≡ false → IsPermitted circular (Contains a b)
