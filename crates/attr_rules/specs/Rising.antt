-- Rising expressions: those in which calls of circular attributes stand in permitted positions alone. Where the values of circular attributes
-- grow, so does the value of such an expression, and it demands no less.
use Rattle.std.specs.Prelude.{◌≡◌, ℕ, Bool, true, false, not, ◌&&◌, ◌||◌, Option}
use Rattle.rag_io.specs.declared.Place.{Place}
use Rattle.attr_rules.specs.declared.kinds.Kind.{Kind}
use Rattle.attr_rules.specs.declared.expression.Quantifier.{Quantifier}
use Rattle.attr_rules.specs.declared.expression.Quantifier.TheVariants.{Any, All, First}
use Rattle.attr_rules.specs.declared.expression.SetOperator.{SetOperator}
use Rattle.attr_rules.specs.declared.expression.SetOperator.TheVariants.{Union, Inter, Minus}
use Rattle.attr_rules.specs.Expression.{Expression, Arguments, no_more, argument, NewArguments, new_end, new_token, new_child, Truth, Int, Text, Null, Empty, This, Variable, Source, Child, Element, Count, Has, Token, Call, Cast, InstanceOf, Quantified, QuantifiedSet, Each, EachOfSet, Sets, Single, Contains, Size, Not, Negate, Binary, And, Or, OrBoth, If, New}

abbrev mutual
  -- an expression calls a circular attribute, at any depth
  pub has_call : (ℕ → Bool) → Expression → Bool
  has_call circular (Truth b) = false
  has_call circular (Int z) = false
  has_call circular (Text n) = false
  has_call circular Null = false
  has_call circular Empty = false
  has_call circular This = false
  has_call circular (Variable k) = false
  has_call circular (Source k) = false
  has_call circular (Child k e) = has_call circular e
  has_call circular (Element k e i) = has_call circular e || has_call circular i
  has_call circular (Count k e) = has_call circular e
  has_call circular (Has k e) = has_call circular e
  has_call circular (Token t k e) = has_call circular e
  has_call circular (Call a at e es) = circular a || (has_call circular e || have_call circular es)
  has_call circular (Cast c e) = has_call circular e
  has_call circular (InstanceOf c e) = has_call circular e
  has_call circular (Quantified q k e b) = has_call circular e || has_call circular b
  has_call circular (QuantifiedSet q e b) = has_call circular e || has_call circular b
  has_call circular (Each t k e b) = has_call circular e || has_call circular b
  has_call circular (EachOfSet t e b) = has_call circular e || has_call circular b
  has_call circular (Sets o t a b) = has_call circular a || has_call circular b
  has_call circular (Single e) = has_call circular e
  has_call circular (Contains a b) = has_call circular a || has_call circular b
  has_call circular (Size e) = has_call circular e
  has_call circular (Not e) = has_call circular e
  has_call circular (Negate e) = has_call circular e
  has_call circular (Binary o a b) = has_call circular a || has_call circular b
  has_call circular (And a b) = has_call circular a || has_call circular b
  has_call circular (Or a b) = has_call circular a || has_call circular b
  has_call circular (OrBoth a b) = has_call circular a || has_call circular b
  has_call circular (If c a at b) = has_call circular c || (has_call circular a || has_call circular b)
  has_call circular (New c parts) = tokens_call circular parts

  -- one of some arguments does
  pub have_call : (ℕ → Bool) → Arguments → Bool
  have_call circular no_more = false
  have_call circular (argument e es) = has_call circular e || have_call circular es

  -- one of the tokens of a `new` does
  pub tokens_call : (ℕ → Bool) → NewArguments → Bool
  tokens_call circular new_end = false
  tokens_call circular (new_token k e rest) = has_call circular e || tokens_call circular rest
  tokens_call circular (new_child c parts rest) = tokens_call circular parts || tokens_call circular rest

-- the literal `false` or `empty`
abbrev pub is_bottom : Expression → Bool
is_bottom (Truth b) = not b
is_bottom (Int z) = false
is_bottom (Text n) = false
is_bottom Null = false
is_bottom Empty = true
is_bottom This = false
is_bottom (Variable k) = false
is_bottom (Source k) = false
is_bottom (Child k e) = false
is_bottom (Element k e i) = false
is_bottom (Count k e) = false
is_bottom (Has k e) = false
is_bottom (Token t k e) = false
is_bottom (Call a at e es) = false
is_bottom (Cast c e) = false
is_bottom (InstanceOf c e) = false
is_bottom (Quantified q k e b) = false
is_bottom (QuantifiedSet q e b) = false
is_bottom (Each t k e b) = false
is_bottom (EachOfSet t e b) = false
is_bottom (Sets o t a b) = false
is_bottom (Single e) = false
is_bottom (Contains a b) = false
is_bottom (Size e) = false
is_bottom (Not e) = false
is_bottom (Negate e) = false
is_bottom (Binary o a b) = false
is_bottom (And a b) = false
is_bottom (Or a b) = false
is_bottom (OrBoth a b) = false
is_bottom (If c a at b) = false
is_bottom (New c parts) = false

-- Each call of a circular attribute stands in permitted positions alone, from the call outwards to the whole expression: both sides of `&&`; the
-- right side of `||`, and the left one where both are always evaluated; the parts of `? :`, where the else part of a condition with such a call
-- is the literal `false` or `empty`; the bodies of `any`, `all` and `each`; the ranges of `any` and `each`; both arguments of `union` and `inter`;
-- the first arguments of `minus` and `contains`.
pub data IsRising (circular : ℕ → Bool) : Expression → Type 0 where
  without : {e : Expression} → has_call circular e ≡ false → IsRising circular e
  call : {e : Expression} {es : Arguments} (a : ℕ) (at : Place) → has_call circular e ≡ false → have_call circular es ≡ false → IsRising circular (Call a at e es)
  and : {a b : Expression} → IsRising circular a → IsRising circular b → IsRising circular (And a b)
  or : {a b : Expression} → has_call circular a ≡ false → IsRising circular b → IsRising circular (Or a b)
  or_both : {a b : Expression} → IsRising circular a → IsRising circular b → IsRising circular (OrBoth a b)
  choice : {c a b : Expression} (at : Option Place) → IsRising circular c → IsRising circular a → IsRising circular b → (has_call circular c ≡ true → is_bottom b ≡ true) → IsRising circular (If c a at b)
  any : {e b : Expression} (k : ℕ) → has_call circular e ≡ false → IsRising circular b → IsRising circular (Quantified Any k e b)
  all : {e b : Expression} (k : ℕ) → has_call circular e ≡ false → IsRising circular b → IsRising circular (Quantified All k e b)
  any_of_set : {e b : Expression} → IsRising circular e → IsRising circular b → IsRising circular (QuantifiedSet Any e b)
  all_of_set : {e b : Expression} → has_call circular e ≡ false → IsRising circular b → IsRising circular (QuantifiedSet All e b)
  each : {e b : Expression} (t : Kind) (k : ℕ) → has_call circular e ≡ false → IsRising circular b → IsRising circular (Each t k e b)
  each_of_set : {e b : Expression} (t : Kind) → IsRising circular e → IsRising circular b → IsRising circular (EachOfSet t e b)
  union : {a b : Expression} (t : Kind) → IsRising circular a → IsRising circular b → IsRising circular (Sets Union t a b)
  inter : {a b : Expression} (t : Kind) → IsRising circular a → IsRising circular b → IsRising circular (Sets Inter t a b)
  minus : {a b : Expression} (t : Kind) → IsRising circular a → has_call circular b ≡ false → IsRising circular (Sets Minus t a b)
  contains : {a b : Expression} → IsRising circular a → has_call circular b ≡ false → IsRising circular (Contains a b)

-- whether the body of a form, its range, or the second of two sets may be as it is: in a permitted position it rises, and elsewhere it has no
-- call
abbrev pub body_rises : Quantifier → Bool → Bool → Bool
body_rises Any calls rises = rises
body_rises All calls rises = rises
body_rises First calls rises = not calls

abbrev pub range_rises : Quantifier → Bool → Bool → Bool
range_rises Any calls rises = rises
range_rises All calls rises = not calls
range_rises First calls rises = not calls

abbrev pub second_rises : SetOperator → Bool → Bool → Bool
second_rises Union calls rises = rises
second_rises Inter calls rises = rises
second_rises Minus calls rises = not calls

-- The test of this: whether each call of a circular attribute stands in permitted positions alone.
abbrev pub rises : (ℕ → Bool) → Expression → Bool
rises circular (Truth b) = true
rises circular (Int z) = true
rises circular (Text n) = true
rises circular Null = true
rises circular Empty = true
rises circular This = true
rises circular (Variable k) = true
rises circular (Source k) = true
rises circular (Child k e) = not (has_call circular e)
rises circular (Element k e i) = not (has_call circular e || has_call circular i)
rises circular (Count k e) = not (has_call circular e)
rises circular (Has k e) = not (has_call circular e)
rises circular (Token t k e) = not (has_call circular e)
rises circular (Call a at e es) = not (has_call circular e || have_call circular es)
rises circular (Cast c e) = not (has_call circular e)
rises circular (InstanceOf c e) = not (has_call circular e)
rises circular (Quantified q k e b) = not (has_call circular e) && body_rises q (has_call circular b) (rises circular b)
rises circular (QuantifiedSet q e b) = range_rises q (has_call circular e) (rises circular e) && body_rises q (has_call circular b) (rises circular b)
rises circular (Each t k e b) = not (has_call circular e) && rises circular b
rises circular (EachOfSet t e b) = rises circular e && rises circular b
rises circular (Sets o t a b) = rises circular a && second_rises o (has_call circular b) (rises circular b)
rises circular (Single e) = not (has_call circular e)
rises circular (Contains a b) = rises circular a && not (has_call circular b)
rises circular (Size e) = not (has_call circular e)
rises circular (Not e) = not (has_call circular e)
rises circular (Negate e) = not (has_call circular e)
rises circular (Binary o a b) = not (has_call circular a || has_call circular b)
rises circular (And a b) = rises circular a && rises circular b
rises circular (Or a b) = not (has_call circular a) && rises circular b
rises circular (OrBoth a b) = rises circular a && rises circular b
rises circular (If c a at b) = rises circular c && (rises circular a && (rises circular b && (not (has_call circular c) || is_bottom b)))
rises circular (New c parts) = not (tokens_call circular parts)
