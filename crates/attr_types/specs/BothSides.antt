-- What `||` says in the equations of circular attributes.
use Rattle.std.specs.Prelude.{ℕ, List, Bool, true, false, if◌then◌else◌}
use Rattle.attr_rules.specs.declared.expression.TExpr.{TExpr}
use Rattle.attr_rules.specs.Expression.{Expression, Arguments, no_more, argument, Truth, Int, Text, Null, Empty, This, Variable, Source, Child, Element, Count, Has, Token, Call, Cast, InstanceOf, Quantified, QuantifiedSet, Each, EachOfSet, Sets, Single, Contains, Size, Not, Negate, Binary, And, Or, OrBoth, If, New, NewArguments, new_end, new_token, new_child, expression_of}
use Rattle.attr_rules.specs.Rising.{has_call}
use Rattle.attr_rules.specs.Rules.{Attribute, AttributeSet, circular_at}

-- `||`, both of whose sides are always evaluated, or the right one only where the left one is false
abbrev pub either : Bool → Expression → Expression → Expression
either true a b = OrBoth a b
either false a b = Or a b

abbrev mutual
  -- An expression in the equation of a circular attribute: each `||` whose left side calls a circular attribute evaluates both sides.
  pub with_both : (ℕ → Bool) → Expression → Expression
  with_both circular (Truth b) = Truth b
  with_both circular (Int z) = Int z
  with_both circular (Text n) = Text n
  with_both circular Null = Null
  with_both circular Empty = Empty
  with_both circular This = This
  with_both circular (Variable k) = Variable k
  with_both circular (Source k) = Source k
  with_both circular (Child k e) = Child k (with_both circular e)
  with_both circular (Element k e i) = Element k (with_both circular e) (with_both circular i)
  with_both circular (Count k e) = Count k (with_both circular e)
  with_both circular (Has k e) = Has k (with_both circular e)
  with_both circular (Token t k e) = Token t k (with_both circular e)
  with_both circular (Call a at e es) = Call a at (with_both circular e) (all_with_both circular es)
  with_both circular (Cast c e) = Cast c (with_both circular e)
  with_both circular (InstanceOf c e) = InstanceOf c (with_both circular e)
  with_both circular (Quantified q k e b) = Quantified q k (with_both circular e) (with_both circular b)
  with_both circular (QuantifiedSet q e b) = QuantifiedSet q (with_both circular e) (with_both circular b)
  with_both circular (Each t k e b) = Each t k (with_both circular e) (with_both circular b)
  with_both circular (EachOfSet t e b) = EachOfSet t (with_both circular e) (with_both circular b)
  with_both circular (Sets o t a b) = Sets o t (with_both circular a) (with_both circular b)
  with_both circular (Single e) = Single (with_both circular e)
  with_both circular (Contains a b) = Contains (with_both circular a) (with_both circular b)
  with_both circular (Size e) = Size (with_both circular e)
  with_both circular (Not e) = Not (with_both circular e)
  with_both circular (Negate e) = Negate (with_both circular e)
  with_both circular (Binary o a b) = Binary o (with_both circular a) (with_both circular b)
  with_both circular (And a b) = And (with_both circular a) (with_both circular b)
  with_both circular (Or a b) = either (has_call circular a) (with_both circular a) (with_both circular b)
  with_both circular (OrBoth a b) = OrBoth (with_both circular a) (with_both circular b)
  with_both circular (If c a at b) = If (with_both circular c) (with_both circular a) at (with_both circular b)
  with_both circular (New c parts) = New c (new_with_both circular parts)

  pub all_with_both : (ℕ → Bool) → Arguments → Arguments
  all_with_both circular no_more = no_more
  all_with_both circular (argument e es) = argument (with_both circular e) (all_with_both circular es)

  pub new_with_both : (ℕ → Bool) → NewArguments → NewArguments
  new_with_both circular new_end = new_end
  new_with_both circular (new_token k e rest) = new_token k (with_both circular e) (new_with_both circular rest)
  new_with_both circular (new_child c parts rest) = new_child c (new_with_both circular parts) (new_with_both circular rest)

-- an expression in the equation of an attribute that is circular or not
abbrev pub said_where : Bool → (ℕ → Bool) → Expression → Expression
said_where b circular e = if b then with_both circular e else e

-- the right side of an equation of the attribute of this number, where an expression is written
abbrev pub right_side : List Attribute → ℕ → Expression → Expression
right_side attributes a e = said_where (circular_at attributes a) (circular_at attributes) e

-- an expression calls a circular attribute
abbrev pub has_circular : AttributeSet → TExpr → Bool
has_circular a e = has_call (circular_at a.attributes) (expression_of e)
