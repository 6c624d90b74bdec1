-- Expressions that say what an equation says, in which the calls of some attributes count: `||` says whether both sides are always evaluated, and a
-- choice where its else part stands.
use Rattle.std.specs.Prelude.{◌≡◌, ℕ, Bool, true, not, ◌&&◌, Option, Some, None}
use Rattle.rag_io.specs.declared.Place.{Place}
use Rattle.attr_rules.specs.Expression.{Expression, Arguments, no_more, argument, NewArguments, new_end, new_token, new_child, Truth, Int, Text, Null, Empty, This, Variable, Source, Child, Element, Count, Has, Token, Call, Cast, InstanceOf, Quantified, QuantifiedSet, Each, EachOfSet, Sets, Single, Contains, Size, Not, Negate, Binary, And, Or, OrBoth, If, New}
use Rattle.attr_rules.specs.Rising.{has_call, is_bottom}

-- an else part has a place, unless it is the literal `false` or `empty`
abbrev pub is_placed : Option Place → Expression → Bool
is_placed None b = is_bottom b
is_placed (Some p) b = true

abbrev mutual
  -- Both sides of a `||` are always evaluated exactly where its left side has a call that counts, and each else part without a place is the literal
  -- `false` or `empty`.
  pub is_well_made : (ℕ → Bool) → Expression → Bool
  is_well_made circular (Truth b) = true
  is_well_made circular (Int z) = true
  is_well_made circular (Text n) = true
  is_well_made circular Null = true
  is_well_made circular Empty = true
  is_well_made circular This = true
  is_well_made circular (Variable k) = true
  is_well_made circular (Source k) = true
  is_well_made circular (Child k e) = is_well_made circular e
  is_well_made circular (Element k e i) = is_well_made circular e && is_well_made circular i
  is_well_made circular (Count k e) = is_well_made circular e
  is_well_made circular (Has k e) = is_well_made circular e
  is_well_made circular (Token t k e) = is_well_made circular e
  is_well_made circular (Call a at e es) = is_well_made circular e && are_well_made circular es
  is_well_made circular (Cast c e) = is_well_made circular e
  is_well_made circular (InstanceOf c e) = is_well_made circular e
  is_well_made circular (Quantified q k e b) = is_well_made circular e && is_well_made circular b
  is_well_made circular (QuantifiedSet q e b) = is_well_made circular e && is_well_made circular b
  is_well_made circular (Each t k e b) = is_well_made circular e && is_well_made circular b
  is_well_made circular (EachOfSet t e b) = is_well_made circular e && is_well_made circular b
  is_well_made circular (Sets o t a b) = is_well_made circular a && is_well_made circular b
  is_well_made circular (Single e) = is_well_made circular e
  is_well_made circular (Contains a b) = is_well_made circular a && is_well_made circular b
  is_well_made circular (Size e) = is_well_made circular e
  is_well_made circular (Not e) = is_well_made circular e
  is_well_made circular (Negate e) = is_well_made circular e
  is_well_made circular (Binary o a b) = is_well_made circular a && is_well_made circular b
  is_well_made circular (And a b) = is_well_made circular a && is_well_made circular b
  is_well_made circular (Or a b) = not (has_call circular a) && (is_well_made circular a && is_well_made circular b)
  is_well_made circular (OrBoth a b) = has_call circular a && (is_well_made circular a && is_well_made circular b)
  is_well_made circular (If c a at b) = is_placed at b && (is_well_made circular c && (is_well_made circular a && is_well_made circular b))
  is_well_made circular (New c parts) = is_new_well_made circular parts

  -- all of some arguments are
  pub are_well_made : (ℕ → Bool) → Arguments → Bool
  are_well_made circular no_more = true
  are_well_made circular (argument e es) = is_well_made circular e && are_well_made circular es

  -- and so are all tokens of a `new`
  pub is_new_well_made : (ℕ → Bool) → NewArguments → Bool
  is_new_well_made circular new_end = true
  is_new_well_made circular (new_token k e rest) = is_well_made circular e && is_new_well_made circular rest
  is_new_well_made circular (new_child c parts rest) = is_new_well_made circular parts && is_new_well_made circular rest

abbrev pub IsWellMade : (ℕ → Bool) → Expression → Type 0
IsWellMade circular e = is_well_made circular e ≡ true
