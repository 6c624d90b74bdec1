-- Calls of circular attributes in positions that aren't permitted, and which rule each of them breaks.
use Rattle.std.specs.Prelude.{ℕ, List, [], ◌∷◌, ◌++◌, Bool, true, false, Option, Some, None}
use Rattle.rag_io.specs.declared.Place.{Place}
use Rattle.broken_rules.specs.declared.broken.Broken.{Broken}
use Rattle.broken_rules.specs.declared.rule.Rule.{Rule}
use Rattle.broken_rules.specs.declared.rule.Rule.TheVariants.{M1, M2, M3, M4, M5}
use Rattle.broken_rules.specs.Notes.{at}
use Rattle.attr_rules.specs.declared.expression.Quantifier.{Quantifier}
use Rattle.attr_rules.specs.declared.expression.Quantifier.TheVariants.{Any, All, First}
use Rattle.attr_rules.specs.declared.expression.SetOperator.{SetOperator}
use Rattle.attr_rules.specs.declared.expression.SetOperator.TheVariants.{Union, Inter, Minus}
use Rattle.attr_rules.specs.Expression.{Expression, Arguments, no_more, argument, NewArguments, new_end, new_token, new_child, Truth, Int, Text, Null, Empty, This, Variable, Source, Child, Element, Count, Has, Token, Call, Cast, InstanceOf, Quantified, QuantifiedSet, Each, EachOfSet, Sets, Single, Contains, Size, Not, Negate, Binary, And, Or, OrBoth, If, New}
use Rattle.attr_rules.specs.Rising.{has_call}

-- The rule of the innermost position around a part that isn't permitted; none where all of them are, up to the whole equation.

-- where the body of a form stands
abbrev pub in_body : Quantifier → Option Rule → Option Rule
in_body Any refused = refused
in_body All refused = refused
in_body First refused = Some M4

-- where the set stands that it goes over
abbrev pub in_range : Quantifier → Option Rule → Option Rule
in_range Any refused = refused
in_range All refused = Some M4
in_range First refused = Some M4

-- where the second of two sets stands
abbrev pub in_second : SetOperator → Option Rule → Option Rule
in_second Union refused = refused
in_second Inter refused = refused
in_second Minus refused = Some M5

-- what the call of an attribute breaks, which is circular or not
abbrev pub call_broken : Bool → Option Rule → Place → List Broken
call_broken false refused place = []
call_broken true None place = []
call_broken true (Some rule) place = at place rule ∷ []

-- what a choice breaks of which the condition has the call of a circular attribute or none, and the else part has this place unless it is the
-- literal `false` or `empty`
abbrev pub choice_broken : Bool → Option Place → List Broken
choice_broken false place = []
choice_broken true None = []
choice_broken true (Some place) = at place M3 ∷ []

abbrev mutual
  -- what the calls in an expression break that stands in such a position
  pub broken_in : (ℕ → Bool) → Option Rule → Expression → List Broken
  broken_in circular refused (Truth b) = []
  broken_in circular refused (Int z) = []
  broken_in circular refused (Text n) = []
  broken_in circular refused Null = []
  broken_in circular refused Empty = []
  broken_in circular refused This = []
  broken_in circular refused (Variable k) = []
  broken_in circular refused (Source k) = []
  broken_in circular refused (Child k e) = broken_in circular (Some M2) e
  broken_in circular refused (Element k e i) = broken_in circular (Some M2) e ++ broken_in circular (Some M2) i
  broken_in circular refused (Count k e) = broken_in circular (Some M2) e
  broken_in circular refused (Has k e) = broken_in circular (Some M2) e
  broken_in circular refused (Token t k e) = broken_in circular (Some M2) e
  broken_in circular refused (Call a place e es) = call_broken (circular a) refused place ++ (broken_in circular (Some M2) e ++ broken_arguments circular es)
  broken_in circular refused (Cast c e) = broken_in circular (Some M1) e
  broken_in circular refused (InstanceOf c e) = broken_in circular (Some M1) e
  broken_in circular refused (Quantified q k e b) = broken_in circular (Some M2) e ++ broken_in circular (in_body q refused) b
  broken_in circular refused (QuantifiedSet q e b) = broken_in circular (in_range q refused) e ++ broken_in circular (in_body q refused) b
  broken_in circular refused (Each t k e b) = broken_in circular (Some M2) e ++ broken_in circular refused b
  broken_in circular refused (EachOfSet t e b) = broken_in circular refused e ++ broken_in circular refused b
  broken_in circular refused (Sets o t a b) = broken_in circular refused a ++ broken_in circular (in_second o refused) b
  broken_in circular refused (Single e) = broken_in circular (Some M1) e
  broken_in circular refused (Contains a b) = broken_in circular refused a ++ broken_in circular (Some M1) b
  broken_in circular refused (Size e) = broken_in circular (Some M1) e
  broken_in circular refused (Not e) = broken_in circular (Some M1) e
  broken_in circular refused (Negate e) = broken_in circular (Some M1) e
  broken_in circular refused (Binary o a b) = broken_in circular (Some M1) a ++ broken_in circular (Some M1) b
  broken_in circular refused (And a b) = broken_in circular refused a ++ broken_in circular refused b
  broken_in circular refused (Or a b) = broken_in circular refused a ++ broken_in circular refused b
  broken_in circular refused (OrBoth a b) = broken_in circular refused a ++ broken_in circular refused b
  broken_in circular refused (If c a place b) = broken_in circular refused c ++ (choice_broken (has_call circular c) place ++ (broken_in circular refused a ++ broken_in circular refused b))
  broken_in circular refused (New c parts) = broken_tokens circular parts

  -- what those in the arguments of a call break
  pub broken_arguments : (ℕ → Bool) → Arguments → List Broken
  broken_arguments circular no_more = []
  broken_arguments circular (argument e es) = broken_in circular (Some M2) e ++ broken_arguments circular es

  -- what those in the tokens of a `new` break
  pub broken_tokens : (ℕ → Bool) → NewArguments → List Broken
  broken_tokens circular new_end = []
  broken_tokens circular (new_token k e rest) = broken_in circular (Some M1) e ++ broken_tokens circular rest
  broken_tokens circular (new_child c parts rest) = broken_tokens circular parts ++ broken_tokens circular rest
