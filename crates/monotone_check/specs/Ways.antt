-- The way from a call outwards to the whole expression, and the position on it that decides which rule the call breaks.
use Rattle.std.specs.Prelude.{◌≡◌, ℕ, List, [], ◌∷◌, Bool, true, false, Option, Some, None}
use Rattle.std.specs.List.{Contains as Includes}
use Rattle.rag_io.specs.declared.Place.{Place}
use Rattle.broken_rules.specs.declared.broken.Broken.{Broken}
use Rattle.broken_rules.specs.declared.rule.Rule.{Rule}
use Rattle.broken_rules.specs.declared.rule.Rule.TheVariants.{M1, M2, M3, M4, M5}
use Rattle.broken_rules.specs.Notes.{at}
use Rattle.broken_rules.specs.Order.{is_before}
use Rattle.attr_rules.specs.declared.kinds.Kind.{Kind}
use Rattle.attr_rules.specs.declared.expression.Operator.{Operator}
use Rattle.attr_rules.specs.declared.expression.Quantifier.{Quantifier}
use Rattle.attr_rules.specs.declared.expression.Quantifier.TheVariants.{Any, All, First}
use Rattle.attr_rules.specs.declared.expression.SetOperator.{SetOperator}
use Rattle.attr_rules.specs.declared.expression.SetOperator.TheVariants.{Union, Inter, Minus}
use Rattle.attr_rules.specs.Expression.{Expression, Arguments, NewArguments, Child, Element, Count, Has, Token, Call, Cast, InstanceOf, Quantified, QuantifiedSet, Each, EachOfSet, Sets, Single, Contains, Size, Not, Negate, Binary, And, Or, OrBoth, If, New}
use Rattle.attr_rules.specs.Rules.{Equation, RuleSet}
use Rattle.monotone_check.specs.Equations.{is_circular}
use Rattle.monotone_check.specs.Parts.{CallsCircular, listed, tokens_in}

-- a position in which a part of a form stands
pub data Position : Type 0 where
  -- the receiver, or an argument, of an attribute or an accessor
  receiver : Position
  argument_of_call : Position
  -- a side of `&&` or of `||`
  side : Position
  -- one of the three parts of `? :`
  part_of_choice : Position
  -- the range of `any`, `all` or `first`, and the body
  range_of : Quantifier → Position
  body_of : Quantifier → Position
  -- those of `each`
  range_of_each : Position
  body_of_each : Position
  -- the first argument of `union`, `inter`, `minus` or `contains`
  first_set : Position
  -- the second argument of `union`, `inter` or `minus`
  second_set : SetOperator → Position
  -- any other
  other : Position

-- the rule of a position that isn't permitted; none where it is
abbrev pub refused_at : Position → Option Rule
refused_at receiver = Some M2
refused_at argument_of_call = Some M2
refused_at side = None
refused_at part_of_choice = None
refused_at (range_of Any) = None
refused_at (range_of All) = Some M4
refused_at (range_of First) = Some M4
refused_at (body_of Any) = None
refused_at (body_of All) = None
refused_at (body_of First) = Some M4
refused_at range_of_each = None
refused_at body_of_each = None
refused_at first_set = None
refused_at (second_set Union) = None
refused_at (second_set Inter) = None
refused_at (second_set Minus) = Some M5
refused_at other = Some M1

-- In which position which part of which form stands. The range of a form over a list is that of an accessor: its receiver is the part.
pub data Stands : Position → Expression → Expression → Type 0 where
  of_child : {e : Expression} (k : ℕ) → Stands receiver e (Child k e)
  of_element : {e i : Expression} (k : ℕ) → Stands receiver e (Element k e i)
  index_of_element : {e i : Expression} (k : ℕ) → Stands argument_of_call i (Element k e i)
  of_count : {e : Expression} (k : ℕ) → Stands receiver e (Count k e)
  of_optional : {e : Expression} (k : ℕ) → Stands receiver e (Has k e)
  of_token : {e : Expression} (t : Kind) (k : ℕ) → Stands receiver e (Token t k e)
  of_call : {e : Expression} {es : Arguments} (a : ℕ) (place : Place) → Stands receiver e (Call a place e es)
  passed : {e part : Expression} {es : Arguments} (a : ℕ) (place : Place) → Includes (listed es) part → Stands argument_of_call part (Call a place e es)
  cast : {e : Expression} (c : _) → Stands other e (Cast c e)
  tested : {e : Expression} (c : _) → Stands other e (InstanceOf c e)
  of_list : {e b : Expression} (q : Quantifier) (k : ℕ) → Stands receiver e (Quantified q k e b)
  body_over_list : {e b : Expression} (q : Quantifier) (k : ℕ) → Stands (body_of q) b (Quantified q k e b)
  over_set : {e b : Expression} (q : Quantifier) → Stands (range_of q) e (QuantifiedSet q e b)
  body_over_set : {e b : Expression} (q : Quantifier) → Stands (body_of q) b (QuantifiedSet q e b)
  of_list_of_each : {e b : Expression} (t : Kind) (k : ℕ) → Stands receiver e (Each t k e b)
  each_over_list : {e b : Expression} (t : Kind) (k : ℕ) → Stands body_of_each b (Each t k e b)
  over_set_of_each : {e b : Expression} (t : Kind) → Stands range_of_each e (EachOfSet t e b)
  each_over_set : {e b : Expression} (t : Kind) → Stands body_of_each b (EachOfSet t e b)
  first_of_sets : {a b : Expression} (o : SetOperator) (t : Kind) → Stands first_set a (Sets o t a b)
  second_of_sets : {a b : Expression} (o : SetOperator) (t : Kind) → Stands (second_set o) b (Sets o t a b)
  of_single : {e : Expression} → Stands other e (Single e)
  searched : {a b : Expression} → Stands first_set a (Contains a b)
  sought : {a b : Expression} → Stands other b (Contains a b)
  of_size : {e : Expression} → Stands other e (Size e)
  denied : {e : Expression} → Stands other e (Not e)
  negated : {e : Expression} → Stands other e (Negate e)
  left_operand : {a b : Expression} (o : Operator) → Stands other a (Binary o a b)
  right_operand : {a b : Expression} (o : Operator) → Stands other b (Binary o a b)
  left_of_and : {a b : Expression} → Stands side a (And a b)
  right_of_and : {a b : Expression} → Stands side b (And a b)
  left_of_or : {a b : Expression} → Stands side a (Or a b)
  right_of_or : {a b : Expression} → Stands side b (Or a b)
  left_of_both : {a b : Expression} → Stands side a (OrBoth a b)
  right_of_both : {a b : Expression} → Stands side b (OrBoth a b)
  condition : {c a b : Expression} (place : Option Place) → Stands part_of_choice c (If c a place b)
  then_part : {c a b : Expression} (place : Option Place) → Stands part_of_choice a (If c a place b)
  else_part : {c a b : Expression} (place : Option Place) → Stands part_of_choice b (If c a place b)
  token_of_new : {part : Expression} {parts : NewArguments} (c : _) → Includes (tokens_in parts) part → Stands other part (New c parts)

-- the way from a part outwards to the whole expression, with its positions, the innermost first
pub data Way : Expression → List Position → Expression → Type 0 where
  arrived : {e : Expression} → Way e [] e
  outwards : {p : Position} {ps : List Position} {part form whole : Expression} → Stands p part form → Way form ps whole → Way part (p ∷ ps) whole

-- the position that decides, and its rule: the innermost one that isn't permitted
pub data Decides (p : Position) (m : Rule) : List Position → Type 0 where
  innermost : {ps : List Position} → refused_at p ≡ Some m → Decides p m (p ∷ ps)
  around : {q : Position} {ps : List Position} → refused_at q ≡ None → Decides p m ps → Decides p m (q ∷ ps)

-- What an expression breaks: each call of a circular attribute the rule of the position on its way that decides, at the attribute's name; and each
-- choice whose condition calls a circular attribute M3, at its else part, unless that is the literal `false` or `empty`, which has no place.
pub data Breaks (circular : ℕ → Bool) (whole : Expression) : Broken → Type 0 where
  call : {p : Position} {m : Rule} {ps : List Position} {e : Expression} {es : Arguments} (a : ℕ) (place : Place) → circular a ≡ true → Way (Call a place e es) ps whole → Decides p m ps → Breaks circular whole (at place m)
  choice : {ps : List Position} {c a b : Expression} (place : Place) → CallsCircular circular c → Way (If c a (Some place) b) ps whole → Breaks circular whole (at place M3)

-- what the equations break: what the right side of one for a circular attribute does
pub record EquationsBreak (rules : RuleSet) (b : Broken) : Type 0 where
  pub equation : Equation
  pub one : Includes rules.equations equation
  pub circular : is_circular rules equation.target.attribute.0 ≡ true
  pub breaks : Breaks (is_circular rules) equation.body b

-- the first, by place and then by number, of those that are broken
pub record Foremost (IsBroken : Broken → Type 0) (b : Broken) : Type 0 where
  pub broken : IsBroken b
  pub least : (c : Broken) → IsBroken c → is_before c b ≡ false
