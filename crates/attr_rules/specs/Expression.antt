-- Typed expressions without where they lie in memory.
use Rattle.std.specs.Prelude.{ℕ, ℤ, Bool, Option}
use Rattle.rag_io.specs.declared.Place.{Place}
use Rattle.ast_grammar.specs.declared.grammar.ClassId.{ClassId}
use Rattle.attr_rules.specs.declared.kinds.Kind.{Kind}
use Rattle.attr_rules.specs.declared.expression.Operator.{Operator}
use Rattle.attr_rules.specs.declared.expression.Quantifier.{Quantifier}
use Rattle.attr_rules.specs.declared.expression.SetOperator.{SetOperator}
use Rattle.attr_rules.specs.declared.expression.TExpr.{TExpr}
use Rattle.attr_rules.specs.declared.expression.TExpr.TheVariants as kept
use Rattle.attr_rules.specs.declared.expression.TArgs.{TArgs}
use Rattle.attr_rules.specs.declared.expression.NewArgs.{NewArgs}
use Rattle.attr_rules.specs.declared.expression.NewArgs.TheVariants as kept_new
use Rattle.attr_rules.specs.declared.expression.TArgs.TheVariants as kept_arguments

mutual
  pub data Expression : Type 0 where
    Truth : Bool → Expression
    Int : ℤ → Expression
    -- the text of this number
    Text : ℕ → Expression
    Null : Expression
    -- the set without elements
    Empty : Expression
    -- the node at which the equation is read
    This : Expression
    -- the value of a name, by its number: bound names come first, the innermost as 0
    Variable : ℕ → Expression
    -- the source node of this number
    Source : ℕ → Expression
    -- the child, or the optional child, of a receiver at the component of this number
    Child : ℕ → Expression → Expression
    -- the element of a receiver's list at the component of this number, by its place in the list
    Element : ℕ → Expression → Expression → Expression
    -- how many elements that list has
    Count : ℕ → Expression → Expression
    -- whether a receiver has the optional child at the component of this number
    Has : ℕ → Expression → Expression
    -- the token of a receiver, of this type, at the component of this number
    Token : Kind → ℕ → Expression → Expression
    -- the call of the attribute of this number, with the place of its name, on a receiver, with arguments
    Call : ℕ → Place → Expression → Arguments → Expression
    -- the node where it is of the class or below, and null else
    Cast : ClassId → Expression → Expression
    -- whether there is a node of the class or below
    InstanceOf : ClassId → Expression → Expression
    -- a condition at the elements of a receiver's list at the component of this number; name 0 in it is the element
    Quantified : Quantifier → ℕ → Expression → Expression → Expression
    -- a condition at the elements of a set; name 0 in it is the element
    QuantifiedSet : Quantifier → Expression → Expression → Expression
    -- the union, of this type, of the sets that a body says at the elements of a list or of a set; name 0 in it is the element
    Each : Kind → ℕ → Expression → Expression → Expression
    EachOfSet : Kind → Expression → Expression → Expression
    -- what is made of two sets, of this type
    Sets : SetOperator → Kind → Expression → Expression → Expression
    -- the set of one element
    Single : Expression → Expression
    -- whether a set has an element
    Contains : Expression → Expression → Expression
    -- how many elements a set has
    Size : Expression → Expression
    Not : Expression → Expression
    Negate : Expression → Expression
    Binary : Operator → Expression → Expression → Expression
    And : Expression → Expression → Expression
    Or : Expression → Expression → Expression
    -- `||` whose two sides are always evaluated
    OrBoth : Expression → Expression → Expression
    -- a condition and two parts, with the place of the second one unless that is the literal `false` or `empty`
    If : Expression → Expression → Option Place → Expression → Expression
    -- the root, of this class, of a tree that a higher-order attribute makes
    New : ClassId → NewArguments → Expression

  -- the arguments of a `new` in the order of the components of its class: tokens, each with the type at which it is read, and children, each of
  -- a class with arguments of its own
  pub data NewArguments : Type 0 where
    new_end : NewArguments
    new_token : Kind → Expression → NewArguments → NewArguments
    new_child : ClassId → NewArguments → NewArguments → NewArguments

  -- the arguments of a call, from the left
  pub data Arguments : Type 0 where
    no_more : Arguments
    argument : Expression → Arguments → Arguments

abbrev mutual
  pub expression_of : TExpr → Expression
  expression_of (kept.Truth b) = Truth b
  expression_of (kept.Int z) = Int z
  expression_of (kept.Text n) = Text n.0
  expression_of kept.Null = Null
  expression_of kept.Empty = Empty
  expression_of kept.This = This
  expression_of (kept.Variable k) = Variable k
  expression_of (kept.Source k) = Source k
  expression_of (kept.Child' k p e) = Child k.0 (expression_of e)
  expression_of (kept.Element' k p e q i) = Element k.0 (expression_of e) (expression_of i)
  expression_of (kept.Count' k p e) = Count k.0 (expression_of e)
  expression_of (kept.Has' k p e) = Has k.0 (expression_of e)
  expression_of (kept.Token' t k p e) = Token t k.0 (expression_of e)
  expression_of (kept.Call' a at p e xs) = Call a.0 at (expression_of e) (arguments_of xs)
  expression_of (kept.Cast' c p e) = Cast c (expression_of e)
  expression_of (kept.InstanceOf' c p e) = InstanceOf c (expression_of e)
  expression_of (kept.Quantified' q k p e r b) = Quantified q k.0 (expression_of e) (expression_of b)
  expression_of (kept.QuantifiedSet' q p e r b) = QuantifiedSet q (expression_of e) (expression_of b)
  expression_of (kept.Each' t k p e r b) = Each t k.0 (expression_of e) (expression_of b)
  expression_of (kept.EachOfSet' t p e r b) = EachOfSet t (expression_of e) (expression_of b)
  expression_of (kept.Sets' o t p a q b) = Sets o t (expression_of a) (expression_of b)
  expression_of (kept.Single' p e) = Single (expression_of e)
  expression_of (kept.Contains' p a q b) = Contains (expression_of a) (expression_of b)
  expression_of (kept.Size' p e) = Size (expression_of e)
  expression_of (kept.Not' p e) = Not (expression_of e)
  expression_of (kept.Negate' p e) = Negate (expression_of e)
  expression_of (kept.Binary' o p a q b) = Binary o (expression_of a) (expression_of b)
  expression_of (kept.And' p a q b) = And (expression_of a) (expression_of b)
  expression_of (kept.Or' p a q b) = Or (expression_of a) (expression_of b)
  expression_of (kept.OrBoth' p a q b) = OrBoth (expression_of a) (expression_of b)
  expression_of (kept.If' p c q a at r b) = If (expression_of c) (expression_of a) at (expression_of b)
  expression_of (kept.New c parts) = New c (new_arguments_of parts)

  pub new_arguments_of : NewArgs → NewArguments
  new_arguments_of kept_new.End = new_end
  new_arguments_of (kept_new.Token' k p e q rest) = new_token k (expression_of e) (new_arguments_of rest)
  new_arguments_of (kept_new.Child' c p parts q rest) = new_child c (new_arguments_of parts) (new_arguments_of rest)

  pub arguments_of : TArgs → Arguments
  arguments_of kept_arguments.End = no_more
  arguments_of (kept_arguments.More' p e q xs) = argument (expression_of e) (arguments_of xs)
