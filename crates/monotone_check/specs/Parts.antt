-- Which attributes an expression calls, by its parts.
use Rattle.std.specs.Prelude.{◌≡◌, ℕ, List, [], ◌∷◌, ◌++◌, Bool, true}
use Rattle.std.specs.List.{Contains as Includes}
use Rattle.rag_io.specs.declared.Place.{Place}
use Rattle.attr_rules.specs.Expression.{Expression, Arguments, no_more, argument, NewArguments, new_end, new_token, new_child, Truth, Int, Text, Null, Empty, This, Variable, Source, Child, Element, Count, Has, Token, Call, Cast, InstanceOf, Quantified, QuantifiedSet, Each, EachOfSet, Sets, Single, Contains, Size, Not, Negate, Binary, And, Or, OrBoth, If, New}

abbrev pub listed : Arguments → List Expression
listed no_more = []
listed (argument e es) = e ∷ listed es

-- the tokens of a `new`, from the left, with those of the trees that are children in it
abbrev pub tokens_in : NewArguments → List Expression
tokens_in new_end = []
tokens_in (new_token k e rest) = e ∷ tokens_in rest
tokens_in (new_child c parts rest) = tokens_in parts ++ tokens_in rest

-- the parts of an expression, from the left
abbrev pub parts_of : Expression → List Expression
parts_of (Truth b) = []
parts_of (Int z) = []
parts_of (Text n) = []
parts_of Null = []
parts_of Empty = []
parts_of This = []
parts_of (Variable k) = []
parts_of (Source k) = []
parts_of (Child k e) = e ∷ []
parts_of (Element k e i) = e ∷ i ∷ []
parts_of (Count k e) = e ∷ []
parts_of (Has k e) = e ∷ []
parts_of (Token t k e) = e ∷ []
parts_of (Call a place e es) = e ∷ listed es
parts_of (Cast c e) = e ∷ []
parts_of (InstanceOf c e) = e ∷ []
parts_of (Quantified q k e b) = e ∷ b ∷ []
parts_of (QuantifiedSet q e b) = e ∷ b ∷ []
parts_of (Each t k e b) = e ∷ b ∷ []
parts_of (EachOfSet t e b) = e ∷ b ∷ []
parts_of (Sets o t a b) = a ∷ b ∷ []
parts_of (Single e) = e ∷ []
parts_of (Contains a b) = a ∷ b ∷ []
parts_of (Size e) = e ∷ []
parts_of (Not e) = e ∷ []
parts_of (Negate e) = e ∷ []
parts_of (Binary o a b) = a ∷ b ∷ []
parts_of (And a b) = a ∷ b ∷ []
parts_of (Or a b) = a ∷ b ∷ []
parts_of (OrBoth a b) = a ∷ b ∷ []
parts_of (If c a place b) = c ∷ a ∷ b ∷ []
parts_of (New c parts) = tokens_in parts

-- an expression calls the attribute of this number, itself or in a part of it
pub data Calls (a : ℕ) : Expression → Type 0 where
  itself : {e : Expression} {es : Arguments} (place : Place) → Calls a (Call a place e es)
  in_part : {e part : Expression} → Includes (parts_of e) part → Calls a part → Calls a e

-- an expression calls an attribute that is circular
pub record CallsCircular (circular : ℕ → Bool) (e : Expression) : Type 0 where
  pub attribute : ℕ
  pub is : circular attribute ≡ true
  pub called : Calls attribute e
