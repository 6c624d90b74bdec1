-- What a `new` is, from what is found of it.
use Rattle.std.proofs.Common.{◌≡◌, Some}
use Rattle.attr_rules.specs.Expression.{Expression, New, Truth, Int, Text, Null, Empty, This, Variable, Source, Child, Element, Count, Has, Token, Call, Cast, InstanceOf, Quantified, QuantifiedSet, Each, EachOfSet, Sets, Single, Contains, Size, Not, Negate, Binary, And, Or, OrBoth, If}
use Rattle.equation_law.specs.Created.{Making, making_in}

-- an expression in which a `new` is found is that `new`
pub found_new : (e : Expression) (m : Making) → making_in e ≡ Some m → e ≡ New m.class m.arguments
found_new (New c parts) m is = cc
found_new (Truth b) m is = cc
found_new (Int z) m is = cc
found_new (Text n) m is = cc
found_new Null m is = cc
found_new Empty m is = cc
found_new This m is = cc
found_new (Variable k) m is = cc
found_new (Source k) m is = cc
found_new (Child k e) m is = cc
found_new (Element k e i) m is = cc
found_new (Count k e) m is = cc
found_new (Has k e) m is = cc
found_new (Token t k e) m is = cc
found_new (Call a at e es) m is = cc
found_new (Cast c e) m is = cc
found_new (InstanceOf c e) m is = cc
found_new (Quantified q k e b) m is = cc
found_new (QuantifiedSet q e b) m is = cc
found_new (Each t k e b) m is = cc
found_new (EachOfSet t e b) m is = cc
found_new (Sets o t a b) m is = cc
found_new (Single e) m is = cc
found_new (Contains a b) m is = cc
found_new (Size e) m is = cc
found_new (Not e) m is = cc
found_new (Negate e) m is = cc
found_new (Binary o a b) m is = cc
found_new (And a b) m is = cc
found_new (Or a b) m is = cc
found_new (OrBoth a b) m is = cc
found_new (If c a at b) m is = cc
