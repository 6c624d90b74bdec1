-- Where expressions begin.
use Rattle.std.specs.Prelude.{true, false, Option, Some, None}
use Rattle.rag_io.specs.declared.token.Place.{Place}
use Rattle.aspect_items.specs.Expressions.{Expr, Truth, Null, Empty, This, Int, Text, Source, Variable, Call, Member, New, Quantified, Group, Cast, Not, Negate, Binary, InstanceOf, If}

-- the place of the first token
abbrev pub place_of : Expr → Place
place_of (Truth p b) = p
place_of (Null p) = p
place_of (Empty p) = p
place_of (This p) = p
place_of (Int p n) = p
place_of (Text p n) = p
place_of (Source p n) = p
place_of (Variable n) = n.place
place_of (Call n es) = n.place
place_of (Member e n es) = place_of e
place_of (New p n es) = p
place_of (Quantified q p n range e) = p
place_of (Group p e) = p
place_of (Cast p n e) = p
place_of (Not p e) = p
place_of (Negate p e) = p
place_of (Binary o a b) = place_of a
place_of (InstanceOf e n) = place_of e
place_of (If c a b) = place_of c

-- the place of the part of a choice behind `:`, unless that is the literal `false` or `empty`
abbrev pub else_place : Expr → Option Place
else_place (Truth p true) = Some p
else_place (Truth p false) = None
else_place (Empty p) = None
else_place e = Some (place_of e)
