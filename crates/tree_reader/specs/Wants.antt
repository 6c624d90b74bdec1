-- What may stand where an argument stands: by the component of a class, in a list, in an optional.
use Rattle.std.specs.Prelude.{ℕ, List, [], ◌∷◌, Option, Some, None}
use Rattle.ast_grammar.specs.declared.grammar.ClassId.{ClassId}
use Rattle.ast_grammar.specs.declared.grammar.Shape.{Shape}
use Rattle.ast_grammar.specs.declared.grammar.Shape.TheVariants as shapes
use Rattle.ast_grammar.specs.Grammar.{Class, Component, components_of}

-- what is wanted of the next arguments: one for each of some components; any number of nodes of a class, as in a list; one node of a
-- class at most, as in an optional; no node, behind the one of an optional; or nothing is known of them
pub data Wants : Type 0 where
  Components : List Component → Wants
  Elements : ClassId → Wants
  Perhaps : ClassId → Wants
  NoMore : Wants
  Unknown : Wants

-- what is wanted behind one argument; behind the last component nothing is known, since there is an argument too many
abbrev pub next_of : Wants → Wants
next_of (Components []) = Unknown
next_of (Components (x ∷ xs)) = Components xs
next_of (Elements c) = Elements c
next_of (Perhaps c) = NoMore
next_of NoMore = NoMore
next_of Unknown = Unknown

-- what may stand where the next argument does: what belongs to a component of this shape and class; a node of a class; no node; or
-- nothing is known
pub data Wanted : Type 0 where
  At : Shape → ClassId → Wanted
  Element : ClassId → Wanted
  NoNode : Wanted
  Anything : Wanted

abbrev pub wanted_by : Wants → Wanted
wanted_by (Components []) = Anything
wanted_by (Components (x ∷ xs)) = At x.shape x.class
wanted_by (Elements c) = Element c
wanted_by (Perhaps c) = Element c
wanted_by NoMore = NoNode
wanted_by Unknown = Anything

-- what is wanted inside brackets that stand at a component of this shape
abbrev pub inside_shape : Shape → ClassId → Wants
inside_shape shapes.Child c = Unknown
inside_shape shapes.List c = Elements c
inside_shape shapes.Optional c = Perhaps c
inside_shape shapes.Text c = Unknown
inside_shape shapes.Int c = Unknown
inside_shape shapes.Truth c = Unknown

abbrev pub inside : Wanted → Wants
inside (At s c) = inside_shape s c
inside (Element c) = Unknown
inside NoNode = Unknown
inside Anything = Unknown

-- what is wanted of the arguments of a node whose class has this number, if it is known
abbrev pub arguments_of : List Class → Option ℕ → Wants
arguments_of g None = Unknown
arguments_of g (Some c) = Components (components_of g c)
