-- The nodes that a `new` makes, in preorder, each with its own arguments and where it stands.
use Rattle.std.specs.Prelude.{◌≡◌, ◌+◌, ◌-◌, ◌≤◌, ◌<◌, ℕ, zero, suc, List, [], ◌∷◌, ◌++◌, Option, Some, None, Result, Ok, Err, slice_get}
use Rattle.ast_grammar.specs.declared.grammar.ClassId.{ClassId}
use Rattle.attr_rules.specs.Expression.{NewArguments, new_arguments_of, new_child, new_end, new_token}
use Rattle.attr_rules.specs.Typing.{nodes_below, tokens_made}
use Rattle.equation_law.specs.Codes.{most_made}
use Rattle.equation_law.specs.Created.{Making}
use Rattle.made_trees.specs.declared.news.Stand.{Stand as FoundNode}
use Rattle.made_trees.specs.declared.news.Front.{Front}

-- a node: its class, its arguments, its parent with the component at which it hangs there, and how many tokens stand in front of its own
pub record Stand : Type 0 where
  pub class : ClassId
  pub arguments : NewArguments
  pub parent : ℕ
  pub component : ℕ
  pub tokens : ℕ

-- those below a node from its component j on; the first has the position n, and t tokens stand in front
abbrev pub stands_from : ℕ → ℕ → ℕ → ℕ → NewArguments → List Stand
stands_from u n j t new_end = []
stands_from u n j t (new_token k e rest) = stands_from u n (suc j) (suc t) rest
stands_from u n j t (new_child c parts rest) =
    record { class = c; arguments = parts; parent = u; component = j; tokens = t } ∷ (stands_from n (suc n) 0 t parts ++ stands_from u (suc n + nodes_below parts) (suc j) (t + tokens_made parts) rest)

abbrev pub stands_of : Making → List Stand
stands_of m = record { class = m.class; arguments = m.arguments; parent = 0; component = 0; tokens = 0 } ∷ stands_from 0 1 0 0 m.arguments

abbrev pub stands_or_none : Option Making → List Stand
stands_or_none None = []
stands_or_none (Some m) = stands_of m

-- the position of the child at component k of those from the first on, the next node having the position n
abbrev pub child_place : NewArguments → ℕ → ℕ → Option ℕ
child_place new_end n k = None
child_place (new_token t e rest) n zero = None
child_place (new_token t e rest) n (suc k) = child_place rest n k
child_place (new_child c parts rest) n zero = Some n
child_place (new_child c parts rest) n (suc k) = child_place rest (suc n + nodes_below parts) k

-- a tree is no larger than one may be: then so many nodes, tokens and components there are at most
abbrev pub most_parts : ℕ
most_parts = 32

-- the number of components, nodes and tokens up to the end of some arguments is small
pub record AreFewFrom (n j t : ℕ) (parts : NewArguments) : Type 0 where
  pub nodes : n + nodes_below parts ≤ most_parts
  pub components : j + (nodes_below parts + tokens_made parts) ≤ most_parts
  pub tokens : t + tokens_made parts ≤ most_parts

abbrev pub stand_of : FoundNode → Stand
stand_of s = record { class = s.class; arguments = new_arguments_of s.parts.now; parent = s.parent; component = s.component; tokens = s.tokens }

-- the node at a position is found, or the search ends at the position behind the last
abbrev pub IsFoundFrom : Front → NewArguments → ℕ → Result FoundNode ℕ → Type 0
IsFoundFrom at parts wanted (Ok s) = slice_get (stands_from at.parent at.first at.component at.tokens parts) (wanted - at.first) ≡ Some (stand_of s)
IsFoundFrom at parts wanted (Err next) = (next ≡ at.first + nodes_below parts) × (next ≤ wanted)

abbrev pub IsSmallFrom : Front → NewArguments → Type 0
IsSmallFrom at parts = AreFewFrom at.first at.component at.tokens parts

abbrev pub IsSmall : Making → Type 0
IsSmall m = (nodes_below m.arguments < most_made) × (tokens_made m.arguments ≤ most_made)
