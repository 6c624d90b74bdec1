-- A small program, worked through the definitions: the grammar `N ::= m:M [o:M] s:M*; M ::= <V:int> <B:boolean> <T:String>;`,
-- a tree of one N with one M and a list of two, `syn int N.v() = 5`, `syn boolean M.w() = true`, and the query `@0.v()`.
use Rattle.std.proofs.Common.{◌≡◌, ℕ, zero, suc, ℤ, pos, negsuc, arith, true, false, List, [], ◌∷◌, Some, None, codes, refl}
use Rattle.std.specs.Int.{int_wrap}
use Rattle.ast_grammar.specs.declared.grammar.Shape.TheVariants as shapes
use Rattle.superclasses.specs.Superclasses.{line_of}
use Rattle.ast_grammar.specs.Grammar.{Class, superclasses_of}
use Rattle.attr_rules.specs.declared.dispatch.Reach.TheVariants.{Own}
use Rattle.attr_rules.specs.declared.expression.Operator.TheVariants.{Add, Subtract, Multiply, Less, AtMost, Greater, AtLeast, Equal}
use Rattle.attr_rules.specs.declared.kinds.Kind.TheVariants as kinds
use Rattle.attr_rules.specs.Expression.{Expression, Truth as TruthLiteral, Int as IntLiteral, Text as TextLiteral, Null as NullLiteral, This, Source as SourceNode, Child, Element, Count, Has, Token, Call, no_more, Negate, Binary, And, Or, If}
use Rattle.attr_rules.specs.Rules.{Attribute as Declared, Equation, circular_at, plain_attribute}
use Rattle.solutions.specs.Rounds.{IsStable, outer_rounds}
use Rattle.solutions.proofs.Finishing.{inner_stable}
use Rattle.solutions.specs.Asking.{Gives, Needs}
use Rattle.tree_arena.specs.Nodes.{Node as TreeNode}
use Rattle.tree_arena.specs.Terms.{Empty, Fits, Forest, IsTreeOf, Tree, element, none, one, over, root as whole, token}
use Rattle.equation_law.specs.Names.{At, Attribute, Instance, Null, Query, Source, made_by}
use Rattle.equation_law.specs.Values.{Int, Node, Text, Truth, as_kind, truth}
use Rattle.equation_law.specs.Meaning.{Place, meaning_of, operate}
use Rattle.equation_law.specs.Program.{Program, at_source, source_instances}
use Rattle.equation_law.specs.Equations.{HasValue, OfSite, equation_of, equations_of, world_of}
use Rattle.equation_law.proofs.Names.{same_instance_is}
use Rattle.equation_law.proofs.Solution.{none_circular}

-- what is declared, and the equations
abbrev attributes : List Declared
attributes =
    record { name = codes "v"; declared = plain_attribute (record { 0 = 0 }) kinds.Int; collecting = None } ∷
    record { name = codes "w"; declared = plain_attribute (record { 0 = 1 }) kinds.Truth; collecting = None } ∷
    []

abbrev equations : List Equation
equations =
    record { target = record { class = record { 0 = 0 }; reach = Own; attribute = record { 0 = 0 } }; body = IntLiteral (pos 5) } ∷
    record { target = record { class = record { 0 = 1 }; reach = Own; attribute = record { 0 = 1 } }; body = TruthLiteral true } ∷
    []

-- the calls `@0.v()` and `@0.w()`; no rule of the notation allows the latter
abbrev v : Expression
v = Call 0 (record { line = 1; column = 1 }) (SourceNode 0) no_more

abbrev w : Expression
w = Call 1 (record { line = 1; column = 1 }) (SourceNode 0) no_more

abbrev classes : List Class
classes =
    record {
      name = codes "N";
      abstract = false;
      superclass = None;
      components =
          record { name = codes "m"; number = 0; shape = shapes.Child; class = record { 0 = 1 } } ∷
          record { name = codes "o"; number = 1; shape = shapes.Optional; class = record { 0 = 1 } } ∷
          record { name = codes "s"; number = 2; shape = shapes.List; class = record { 0 = 1 } } ∷
          [];
    } ∷
    record {
      name = codes "M";
      abstract = false;
      superclass = None;
      components =
          record { name = codes "V"; number = 3; shape = shapes.Int; class = record { 0 = 0 } } ∷
          record { name = codes "B"; number = 4; shape = shapes.Truth; class = record { 0 = 0 } } ∷
          record { name = codes "T"; number = 5; shape = shapes.Text; class = record { 0 = 0 } } ∷
          [];
    } ∷
    []

-- the tokens are -5, true and "x"; 7, false and "x"; 0, true and "y"
abbrev four_nodes : List TreeNode
four_nodes =
    record { class = record { 0 = 0 }; parent = 0; component = 0; tokens = 0 ∷ 0 ∷ 0 ∷ [] } ∷
    record { class = record { 0 = 1 }; parent = 0; component = 0; tokens = 4294967291 ∷ 1 ∷ 1 ∷ [] } ∷
    record { class = record { 0 = 1 }; parent = 0; component = 2; tokens = 7 ∷ 0 ∷ 1 ∷ [] } ∷
    record { class = record { 0 = 1 }; parent = 0; component = 2; tokens = 0 ∷ 1 ∷ 2 ∷ [] } ∷
    []

abbrev small : Program
small = record {
  grammar = classes;
  rules = record { superclasses = superclasses_of classes; attributes = attributes; equations = equations; contributions = [] };
  tree = four_nodes;
  texts = [] ∷ codes "x" ∷ codes "y" ∷ [];
  queries = record { body = v; kind = kinds.Int } ∷ [];
}

-- they are a tree of the grammar
abbrev below : Forest
below =
    Tree (record { 0 = 1 }) 0 (4294967291 ∷ 1 ∷ 1 ∷ []) Empty
    (Tree (record { 0 = 1 }) 2 (7 ∷ 0 ∷ 1 ∷ []) Empty
    (Tree (record { 0 = 1 }) 2 (0 ∷ 1 ∷ 2 ∷ []) Empty Empty))

fit : Fits classes (record { 0 = 1 }) (record { 0 = 1 })
fit = record { below = refl; concrete = refl }

is_tree : IsTreeOf classes 3 four_nodes
is_tree = record {
  term = Tree (record { 0 = 0 }) 0 (0 ∷ 0 ∷ 0 ∷ []) below Empty;
  grown = whole (record { below = refl; concrete = refl })
      (one tt fit (token (omega arith) (token (omega arith) (token (omega arith) over)))
      (none tt
      (element refl fit (token (omega arith) (token (omega arith) (token (omega arith) over)))
      (element refl fit (token (omega arith) (token (omega arith) (token (omega arith) over))) (none tt over)))));
  are = refl;
  few = omega arith;
}

abbrev root : Place
root = record { this = At (Source 0); names = [] }

-- the instances at its source nodes
instances : source_instances small ≡ at_source 0 0 ∷ at_source 1 1 ∷ at_source 1 2 ∷ at_source 1 3 ∷ Query 0 ∷ []
unfolding source_instances superclasses_of line_of
instances = refl

-- the equation of its attribute at the root
of_attribute : equation_of small (at_source 0 0) ≡ Some (OfSite (record { body = IntLiteral (pos 5); kind = kinds.Int; place = root; root = made_by (at_source 0 0) 0 }))
unfolding superclasses_of line_of
of_attribute = refl

-- that of the query
of_query : equation_of small (Query 0) ≡ Some (OfSite (record { body = v; kind = kinds.Int; place = root; root = Null }))
unfolding superclasses_of line_of
of_query = refl

-- the root is no M
of_other_class : equation_of small (at_source 1 0) ≡ None
unfolding superclasses_of line_of
of_other_class = refl

-- no fifth node
of_no_node : equation_of small (at_source 0 4) ≡ None
unfolding superclasses_of line_of
of_no_node = refl

-- no third attribute
of_no_attribute : equation_of small (at_source 2 0) ≡ None
unfolding superclasses_of line_of
of_no_attribute = refl

-- no second query
of_no_query : equation_of small (Query 1) ≡ None
of_no_query = refl

-- and nothing at null
of_null : equation_of small (Attribute 0 Null []) ≡ None
of_null = refl

-- what has no equation counts as null
no_equation : (equations_of small).equation (Query 1) ≡ Gives (Node Null)
unfolding equations_of
no_equation = refl

-- `1 - 2 - 3`
from_the_left : meaning_of (world_of small) (Binary Subtract (Binary Subtract (IntLiteral (pos 1)) (IntLiteral (pos 2))) (IntLiteral (pos 3))) root ≡ Gives (Int (negsuc 3))
unfolding int_wrap
from_the_left = refl

-- `1 - (2 - 3)`
from_the_right : meaning_of (world_of small) (Binary Subtract (IntLiteral (pos 1)) (Binary Subtract (IntLiteral (pos 2)) (IntLiteral (pos 3)))) root ≡ Gives (Int (pos 2))
unfolding int_wrap
from_the_right = refl

-- past the greatest integer
sum_wraps : operate Add (Int (pos 2147483647)) (Int (pos 1)) ≡ Int (negsuc 2147483647)
unfolding int_wrap
sum_wraps = refl

-- below the least integer
difference_wraps : operate Subtract (Int (negsuc 2147483646)) (Int (pos 2)) ≡ Int (pos 2147483647)
unfolding int_wrap
difference_wraps = refl

-- far past the greatest integer
product_wraps : operate Multiply (Int (pos 65536)) (Int (pos 65536)) ≡ Int (pos 0)
unfolding int_wrap
product_wraps = refl

-- the least integer has no opposite
lowest_negated : meaning_of (world_of small) (Negate (IntLiteral (negsuc 2147483647))) root ≡ Gives (Int (negsuc 2147483647))
unfolding int_wrap
lowest_negated = refl

-- comparisons of equal values
equal_values : (operate Less (Int (pos 2)) (Int (pos 2)) ≡ Truth false) × (operate AtMost (Int (pos 2)) (Int (pos 2)) ≡ Truth true) × (operate Greater (Int (pos 2)) (Int (pos 2)) ≡ Truth false) × (operate AtLeast (Int (pos 2)) (Int (pos 2)) ≡ Truth true) × (operate Equal (Int (pos 2)) (Int (pos 2)) ≡ Truth true)
equal_values = (refl, refl, refl, refl, refl)

-- a lower value on the left
lower_values : (operate Less (Int (negsuc 2)) (Int (pos 2)) ≡ Truth true) × (operate AtMost (Int (negsuc 2)) (Int (pos 2)) ≡ Truth true) × (operate Greater (Int (negsuc 2)) (Int (pos 2)) ≡ Truth false) × (operate AtLeast (Int (negsuc 2)) (Int (pos 2)) ≡ Truth false) × (operate Equal (Int (negsuc 2)) (Int (pos 2)) ≡ Truth false)
lower_values = (refl, refl, refl, refl, refl)

-- two truth values
truth_values : (operate Equal (Truth false) (Truth false) ≡ Truth true) × (operate Equal (Truth false) (Truth true) ≡ Truth false) × (operate Equal (Truth true) (Truth false) ≡ Truth false) × (operate Equal (Truth true) (Truth true) ≡ Truth true)
truth_values = (refl, refl, refl, refl)

-- both sides are demanded, the left one first
both_demanded : meaning_of (world_of small) (Binary Add v w) root ≡ Needs (at_source 0 0) (λ x. Needs (at_source 1 0) (λ y. Gives (operate Add (as_kind kinds.Int x) (as_kind kinds.Truth y))))
unfolding superclasses_of line_of
both_demanded = refl

-- `false && w` demands nothing
and_short : meaning_of (world_of small) (And (TruthLiteral false) w) root ≡ Gives (Truth false)
and_short = refl

-- nor does `true || w`
or_short : meaning_of (world_of small) (Or (TruthLiteral true) w) root ≡ Gives (Truth true)
or_short = refl

-- `true && w` demands w
and_long : meaning_of (world_of small) (And (TruthLiteral true) w) root ≡ Needs (at_source 1 0) (λ x. Gives (Truth (truth x)))
unfolding superclasses_of line_of
and_long = refl

-- so does `false || w`
or_long : meaning_of (world_of small) (Or (TruthLiteral false) w) root ≡ Needs (at_source 1 0) (λ x. Gives (Truth (truth x)))
unfolding superclasses_of line_of
or_long = refl

-- `true ? v : 7` demands v, and `false ? v : 7` nothing
chosen : (meaning_of (world_of small) (If (TruthLiteral true) v None (IntLiteral (pos 7))) root ≡ Needs (at_source 0 0) (λ x. Gives (as_kind kinds.Int x))) × (meaning_of (world_of small) (If (TruthLiteral false) v None (IntLiteral (pos 7))) root ≡ Gives (Int (pos 7)))
unfolding superclasses_of line_of
chosen = (refl, refl)

-- `this`, `this.getm()`, and the same of that
accessors : (meaning_of (world_of small) This root ≡ Gives (Node (At (Source 0)))) × (meaning_of (world_of small) (Child 0 This) root ≡ Gives (Node (At (Source 1)))) × (meaning_of (world_of small) (Child 0 (Child 0 This)) root ≡ Gives (Node Null))
accessors = (refl, refl, refl)

-- the tokens of the child
tokens : (meaning_of (world_of small) (Token kinds.Int 0 (Child 0 This)) root ≡ Gives (Int (negsuc 4))) × (meaning_of (world_of small) (Token kinds.Truth 1 (Child 0 This)) root ≡ Gives (Truth true))
unfolding int_wrap
tokens = (refl, refl)

-- on null a token and a call are defaults, and demand nothing
on_null : (meaning_of (world_of small) (Token kinds.Int 0 (Child 1 This)) root ≡ Gives (Int (pos 0))) × (meaning_of (world_of small) (Token kinds.Text 2 NullLiteral) root ≡ Gives (Text [])) × (meaning_of (world_of small) (Call 1 (record { line = 1; column = 1 }) (Child 1 This) no_more) root ≡ Gives (Truth false))
unfolding superclasses_of line_of
on_null = (refl, refl, refl)

-- the texts of tokens and of literals; the number of no text stands for the empty one
same_texts : (meaning_of (world_of small) (Binary Equal (Token kinds.Text 2 (SourceNode 1)) (Token kinds.Text 2 (SourceNode 2))) root ≡ Gives (Truth true)) × (meaning_of (world_of small) (Binary Equal (Token kinds.Text 2 (SourceNode 1)) (Token kinds.Text 2 (SourceNode 3))) root ≡ Gives (Truth false)) × (meaning_of (world_of small) (Binary Equal (Token kinds.Text 2 (SourceNode 3)) (TextLiteral 2)) root ≡ Gives (Truth true)) × (meaning_of (world_of small) (Binary Equal (TextLiteral 9) (TextLiteral 0)) root ≡ Gives (Truth true))
same_texts = (refl, refl, refl, refl)

-- two nodes, and null, which equals itself alone
same_nodes : (meaning_of (world_of small) (Binary Equal This (SourceNode 0)) root ≡ Gives (Truth true)) × (meaning_of (world_of small) (Binary Equal This (Child 0 This)) root ≡ Gives (Truth false)) × (meaning_of (world_of small) (Binary Equal This NullLiteral) root ≡ Gives (Truth false)) × (meaning_of (world_of small) (Binary Equal NullLiteral This) root ≡ Gives (Truth false)) × (meaning_of (world_of small) (Binary Equal (Child 1 This) NullLiteral) root ≡ Gives (Truth true))
same_nodes = (refl, refl, refl, refl, refl)

-- a child is there, and the optional one is not
optional : (meaning_of (world_of small) (Has 0 This) root ≡ Gives (Truth true)) × (meaning_of (world_of small) (Has 1 This) root ≡ Gives (Truth false)) × (meaning_of (world_of small) (Has 1 NullLiteral) root ≡ Gives (Truth false)) × (meaning_of (world_of small) (Child 1 This) root ≡ Gives (Node Null))
optional = (refl, refl, refl, refl)

-- the elements of a list, and its length
abbrev element_at : Expression → ℤ → Expression
element_at e z = Element 2 e (IntLiteral z)

elements : (meaning_of (world_of small) (element_at This (pos 0)) root ≡ Gives (Node (At (Source 2)))) × (meaning_of (world_of small) (element_at This (pos 1)) root ≡ Gives (Node (At (Source 3)))) × (meaning_of (world_of small) (element_at This (pos 2)) root ≡ Gives (Node Null)) × (meaning_of (world_of small) (element_at This (negsuc 0)) root ≡ Gives (Node Null)) × (meaning_of (world_of small) (element_at NullLiteral (pos 0)) root ≡ Gives (Node Null))
elements = (refl, refl, refl, refl, refl)

counts : (meaning_of (world_of small) (Count 2 This) root ≡ Gives (Int (pos 2))) × (meaning_of (world_of small) (Count 2 (Child 0 This)) root ≡ Gives (Int (pos 0))) × (meaning_of (world_of small) (Count 2 NullLiteral) root ≡ Gives (Int (pos 0)))
unfolding int_wrap
counts = (refl, refl, refl)

-- the place is evaluated, also on null
place_first : meaning_of (world_of small) (Element 2 NullLiteral v) root ≡ Needs (at_source 0 0) (λ x. Gives (Node Null))
unfolding superclasses_of line_of
place_first = refl

-- a call on the child
on_child : meaning_of (world_of small) (Call 1 (record { line = 1; column = 1 }) (Child 0 This) no_more) root ≡ Needs (at_source 1 1) (λ x. Gives (Truth (truth x)))
unfolding superclasses_of line_of
on_child = refl

-- no attribute is circular, so inner rounds over any list are at rest
plain : (a : ℕ) → circular_at attributes a ≡ false
plain zero = refl
plain (suc zero) = refl
plain (suc (suc a)) = refl

at_rest : (list : List Instance) (rounds : List ℕ) → IsStable (equations_of small) list (outer_rounds (equations_of small) list rounds) 0
unfolding equations_of
at_rest list rounds = inner_stable (equations_of small) same_instance_is list (λ i m. none_circular small plain i) (outer_rounds (equations_of small) list rounds)

-- the rounds give the attribute its value in the first round, and the query in the second
five : HasValue small (Query 0) (Int (pos 5))
unfolding equations_of superclasses_of line_of
five = record { list = at_source 0 0 ∷ Query 0 ∷ []; rounds = 0 ∷ 0 ∷ []; whole = ((tt, at_rest (at_source 0 0 ∷ Query 0 ∷ []) []), at_rest (at_source 0 0 ∷ Query 0 ∷ []) (0 ∷ [])); given = refl }
