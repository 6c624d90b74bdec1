-- Trees that a small program makes, computed: what they demand in which order, their nodes, and what these inherit.
use Rattle.std.proofs.Common.{◌≡◌, ℕ, zero, suc, pos, false, List, [], ◌∷◌, Option, Some, None, codes, refl}
use Rattle.std.specs.Int.{int_wrap}
use Rattle.superclasses.specs.Superclasses.{line_of}
use Rattle.ast_grammar.specs.declared.grammar.ClassId.{ClassId}
use Rattle.ast_grammar.specs.declared.grammar.Shape.TheVariants as shapes
use Rattle.ast_grammar.specs.Grammar.{Class, superclasses_of}
use Rattle.attr_rules.specs.declared.dispatch.Reach.{Reach}
use Rattle.attr_rules.specs.declared.dispatch.Reach.TheVariants as reach
use Rattle.attr_rules.specs.declared.expression.Operator.TheVariants.{Add}
use Rattle.attr_rules.specs.declared.kinds.Kind.{Kind}
use Rattle.attr_rules.specs.declared.kinds.Kind.TheVariants as kinds
use Rattle.attr_rules.specs.declared.kinds.Params.{Params}
use Rattle.attr_rules.specs.declared.kinds.Sort.{Sort}
use Rattle.attr_rules.specs.declared.kinds.Sort.TheVariants.{Inh, Nta, Syn}
use Rattle.attr_rules.specs.declared.kinds.Start.TheVariants.{Plain}
use Rattle.attr_rules.specs.Expression.{Binary, Call, Expression, New, This, Token, Variable, Int as IntLiteral, Text as TextLiteral, new_child, new_end, new_token, no_more}
use Rattle.attr_rules.specs.Rules.{Attribute as DeclaredAttribute, Equation, no_params}
use Rattle.solutions.specs.Asking.{Done, run}
use Rattle.equation_law.specs.Equations.{child_of, equations_of, world_of}
use Rattle.equation_law.specs.Meaning.{token_at}
use Rattle.equation_law.specs.Names.{At, Attribute, Instance, Made, NodeName, OfInt, OfText, Query, Row, Source, end_row, row}
use Rattle.equation_law.specs.Program.{Program, class_at}
use Rattle.equation_law.specs.Values.{Int, Text, Tree, Value}

abbrev class : ℕ → ClassId
class c = record { 0 = c }

abbrev takes : Kind → Kind → Params
takes a b = record { count = 2; first = a; second = b; third = kinds.Truth }

abbrev declared : Sort → ℕ → Kind → Params → DeclaredAttribute
declared s c k ps = record { name = codes "a"; declared = record { class = class c; sort = s; kind = k; params = ps; circular = false; start = Plain }; collecting = None }

-- inherited attributes are told by their names
abbrev inherits : List ℕ → Kind → DeclaredAttribute
inherits name k = record { name = name; declared = record { class = class 1; sort = Inh; kind = k; params = no_params; circular = false; start = Plain }; collecting = None }

abbrev equates : ℕ → Reach → ℕ → Expression → Equation
equates c r a e = record { target = record { class = class c; reach = r; attribute = record { 0 = a } }; body = e }

abbrev over : ℕ → Reach
over k = reach.Component (record { 0 = k })

abbrev over_boxes : Reach
over_boxes = reach.Created (record { 0 = 0 })

abbrev call : ℕ → Expression
call a = Call a (record { line = 1; column = 1 }) This no_more

-- `N ::= <K:int>; Tok ::= <V:int>; Box ::= in:Tok <W:int> out:Tok;`
abbrev classes : List Class
classes =
    record { name = codes "N"; abstract = false; superclass = None; components = record { name = codes "K"; number = 0; shape = shapes.Int; class = class 0 } ∷ [] } ∷
    record { name = codes "Tok"; abstract = false; superclass = None; components = record { name = codes "V"; number = 1; shape = shapes.Int; class = class 0 } ∷ [] } ∷
    record {
      name = codes "Box";
      abstract = false;
      superclass = None;
      components = record { name = codes "in"; number = 2; shape = shapes.Child; class = class 1 } ∷ record { name = codes "W"; number = 3; shape = shapes.Int; class = class 0 } ∷ record { name = codes "out"; number = 4; shape = shapes.Child; class = class 1 } ∷ [];
    } ∷ []

-- `syn nta Box N.box(int k, String s) = new Box(new Tok(k), k + getK(), new Tok(lookup()))`
abbrev box : Expression
box =
    New (class 2) (
    new_child (class 1) (new_token kinds.Int (Variable 0) new_end)
    (new_token kinds.Int (Binary Add (Variable 0) (Token kinds.Int 0 This))
    (new_child (class 1) (new_token kinds.Int (call 1) new_end) new_end)))

-- with `lookup`, which is another attribute, and inherited ones `base`, `k` and `s` of `Tok`
abbrev boxes : Program
boxes = record {
  grammar = classes;
  rules = record {
    superclasses = superclasses_of classes;
    attributes =
        declared Nta 0 (kinds.Node (class 2)) (takes kinds.Int kinds.Text) ∷ declared Syn 0 kinds.Int no_params ∷ inherits (codes "base") kinds.Int ∷ inherits (codes "k") kinds.Int ∷ inherits (codes "s") kinds.Text ∷ [];
    equations =
        equates 0 reach.Own 0 box ∷
        equates 0 reach.Own 1 (Token kinds.Int 0 This) ∷
        equates 2 (over 0) 2 (IntLiteral (pos 1)) ∷
        equates 0 over_boxes 2 (IntLiteral (pos 2)) ∷
        equates 0 over_boxes 3 (Variable 0) ∷
        equates 0 reach.Children 4 (TextLiteral 1) ∷
        equates 0 over_boxes 4 (Variable 1) ∷ [];
    contributions = [];
  };
  tree = record { class = class 0; parent = 0; component = 0; tokens = 7 ∷ [] } ∷ [];
  texts = [] ∷ codes "child" ∷ [];
  queries = [];
}

abbrev given : Row
given = row (OfInt (pos 5)) (row (OfText (codes "q")) end_row)

-- `box(5, "q")`, the instance and its nodes
abbrev made : Instance
made = Attribute 0 (At (Source 0)) (OfInt (pos 5) ∷ OfText (codes "q") ∷ [])

abbrev part : ℕ → NodeName
part q = Made 0 (At (Source 0)) given q

abbrev at_part : ℕ → ℕ → Instance
at_part a q = Attribute a (At (part q)) []

-- `lookup` is 7, and this is the tree
abbrev told : Instance → Option Value
told (Attribute zero r xs) = Some (Tree (At (part 0)) (OfInt (pos 5) ∷ OfInt (pos 12) ∷ OfInt (pos 7) ∷ []))
told (Attribute (suc a) r xs) = Some (Int (pos 7))
told (Query q) = None

-- its tokens are evaluated in the order in which they are written, and it demands the one attribute
tree_made : run told ((equations_of boxes).equation made) ≡ Done (Tree (At (part 0)) (OfInt (pos 5) ∷ OfInt (pos 12) ∷ OfInt (pos 7) ∷ [])) (Attribute 1 (At (Source 0)) [] ∷ [])
unfolding equations_of superclasses_of line_of int_wrap
tree_made = refl

-- its nodes and their classes
root_class : class_at boxes (part 0) ≡ Some (class 2)
unfolding superclasses_of line_of
root_class = refl

first_child : child_of boxes (part 0) 0 ≡ At (part 1)
unfolding superclasses_of line_of
first_child = refl

second_child : child_of boxes (part 0) 2 ≡ At (part 2)
unfolding superclasses_of line_of
second_child = refl

child_class : class_at boxes (part 2) ≡ Some (class 1)
unfolding superclasses_of line_of
child_class = refl

-- a token demands what made the node: `box(5, "q").getW()`, `.getin().getV()` and `.getout().getV()`
own_token : run told (token_at (world_of boxes) kinds.Int 1 (At (part 0))) ≡ Done (Int (pos 12)) (made ∷ [])
unfolding superclasses_of line_of
own_token = refl

first_token : run told (token_at (world_of boxes) kinds.Int 0 (At (part 1))) ≡ Done (Int (pos 5)) (made ∷ [])
unfolding superclasses_of line_of
first_token = refl

last_token : run told (token_at (world_of boxes) kinds.Int 0 (At (part 2))) ≡ Done (Int (pos 7)) (made ∷ [])
unfolding superclasses_of line_of
last_token = refl

-- inside, the parent's equation covers the one child, and the owner's the other
base_inside : run told ((equations_of boxes).equation (at_part 2 1)) ≡ Done (Int (pos 1)) []
unfolding equations_of superclasses_of line_of int_wrap
base_inside = refl

base_owner : run told ((equations_of boxes).equation (at_part 2 2)) ≡ Done (Int (pos 2)) []
unfolding equations_of superclasses_of line_of int_wrap
base_owner = refl

-- the path binds the arguments, and an equation for the attribute comes before one for every child
k_bound : run told ((equations_of boxes).equation (at_part 3 1)) ≡ Done (Int (pos 5)) []
unfolding equations_of superclasses_of line_of int_wrap
k_bound = refl

s_bound : run told ((equations_of boxes).equation (at_part 4 2)) ≡ Done (Text (codes "q")) []
unfolding equations_of superclasses_of line_of int_wrap
s_bound = refl

-- past the tree there is no node
no_node : class_at boxes (part 3) ≡ None
unfolding superclasses_of line_of
no_node = refl
