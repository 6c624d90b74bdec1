-- Inherited attributes of small programs, computed: `Program ::= Block; Block ::= Stmt*; Stmt;` with the tree `Program(Block([Stmt(), Stmt()]))`.
use Rattle.std.proofs.Common.{◌≡◌, ℕ, pos, false, List, [], ◌∷◌, Option, Some, None, codes, refl}
use Rattle.std.specs.Int.{int_wrap}
use Rattle.superclasses.specs.Superclasses.{line_of}
use Rattle.ast_grammar.specs.declared.grammar.Shape.TheVariants as shapes
use Rattle.ast_grammar.specs.Grammar.{Class, superclasses_of}
use Rattle.tree_arena.specs.Nodes.{Node as TreeNode}
use Rattle.attr_rules.specs.declared.dispatch.Reach.{Reach}
use Rattle.attr_rules.specs.declared.dispatch.Reach.TheVariants.{Children}
use Rattle.attr_rules.specs.declared.expression.Operator.TheVariants.{Add}
use Rattle.attr_rules.specs.declared.kinds.Kind.TheVariants as kinds
use Rattle.attr_rules.specs.declared.kinds.Sort.TheVariants.{Inh}
use Rattle.attr_rules.specs.declared.kinds.Start.TheVariants.{Plain}
use Rattle.attr_rules.specs.Expression.{Binary, Expression, Int as IntLiteral, Variable}
use Rattle.attr_rules.specs.Rules.{Attribute, Equation, Uncovered, at_component, below, no_params, root}
use Rattle.equation_law.specs.Equations.{InstanceEquation, OfSite, equation_of}
use Rattle.equation_law.specs.Names.{At, Instance, Source, made_by}
use Rattle.equation_law.specs.Program.{Program, at_source}
use Rattle.equation_law.specs.Values.{Int, Value}

abbrev classes : List Class
classes =
    record { name = codes "Program"; abstract = false; superclass = None; components = record { name = codes "Block"; number = 0; shape = shapes.Child; class = record { 0 = 1 } } ∷ [] } ∷
    record { name = codes "Block"; abstract = false; superclass = None; components = record { name = codes "Stmt"; number = 1; shape = shapes.List; class = record { 0 = 2 } } ∷ [] } ∷
    record { name = codes "Stmt"; abstract = false; superclass = None; components = [] } ∷
    []

abbrev tree : List TreeNode
tree =
    record { class = record { 0 = 0 }; parent = 0; component = 0; tokens = 0 ∷ [] } ∷
    record { class = record { 0 = 1 }; parent = 0; component = 0; tokens = 0 ∷ [] } ∷
    record { class = record { 0 = 2 }; parent = 1; component = 0; tokens = [] } ∷
    record { class = record { 0 = 2 }; parent = 1; component = 0; tokens = [] } ∷
    []

-- `inh int C.depth()` for a class
abbrev depth : ℕ → Attribute
depth c = record { name = codes "depth"; declared = record { class = record { 0 = c }; sort = Inh; kind = kinds.Int; params = no_params; circular = false; start = Plain }; collecting = None }

-- an equation of a class for the first attribute
abbrev at_children : ℕ → Reach → Expression → Equation
at_children c r e = record { target = record { class = record { 0 = c }; reach = r; attribute = record { 0 = 0 } }; body = e }

-- `eq Program.getChild().depth() = 1`, `eq Block.getStmt(int i).depth() = i + 10` and `eq Block.getChild().depth() = 2`
abbrev of_program : Equation
of_program = at_children 0 Children (IntLiteral (pos 1))

abbrev of_statements : Equation
of_statements = at_children 1 (at_component 0) (Binary Add (Variable 0) (IntLiteral (pos 10)))

abbrev of_block : Equation
of_block = at_children 1 Children (IntLiteral (pos 2))

abbrev program : List Equation → Program
program equations = record {
  grammar = classes;
  rules = record { superclasses = superclasses_of classes; attributes = depth 2 ∷ depth 1 ∷ []; equations = equations; contributions = [] };
  tree = tree;
  texts = [] ∷ [];
  queries = [];
}

-- an expression that is read for an instance at a source node, with these names
abbrev read : Instance → Expression → ℕ → List Value → Option InstanceEquation
read i e k names = Some (OfSite (record { body = e; kind = kinds.Int; place = record { this = At (Source k); names = names }; root = made_by i 0 }))

-- the closest ancestor decides, and the path binds the place in its list
closest : equation_of (program (of_program ∷ of_statements ∷ [])) (at_source 0 3) ≡ read (at_source 0 3) (Binary Add (Variable 0) (IntLiteral (pos 10))) 1 (Int (pos 1) ∷ [])
unfolding superclasses_of line_of int_wrap
closest = refl

-- at one ancestor an equation for the component comes before one for every child, wherever they stand
component_first : equation_of (program (of_block ∷ of_statements ∷ [])) (at_source 0 2) ≡ read (at_source 0 2) (Binary Add (Variable 0) (IntLiteral (pos 10))) 1 (Int (pos 0) ∷ [])
unfolding superclasses_of line_of int_wrap
component_first = refl

-- a closer ancestor with an equation for every child comes before one further up
every_child : equation_of (program (of_program ∷ of_block ∷ [])) (at_source 0 2) ≡ read (at_source 0 2) (IntLiteral (pos 2)) 1 []
unfolding superclasses_of line_of
every_child = refl

-- what covers the way at an ancestor further up
further_up : equation_of (program (of_program ∷ [])) (at_source 0 2) ≡ read (at_source 0 2) (IntLiteral (pos 1)) 0 []
unfolding superclasses_of line_of
further_up = refl

-- one equation serves each attribute of the name
other_class : equation_of (program (of_program ∷ [])) (at_source 1 1) ≡ read (at_source 1 1) (IntLiteral (pos 1)) 0 []
unfolding superclasses_of line_of
other_class = refl

-- where nothing covers the way there is none, as at the root
nothing_covers : equation_of (program (of_statements ∷ [])) (at_source 1 1) ≡ None
unfolding superclasses_of line_of
nothing_covers = refl

at_root : equation_of (program (of_program ∷ [])) (at_source 0 0) ≡ None
at_root = refl

-- and then the class is uncovered
block_uncovered : Uncovered classes (record { superclasses = superclasses_of classes; attributes = depth 2 ∷ depth 1 ∷ []; equations = of_statements ∷ []; contributions = [] }) 1 1
unfolding superclasses_of line_of
block_uncovered = below {p = 0} 0 (record { name = codes "Block"; number = 0; shape = shapes.Child; class = record { 0 = 1 } }) (root refl refl) refl refl refl refl refl
