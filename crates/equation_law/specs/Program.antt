-- A program: a grammar with its rules, a source tree, and queries.
use Rattle.std.specs.Prelude.{◌≡◌, ℕ, suc, ◌≤◌, List, [], ◌∷◌, ◌++◌, Option, Some, None, length, map, slice_get, slice_index_or, ◌==◌, if◌then◌else◌}
use Rattle.std.specs.Option.{option_and_then, option_map}
use Rattle.ast_grammar.specs.declared.grammar.ClassId.{ClassId}
use Rattle.superclasses.specs.Superclasses.{is_sub}
use Rattle.ast_grammar.specs.Grammar.{Class, superclasses_of}
use Rattle.attr_rules.specs.declared.kinds.Attr.{Attr}
use Rattle.attr_rules.specs.declared.kinds.Kind.{Kind}
use Rattle.attr_rules.specs.Types.{parameter_kinds}
use Rattle.attr_rules.specs.Queries.{Query as Asked}
use Rattle.attr_rules.specs.Rules.{Attribute as DeclaredAttribute, Equation, RuleSet, equation_number}
use Rattle.attr_rules.specs.Typing.{Names}
use Rattle.tree_arena.specs.Nodes.{Node, class_in, count_in}
use Rattle.equation_law.specs.Created.{Making, making_in, tree_or_none}
use Rattle.equation_law.specs.Names.{Instance, Attribute, Query, At, Made, NodeName, Null, Reference, Source}

pub record Program : Type 0 where
  pub grammar : List Class
  pub rules : RuleSet
  pub tree : List Node
  pub texts : List (List ℕ)
  pub queries : List Asked

-- what is declared of an attribute, and the class of a source node, by their numbers
abbrev pub declared_of : Program → ℕ → Option Attr
declared_of p a = option_map (λ x. x.declared) (slice_get p.rules.attributes a)

abbrev pub class_of : Program → ℕ → Option ClassId
class_of p k = option_map (λ n. n.class) (slice_get p.tree k)

-- the equation of an attribute at nodes of a class: that of the nearest class, from this one upwards
abbrev pub equation_for : Program → ℕ → ClassId → Option Equation
equation_for p a c = option_and_then (slice_get p.rules.equations) (equation_number p.rules c a)

-- the `new` that this equation is, if it is one
abbrev pub making_at : Program → ℕ → ClassId → Option Making
making_at p a c = option_and_then (λ (e : Equation). making_in e.body) (equation_for p a c)

-- The class of a node, and the `new` by which an attribute makes a tree at a node. Which tree it is doesn't depend on the arguments.
abbrev mutual
  pub class_at : Program → NodeName → Option ClassId
  class_at p (Source k) = class_of p k
  class_at p (Made a r xs q) = class_in (tree_or_none (making_of p a r)) q

  pub making_of : Program → ℕ → Reference → Option Making
  making_of p a Null = None
  making_of p a (At n) = option_and_then (making_at p a) (class_at p n)

-- the nodes of the tree that an attribute makes at a node
abbrev pub tree_made : Program → ℕ → Reference → List Node
tree_made p a r = tree_or_none (making_of p a r)

-- the text of a number; that of a number that no text has is the empty one
abbrev pub text_of : Program → ℕ → List ℕ
text_of p n = slice_index_or p.texts n []

abbrev pub kinds_or_none : Option Attr → List Kind
kinds_or_none None = []
kinds_or_none (Some d) = parameter_kinds d.params

-- the types of an attribute's parameters
abbrev pub attribute_parameters : Program → ℕ → List Kind
attribute_parameters p a = kinds_or_none (declared_of p a)

-- what queries may name
abbrev pub names_in : Program → Names
names_in p = record { grammar = p.grammar; attribute = declared_of p; node = class_of p; this = class_of p 0; variables = [] }

-- the nodes of a class and of its subclasses, by their numbers, from the k-th on
abbrev pub nodes_of : List (Option ℕ) → List Node → ClassId → ℕ → List ℕ
nodes_of superclasses [] c k = []
nodes_of superclasses (n ∷ nodes) c k = if is_sub superclasses n.class.0 c.0 then k ∷ nodes_of superclasses nodes c (suc k) else nodes_of superclasses nodes c (suc k)

abbrev pub at_source : ℕ → ℕ → Instance
at_source a k = Attribute a (At (Source k)) []

-- attribute by attribute, from the a-th on, and in each by node; only attributes without parameters
abbrev pub attribute_instances : List (Option ℕ) → List DeclaredAttribute → ℕ → List Node → List Instance
attribute_instances superclasses [] a tree = []
attribute_instances superclasses (x ∷ attributes) a tree = (if x.declared.params.count == 0 then map (at_source a) (nodes_of superclasses tree x.declared.class 0) else []) ++ attribute_instances superclasses attributes (suc a) tree

-- the queries, from the q-th on
abbrev pub query_instances : List Asked → ℕ → List Instance
query_instances [] q = []
query_instances (e ∷ queries) q = Query q ∷ query_instances queries (suc q)

-- the instances of a program without arguments at its source nodes, and its queries
unfoldable pub source_instances : Program → List Instance
source_instances p = attribute_instances (superclasses_of p.grammar) p.rules.attributes 0 p.tree ++ query_instances p.queries 0

abbrev pub most_replies : ℕ
most_replies = 262144

-- nothing hangs at a number past the last node
abbrev pub HangsInside : List Node → Type 0
HangsInside nodes = (n k : ℕ) → length nodes ≤ n → count_in nodes n k ≡ 0
