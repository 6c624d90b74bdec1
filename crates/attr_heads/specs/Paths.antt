-- Where the path of an equation leads, what an equation may name, and the rules on paths: J9 and J15.
use Rattle.std.specs.Prelude.{ℕ, List, [], ◌∷◌, ◌++◌, Bool, true, false, Option, Some, None, codes, map, if◌then◌else◌}
use Rattle.std.specs.Option.{option_and_then, option_map, option_or}
use Rattle.std.specs.Str.{bytes_eq}
use Rattle.broken_rules.specs.declared.broken.Broken.{Broken}
use Rattle.broken_rules.specs.declared.rule.Rule.TheVariants.{J9, J15}
use Rattle.broken_rules.specs.Notes.{at, broken_if}
use Rattle.ast_grammar.specs.declared.grammar.Shape.{Shape}
use Rattle.ast_grammar.specs.declared.grammar.Shape.TheVariants as shapes
use Rattle.ast_grammar.specs.Grammar.{Class, Component, component_at, component_named}
use Rattle.attr_rules.specs.declared.dispatch.Reach.{Reach}
use Rattle.attr_rules.specs.declared.dispatch.Reach.TheVariants.{Own, Component as AtComponent, Created as AtCreated, Children}
use Rattle.attr_rules.specs.declared.kinds.Kind.{Kind}
use Rattle.attr_rules.specs.declared.kinds.Kind.TheVariants as kinds
use Rattle.attr_rules.specs.Accessors.{behind}
use Rattle.attr_rules.specs.Rules.{Attribute, at_component, bound_kinds, declared_at, is_for_nodes, kinds_of}
use Rattle.attr_rules.specs.declared.types.ValueType.TheVariants as types
use Rattle.aspect_items.specs.Items.{Parameter, Signature}
use Rattle.attr_heads.specs.Created.{created_attribute}
use Rattle.attr_heads.specs.Parameters.{differ, parameter_type, path_parameters}
use Rattle.attr_scope.specs.Scope.{Variable}

-- the number of a component at which nodes may hang
abbrev pub if_for_nodes : ℕ → Component → Option ℕ
if_for_nodes k x = if is_for_nodes x.shape then Some k else None

-- the component of this number, or of this name, where nodes may hang at it
abbrev pub node_component : List Class → ℕ → ℕ → Option ℕ
node_component g c k = option_and_then (if_for_nodes k) (component_at g c k)

abbrev pub node_component_named : List Class → ℕ → List ℕ → Option ℕ
node_component_named g c x = option_and_then (node_component g c) (component_named g c x)

-- the component that `getX` names
abbrev pub component_behind : List Class → ℕ → List ℕ → Option ℕ
component_behind g c name = option_and_then (node_component_named g c) (behind (codes "get") name)

-- what the attribute of this number makes
abbrev pub at_created : ℕ → Reach
at_created b = AtCreated (record { 0 = b })

-- `getX()` leads from nodes of a class to what hangs at the component X, the name of a higher-order attribute of the class to the roots of the trees
-- that it makes, and `getChild()` to whatever hangs at the nodes by either
abbrev pub reach_named : List Class → List Attribute → ℕ → List ℕ → Option Reach
reach_named g attributes c name =
    if bytes_eq name (codes "getChild") then Some Children
    else option_or (option_map at_component (component_behind g c name)) (option_map at_created (created_attribute g attributes name c))

-- an equation without a path is for the nodes of the class
abbrev pub reach_of : List Class → List Attribute → Option ℕ → Option Signature → Option Reach
reach_of g attributes c None = Some Own
reach_of g attributes c (Some p) = option_and_then (λ d. reach_named g attributes d p.name.text) c

abbrev pub is_list_shape : Shape → Bool
is_list_shape shapes.Child = false
is_list_shape shapes.List = true
is_list_shape shapes.Optional = false
is_list_shape shapes.Text = false
is_list_shape shapes.Int = false
is_list_shape shapes.Truth = false

abbrev pub is_list_component : Option Component → Bool
is_list_component None = false
is_list_component (Some x) = is_list_shape x.shape

-- the types of the parameters of a path, where it has any: over a list it is the index, and over a higher-order attribute they are those of the
-- attribute
abbrev pub path_kinds : List Class → List Attribute → ℕ → Reach → List Kind
path_kinds g attributes c Own = []
path_kinds g attributes c (AtComponent k) = if is_list_component (component_at g c k.0) then kinds.Int ∷ [] else []
path_kinds g attributes c (AtCreated b) = kinds_of (declared_at attributes b.0)
path_kinds g attributes c Children = []

-- what is bound under a name, of this type
abbrev pub bound_as : List ℕ → Kind → Variable
bound_as name k = record { name = name; type = Some (types.Of k) }

-- what is bound, of these types, under the names of parameters; where there is none, under the empty name, which is no name in an expression
abbrev pub bound_by : List Kind → List Parameter → List Variable
bound_by [] ps = []
bound_by (k ∷ ks) [] = bound_as [] k ∷ bound_by ks []
bound_by (k ∷ ks) (p ∷ ps) = bound_as p.name.text k ∷ bound_by ks ps

-- what a path binds: over a component the place of the node among those that hang there, and over a higher-order attribute its arguments
abbrev pub bound_names : List Attribute → Option Signature → Reach → List Variable
bound_names attributes p r = bound_by (bound_kinds attributes r) (path_parameters p)

-- a parameter, of the type that it has, where that is known
abbrev pub parameter_named : List Class → Parameter → Variable
parameter_named g p = record { name = p.name.text; type = option_map types.Of (parameter_type g p) }

-- what an equation may name: the parameters of the attribute, and behind them what its path binds
abbrev pub equation_names : List Class → List Attribute → Signature → Option Signature → Reach → List Variable
equation_names g attributes s p r = map (parameter_named g) s.parameters ++ bound_names attributes p r

-- parameters other than none, and than those of these types
abbrev pub are_other : List Class → List Kind → List Parameter → Bool
are_other g ks [] = false
are_other g ks (p ∷ ps) = differ g (map Some ks) (p ∷ ps)

-- J9: the path leads nowhere. J15: it has other parameters
abbrev pub reach_broken : List Class → List Attribute → ℕ → Signature → Option Reach → List Broken
reach_broken g attributes c p None = at p.name.place J9 ∷ []
reach_broken g attributes c p (Some r) = broken_if (are_other g (path_kinds g attributes c r) p.parameters) (at p.name.place J15)

-- the same where the class is known
abbrev pub way_broken : List Class → List Attribute → Option ℕ → Signature → List Broken
way_broken g attributes None p = []
way_broken g attributes (Some c) p = reach_broken g attributes c p (reach_named g attributes c p.name.text)

-- what the path of an equation of a class breaks
abbrev pub path_broken : List Class → List Attribute → Option ℕ → Option Signature → List Broken
path_broken g attributes c None = []
path_broken g attributes c (Some p) = way_broken g attributes c p
