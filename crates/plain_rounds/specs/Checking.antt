-- Names that are tested.
use Rattle.std.specs.Prelude.{◌≡◌, ◌↔◌, Bool, true, List, Option, Some, None}
use Rattle.ast_grammar.specs.declared.grammar.ClassId.{ClassId}
use Rattle.attr_rules.specs.declared.kinds.Kind.{Kind}
use Rattle.attr_rules.specs.declared.kinds.Kind.TheVariants as kinds
use Rattle.attr_rules.specs.declared.kinds.Params.{Params}
use Rattle.attr_rules.specs.Types.{parameter_kinds}
use Rattle.equation_law.specs.Checked.{AreArguments, IsInstance, IsNode, IsValue}
use Rattle.equation_law.specs.Names.{Argument, At, Attribute, Instance, NodeName, Null, Query, Reference}
use Rattle.equation_law.specs.Program.{Program}
use Rattle.equation_law.specs.Reading.{class_behind}
use Rattle.equation_law.specs.Values.{argument_value}

-- a node of the program
abbrev pub IsThere : Program → Reference → Type 0
IsThere p r = (n : NodeName) × (r ≡ At n) × IsNode p n

-- a node of the program and its class, or none
abbrev pub IsNodeWith : Program → Reference → Option ClassId → Type 0
IsNodeWith p r None = ¬ IsThere p r
IsNodeWith p r (Some c) = IsThere p r × (class_behind p r ≡ Some c)

-- the node at which an instance stands
abbrev pub owner_of : Instance → Reference
owner_of (Attribute a r xs) = r
owner_of (Query q) = Null

-- an instance of the program and the class of its node, or none
abbrev pub IsInstanceOf : Program → Instance → Option ClassId → Type 0
IsInstanceOf p i None = ¬ IsInstance p i
IsInstanceOf p i (Some c) = IsInstance p i × (class_behind p (owner_of i) ≡ Some c)

-- whether arguments are for these parameters
abbrev pub AreForRow : Program → Params → List Argument → Bool → Type 0
AreForRow p params xs are = (are ≡ true) ↔ AreArguments p (parameter_kinds params) xs

-- a type of nodes of a class, or another type or none
abbrev pub IsWanted : Option Kind → Option ClassId → Type 0
IsWanted k None = (c : ClassId) → k ≡ Some (kinds.Node c) → ⊥
IsWanted k (Some c) = k ≡ Some (kinds.Node c)

-- whether there is a parameter, and an argument is of its type
abbrev pub IsForKind : Program → Option Kind → Argument → Bool → Type 0
IsForKind p k x is = (is ≡ true) ↔ ((t : Kind) × (k ≡ Some t) × IsValue p t (argument_value x))
