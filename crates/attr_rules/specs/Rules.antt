-- The rules of a grammar: which attributes are declared, and which equation gives which attribute its value.
use Rattle.std.specs.Prelude.{◌≡◌, ℕ, ◌<◌, ◌≤◌, List, [], ◌∷◌, ◌++◌, Bool, true, false, ◌&&◌, ◌==◌, Option, Some, None, IsSome, All, map, length, position, slice_get}
use Rattle.std.specs.List.{flat_map}
use Rattle.std.specs.Option.{option_and_then, option_map, option_or}
use Rattle.std.specs.Str.{bytes_eq}
use Rattle.ast_grammar.specs.declared.grammar.ClassId.{ClassId}
use Rattle.superclasses.specs.Superclasses.{is_sub as is_below, upwards}
use Rattle.ast_grammar.specs.declared.grammar.Shape.{Shape}
use Rattle.ast_grammar.specs.declared.grammar.Shape.TheVariants as shapes
use Rattle.ast_grammar.specs.Grammar.{Class, Component, component_at, is_sub, superclasses_of}
use Rattle.attr_rules.specs.declared.dispatch.Reach.{Reach}
use Rattle.attr_rules.specs.declared.dispatch.Reach.TheVariants.{Own, Component as AtComponent, Created as AtCreated, Children}
use Rattle.attr_rules.specs.declared.dispatch.Via.{Via}
use Rattle.attr_rules.specs.declared.dispatch.Via.TheVariants.{Component as ByComponent, Created as ByCreated}
use Rattle.attr_rules.specs.declared.dispatch.Target.{Target}
use Rattle.attr_rules.specs.declared.kinds.AttrId.{AttrId}
use Rattle.attr_rules.specs.declared.kinds.Collecting.{Collecting}
use Rattle.attr_rules.specs.declared.kinds.EqId.{EqId}
use Rattle.attr_rules.specs.declared.kinds.Kind.{Kind}
use Rattle.attr_rules.specs.declared.kinds.Kind.TheVariants as kinds
use Rattle.attr_rules.specs.declared.kinds.Attr.{Attr}
use Rattle.attr_rules.specs.declared.kinds.Method.{Method}
use Rattle.attr_rules.specs.declared.kinds.Method.TheVariants as methods
use Rattle.attr_rules.specs.declared.kinds.Params.{Params}
use Rattle.attr_rules.specs.declared.kinds.Sort.{Sort}
use Rattle.attr_rules.specs.declared.kinds.Sort.TheVariants.{Syn, Inh, Nta, Coll}
use Rattle.attr_rules.specs.declared.kinds.Start.{Start}
use Rattle.attr_rules.specs.declared.kinds.Start.TheVariants.{Plain, False, Empty}
use Rattle.attr_rules.specs.declared.types.ValueType.{ValueType}
use Rattle.attr_rules.specs.Accessors.{is_spelled}
use Rattle.attr_rules.specs.Expression.{Expression, NewArguments, Truth, Int, Text, Null, Empty, This, Variable, Source, Child, Element, Count, Has, Token, Call, Cast, InstanceOf, Quantified, QuantifiedSet, Each, EachOfSet, Sets, Single, Contains, Size, Not, Negate, Binary, And, Or, OrBoth, If, New}
use Rattle.attr_rules.specs.Rising.{IsRising}
use Rattle.attr_rules.specs.WellMade.{IsWellMade}
use Rattle.attr_rules.specs.Types.{element_class, fits, kind_class, of_class, parameter_kinds}
use Rattle.attr_rules.specs.Typing.{HasType, IsConcrete, Makes, Names, nodes_made, tokens_made}

-- an attribute: its name, what is declared of it, and how it collects, where it is a collection
pub record Attribute : Type 0 where
  pub name : List ℕ
  pub declared : Attr
  pub collecting : Option Collecting

-- the attributes by number, among classes of which the superclasses count
pub record AttributeSet : Type 0 where
  pub superclasses : List (Option ℕ)
  pub attributes : List Attribute

-- an equation: of which class it is and which attribute it gives a value at which nodes, and its right side
pub record Equation : Type 0 where
  pub target : Target
  pub body : Expression

-- a contribution: the class at whose nodes it is read, the collection that it is for, its condition, which is `true` where none is written, the
-- receiver, at which it counts, and the value that is contributed
pub record Contribution : Type 0 where
  pub class : ClassId
  pub target : AttrId
  pub condition : Expression
  pub receiver : Expression
  pub value : Expression

-- the rules of a grammar, of which the superclasses count; contributions stand in the order of the file
pub record RuleSet : Type 0 where
  pub superclasses : List (Option ℕ)
  pub attributes : List Attribute
  pub equations : List Equation
  pub contributions : List Contribution

abbrev pub no_params : Params
no_params = record { count = 0; first = kinds.Truth; second = kinds.Truth; third = kinds.Truth }

-- what is declared of a synthesized attribute without parameters
abbrev pub plain_attribute : ClassId → Kind → Attr
plain_attribute class kind = record { class = class; sort = Syn; kind = kind; params = no_params; circular = false; start = Plain }

abbrev pub most_attributes : ℕ
most_attributes = 1024

abbrev pub most_parameters : ℕ
most_parameters = 3

-- the number of the attribute of this name that is declared for the class or a superclass
abbrev pub attribute_named : List (Option ℕ) → List Attribute → ClassId → List ℕ → Option ℕ
attribute_named superclasses attributes class name = position (λ a. is_below superclasses class.0 a.declared.class.0 && bytes_eq a.name name) attributes

-- what hangs at the component of this number
abbrev pub at_component : ℕ → Reach
at_component k = AtComponent (record { 0 = k })

-- what hangs by a component or a higher-order attribute
abbrev pub reach_via : Via → Reach
reach_via (ByComponent k) = AtComponent k
reach_via (ByCreated b) = AtCreated b

-- by the component of this number, and by the attribute of this number
abbrev pub by_component : ℕ → Via
by_component k = ByComponent (record { 0 = k })

abbrev pub by_created : ℕ → Via
by_created b = ByCreated (record { 0 = b })

-- two are the same
abbrev pub same_via : Via → Via → Bool
same_via (ByComponent j) (ByComponent k) = j.0 == k.0
same_via (ByComponent j) (ByCreated b) = false
same_via (ByCreated a) (ByComponent k) = false
same_via (ByCreated a) (ByCreated b) = a.0 == b.0

-- two are for the same nodes
abbrev pub same_reach : Reach → Reach → Bool
same_reach Own Own = true
same_reach Own (AtComponent k) = false
same_reach Own (AtCreated b) = false
same_reach Own Children = false
same_reach (AtComponent j) Own = false
same_reach (AtComponent j) (AtComponent k) = j.0 == k.0
same_reach (AtComponent j) (AtCreated b) = false
same_reach (AtComponent j) Children = false
same_reach (AtCreated a) Own = false
same_reach (AtCreated a) (AtComponent k) = false
same_reach (AtCreated a) (AtCreated b) = a.0 == b.0
same_reach (AtCreated a) Children = false
same_reach Children Own = false
same_reach Children (AtComponent k) = false
same_reach Children (AtCreated b) = false
same_reach Children Children = true

abbrev pub is_target : ℕ → Reach → ℕ → Target → Bool
is_target class r a t = same_reach t.reach r && ((t.class.0 == class) && (t.attribute.0 == a))

-- the equation of exactly this class for these nodes
abbrev pub equation_at : List Target → ℕ → Reach → ℕ → Option ℕ
equation_at targets class r a = position (is_target class r a) targets

-- the equation that gives an attribute its value at nodes of exactly this class
abbrev pub own_equation : List Target → ℕ → ℕ → Option ℕ
own_equation targets a class = equation_at targets class Own a

-- the equation of exactly this class that covers what hangs by a component or a higher-order attribute: one for just that comes before one for
-- every child
abbrev pub own_covering : List Target → Via → ℕ → ℕ → Option ℕ
own_covering targets v a class = option_or (equation_at targets class (reach_via v) a) (equation_at targets class Children a)

-- what the first of some classes that has something has
abbrev pub first_of_line : (ℕ → Option ℕ) → List ℕ → Option ℕ
first_of_line f [] = None
first_of_line f (c ∷ cs) = option_or (f c) (first_of_line f cs)

-- the equation of an attribute at nodes of a class: that of the nearest class, from this one upwards
abbrev pub nearest_equation : List (Option ℕ) → List Target → ℕ → ℕ → Option ℕ
nearest_equation superclasses targets class a = first_of_line (own_equation targets a) (upwards superclasses class)

-- the equation of an attribute that covers what hangs by something at nodes of a class: that of the nearest class, from this one upwards
abbrev pub covering_equation : List (Option ℕ) → List Target → ℕ → Via → ℕ → Option ℕ
covering_equation superclasses targets class v a = first_of_line (own_covering targets v a) (upwards superclasses class)

abbrev pub is_inherited : Sort → Bool
is_inherited Syn = false
is_inherited Inh = true
is_inherited Nta = false
is_inherited Coll = false

-- equations without a path give values to synthesized and to higher-order attributes
abbrev pub has_own_equations : Sort → Bool
has_own_equations Syn = true
has_own_equations Inh = false
has_own_equations Nta = true
has_own_equations Coll = false

-- the value is the root of a tree that the equation makes
abbrev pub is_higher_order : Sort → Bool
is_higher_order Syn = false
is_higher_order Inh = false
is_higher_order Nta = true
is_higher_order Coll = false

abbrev pub is_collection : Sort → Bool
is_collection Syn = false
is_collection Inh = false
is_collection Nta = false
is_collection Coll = true

-- the first inherited attribute of a name
abbrev pub first_inherited : List Attribute → List ℕ → Option ℕ
first_inherited attributes name = position (λ a. is_inherited a.declared.sort && bytes_eq a.name name) attributes

-- the first inherited attribute that has the name of the attribute of this number: equations with a path are for it, and so for all of its name
abbrev pub first_of_name : List Attribute → ℕ → Option ℕ
first_of_name attributes a = option_and_then (λ (x : Attribute). first_inherited attributes x.name) (slice_get attributes a)

abbrev pub target_in : Equation → Target
target_in e = e.target

abbrev pub equation_number : RuleSet → ClassId → ℕ → Option ℕ
equation_number rules class a = nearest_equation rules.superclasses (map target_in rules.equations) class.0 a

-- the equation that covers, for an inherited attribute, what hangs by a component or a higher-order attribute at nodes of a class
abbrev pub covering_number : RuleSet → ClassId → Via → ℕ → Option ℕ
covering_number rules class v a = option_and_then (covering_equation rules.superclasses (map target_in rules.equations) class.0 v) (first_of_name rules.attributes a)

abbrev pub declared_of : Attribute → Attr
declared_of a = a.declared

-- what is declared of the attribute of this number
abbrev pub declared_at : List Attribute → ℕ → Option Attr
declared_at attributes a = option_map declared_of (slice_get attributes a)

abbrev pub attribute_at : RuleSet → ℕ → Option Attr
attribute_at rules a = declared_at rules.attributes a

abbrev pub expression_in : Equation → Expression
expression_in e = e.body

-- the expressions of a contribution in the order in which they are evaluated
abbrev pub expressions_in : Contribution → List Expression
expressions_in c = c.condition ∷ c.receiver ∷ c.value ∷ []

-- the right sides of the equations, and behind them the expressions of the contributions
abbrev pub bodies : RuleSet → List Expression
bodies rules = map expression_in rules.equations ++ flat_map expressions_in rules.contributions

-- the expression of this number
abbrev pub body_at : RuleSet → ℕ → Option Expression
body_at rules e = slice_get (bodies rules) e

-- how the attribute of this number collects, where it is a collection
abbrev pub collecting_in : Attribute → Option Collecting
collecting_in a = a.collecting

abbrev pub collecting_at : List Attribute → ℕ → Option Collecting
collecting_at attributes a = option_and_then collecting_in (slice_get attributes a)

abbrev pub method_in : Collecting → Method
method_in c = c.method

abbrev pub root_in : Collecting → Option ClassId
root_in c = c.root

-- the method of a collection, and its root class, where one is written
abbrev pub method_at : RuleSet → ℕ → Option Method
method_at rules a = option_map method_in (collecting_at rules.attributes a)

abbrev pub root_at : RuleSet → ℕ → Option ClassId
root_at rules a = option_and_then root_in (collecting_at rules.attributes a)

abbrev pub number_of_attribute : AttrId → ℕ
number_of_attribute a = a.0

abbrev pub number_of_equation : EqId → ℕ
number_of_equation e = e.0

-- the type is no set
abbrev pub is_single : Kind → Bool
is_single kinds.Truth = true
is_single kinds.Int = true
is_single kinds.Text = true
is_single (kinds.Node c) = true
is_single kinds.Texts = false
is_single (kinds.Nodes c) = false

-- the types of an attribute's parameters
abbrev pub kinds_of : Option Attr → List Kind
kinds_of None = []
kinds_of (Some d) = parameter_kinds d.params

-- the types of what a path binds: over a component it is the place of the node among those that hang there, and over a higher-order attribute
-- its arguments
abbrev pub bound_kinds : List Attribute → Reach → List Kind
bound_kinds attributes Own = []
bound_kinds attributes (AtComponent k) = kinds.Int ∷ []
bound_kinds attributes (AtCreated b) = kinds_of (declared_at attributes b.0)
bound_kinds attributes Children = []

-- what an equation of a class may name: the parameters of the attribute, and then what its path binds
abbrev pub names_for : List Class → List Attribute → ClassId → Reach → Params → Names
names_for g attributes c r ps = record { grammar = g; attribute = declared_at attributes; node = λ k. None; this = Some c; variables = parameter_kinds ps ++ bound_kinds attributes r }

-- A type of a parameter: no set, and a class is one of the grammar.
pub record IsParameter (g : List Class) (k : Kind) : Type 0 where
  pub single : is_single k ≡ true
  pub class : (c : ClassId) → kind_class k ≡ Some c → c.0 < length g

-- An attribute of this sort may be circular: higher-order ones and collections aren't.
abbrev pub may_be_circular : Sort → Bool
may_be_circular Syn = true
may_be_circular Inh = true
may_be_circular Nta = false
may_be_circular Coll = false

-- where the rounds of a circular attribute of this type start
pub data IsStart : Kind → Start → Type 0 where
  truths : IsStart kinds.Truth False
  texts : IsStart kinds.Texts Empty
  nodes : (c : ClassId) → IsStart (kinds.Nodes c) Empty

-- the attribute is declared circular
abbrev pub declares_circular : Option Attr → Bool
declares_circular None = false
declares_circular (Some d) = d.circular

-- the attribute of this number is
abbrev pub circular_at : List Attribute → ℕ → Bool
circular_at attributes a = declares_circular (declared_at attributes a)

-- the types of which a method combines values
pub data Combines : Method → Kind → Type 0 where
  texts_by_one : Combines methods.Add kinds.Texts
  nodes_by_one : (c : ClassId) → Combines methods.Add (kinds.Nodes c)
  all_texts : Combines methods.AddAll kinds.Texts
  all_nodes : (c : ClassId) → Combines methods.AddAll (kinds.Nodes c)
  sums : Combines methods.Sum kinds.Int
  ors : Combines methods.Or kinds.Truth
  ands : Combines methods.And kinds.Truth

-- the type of the elements of a set; what is no set counts as its own element
abbrev pub element_or_same : Kind → Kind
element_or_same kinds.Truth = kinds.Truth
element_or_same kinds.Int = kinds.Int
element_or_same kinds.Text = kinds.Text
element_or_same (kinds.Node c) = kinds.Node c
element_or_same kinds.Texts = kinds.Text
element_or_same (kinds.Nodes c) = kinds.Node c

-- the type that a value has to fit which is contributed to a collection of this type: `add` adds one element
abbrev pub contributed : Method → Kind → Kind
contributed methods.Add k = element_or_same k
contributed methods.AddAll k = k
contributed methods.Sum k = k
contributed methods.Or k = k
contributed methods.And k = k

-- A collection collects by a method that combines values of its type, and its root class is one of the grammar. It has no parameters.
pub record IsCollection (g : List Class) (d : Attr) (c : Collecting) : Type 0 where
  pub collection : is_collection d.sort ≡ true
  pub combines : Combines c.method d.kind
  pub known : (r : ClassId) → c.root ≡ Some r → r.0 < length g
  pub params : d.params ≡ no_params

-- collections collect, and no other attributes do
abbrev pub Collects : List Class → Attr → Option Collecting → Type 0
Collects g d None = is_collection d.sort ≡ false
Collects g d (Some c) = IsCollection g d c

-- An attribute of a class of the grammar, whose type speaks of classes of the grammar. A circular one is of a type that has a value at which its
-- rounds start, and a higher-order one is of a class.
pub record IsAttribute (g : List Class) (x : Attribute) : Type 0 where
  pub within : x.declared.class.0 < length g
  pub class : (c : ClassId) → kind_class x.declared.kind ≡ Some c → c.0 < length g
  pub elements : (c : ClassId) → element_class x.declared.kind ≡ Some c → c.0 < length g
  pub few : x.declared.params.count ≤ most_parameters
  pub parameters : All (IsParameter g) (parameter_kinds x.declared.params)
  pub circular : x.declared.circular ≡ true → (may_be_circular x.declared.sort ≡ true) × IsStart x.declared.kind x.declared.start
  pub plain : x.declared.circular ≡ false → x.declared.start ≡ Plain
  pub collects : Collects g x.declared x.collecting
  pub created : is_higher_order x.declared.sort ≡ true → IsSome (kind_class x.declared.kind)

-- An equation without a path gives a value to a synthesized or higher-order attribute that its class has, one with a path to inherited ones of
-- any class.
abbrev pub GivesValue : List Class → ClassId → Reach → Attr → Type 0
GivesValue g c Own d = (is_sub g c.0 d.class.0 ≡ true) × (has_own_equations d.sort ≡ true)
GivesValue g c (AtComponent k) d = is_inherited d.sort ≡ true
GivesValue g c (AtCreated b) d = is_inherited d.sort ≡ true
GivesValue g c Children d = is_inherited d.sort ≡ true

-- an expression that is well typed and fits a type
pub record IsOf (N : Names) (wanted : Kind) (e : Expression) : Type 0 where
  pub type : ValueType
  pub typed : HasType N e type
  pub fit : fits N.grammar type wanted ≡ true

-- a tree that is made has at most so many nodes, and so many token values
abbrev pub most_created : ℕ
most_created = 16

-- A `new` of a class that fits a type; the tree is no larger than one may be.
pub record IsCreated (N : Names) (wanted : Kind) (e : Expression) : Type 0 where
  pub class : ClassId
  pub arguments : NewArguments
  pub is : e ≡ New class arguments
  pub makes : Makes N class arguments
  pub fit : fits N.grammar (of_class class) wanted ≡ true
  pub nodes : nodes_made arguments ≤ most_created
  pub tokens : tokens_made arguments ≤ most_created

-- the right side of an equation of an attribute of this sort, whose type is wanted: that of a higher-order one is a `new`
abbrev pub IsBody : Names → Sort → Kind → Expression → Type 0
IsBody N Syn = IsOf N
IsBody N Inh = IsOf N
IsBody N Nta = IsCreated N
IsBody N Coll = IsOf N

-- An equation: its right side is well typed and fits the attribute.
pub record IsEquation (g : List Class) (attributes : List Attribute) (e : Equation) : Type 0 where
  pub within : e.target.class.0 < length g
  pub attribute : Attr
  pub declared : declared_at attributes e.target.attribute.0 ≡ Some attribute
  pub gives : GivesValue g e.target.class e.target.reach attribute
  pub body : IsBody (names_for g attributes e.target.class e.target.reach attribute.params) attribute.sort attribute.kind e.body

-- what a contribution of a class may name: the node at which it is read, and no variable
abbrev pub contribution_names : List Class → List Attribute → ClassId → Names
contribution_names g attributes c = record { grammar = g; attribute = declared_at attributes; node = λ k. None; this = Some c; variables = [] }

-- A contribution of a class of the grammar to a collection: its condition is a truth value, its receiver fits the class of the collection, and its
-- value what is contributed.
pub record IsContribution (g : List Class) (attributes : List Attribute) (c : Contribution) : Type 0 where
  pub within : c.class.0 < length g
  pub attribute : Attr
  pub declared : declared_at attributes c.target.0 ≡ Some attribute
  pub collecting : Collecting
  pub collects : collecting_at attributes c.target.0 ≡ Some collecting
  pub condition : IsOf (contribution_names g attributes c.class) kinds.Truth c.condition
  pub receiver : IsOf (contribution_names g attributes c.class) (kinds.Node attribute.class) c.receiver
  pub value : IsOf (contribution_names g attributes c.class) (contributed collecting.method attribute.kind) c.value

-- nodes may hang at a component of this shape
abbrev pub is_for_nodes : Shape → Bool
is_for_nodes shapes.Child = true
is_for_nodes shapes.List = true
is_for_nodes shapes.Optional = true
is_for_nodes shapes.Text = false
is_for_nodes shapes.Int = false
is_for_nodes shapes.Truth = false

-- the class of the root that a right side makes, where it is a `new`
abbrev pub created_class : Expression → Option ClassId
created_class (Truth b) = None
created_class (Int z) = None
created_class (Text n) = None
created_class Null = None
created_class Empty = None
created_class This = None
created_class (Variable k) = None
created_class (Source k) = None
created_class (Child k e) = None
created_class (Element k e i) = None
created_class (Count k e) = None
created_class (Has k e) = None
created_class (Token t k e) = None
created_class (Call a at e es) = None
created_class (Cast c e) = None
created_class (InstanceOf c e) = None
created_class (Quantified q k e b) = None
created_class (QuantifiedSet q e b) = None
created_class (Each t k e b) = None
created_class (EachOfSet t e b) = None
created_class (Sets o t a b) = None
created_class (Single e) = None
created_class (Contains a b) = None
created_class (Size e) = None
created_class (Not e) = None
created_class (Negate e) = None
created_class (Binary o a b) = None
created_class (And a b) = None
created_class (Or a b) = None
created_class (OrBoth a b) = None
created_class (If c a at b) = None
created_class (New c parts) = Some c

abbrev pub class_made : Equation → Option ClassId
class_made e = created_class e.body

-- the class of the root that an attribute makes at nodes of a class: by the equation that holds there
abbrev pub root_made : RuleSet → ClassId → ℕ → Option ClassId
root_made rules class b = option_and_then class_made (option_and_then (slice_get rules.equations) (equation_number rules class b))

-- A class of which there can be a node at which no equation gives a value to an inherited attribute, were it declared there: the root may be of
-- such a class, and so may what hangs at a component that no equation covers, of a node of such a class, and the root that a higher-order
-- attribute makes there, unless an equation covers the attribute.
pub data Uncovered (g : List Class) (r : RuleSet) (a : ℕ) : ℕ → Type 0 where
  root : {c : ℕ} → IsConcrete g c → is_sub g c 0 ≡ true → Uncovered g r a c
  below : {p c : ℕ} (k : ℕ) (x : Component) → Uncovered g r a p → component_at g p k ≡ Some x → is_for_nodes x.shape ≡ true → covering_number r (record { 0 = p }) (by_component k) a ≡ None
      → IsConcrete g c → is_sub g c x.class.0 ≡ true → Uncovered g r a c
  created : {p : ℕ} (b : ℕ) (d : Attr) (t : ClassId) → Uncovered g r a p → attribute_at r b ≡ Some d → is_higher_order d.sort ≡ true → is_sub g p d.class.0 ≡ true → root_made r (record { 0 = p }) b ≡ Some t → t.0 < length g
      → covering_number r (record { 0 = p }) (by_created b) a ≡ None → Uncovered g r a t.0

-- Rules of a grammar that break nothing: each equation is well typed and the only one of its class for its attribute and its reach, each concrete
-- class has an equation for each of its synthesized and higher-order attributes, the inherited ones of one name are of one type and circular or not
-- alike, and none of them can be met uncovered. Each contribution is well typed. A name means one thing at a class: one attribute, or accessors.
pub record AreRules (g : List Class) (r : RuleSet) : Type 0 where
  pub superclasses : r.superclasses ≡ superclasses_of g
  pub few : length r.attributes ≤ most_attributes
  pub attributes : All (IsAttribute g) r.attributes
  pub equations : All (IsEquation g r.attributes) r.equations
  pub contributions : All (IsContribution g r.attributes) r.contributions
  pub one_equation : (i j : ℕ) (e f : Equation) → slice_get r.equations i ≡ Some e → slice_get r.equations j ≡ Some f → e.target ≡ f.target → i ≡ j
  pub one_attribute : (a b : ℕ) (x y : Attribute) → slice_get r.attributes a ≡ Some x → slice_get r.attributes b ≡ Some y → x.name ≡ y.name → is_sub g x.declared.class.0 y.declared.class.0 ≡ true → a ≡ b
  pub no_accessor : (a c : ℕ) (x : Attribute) → slice_get r.attributes a ≡ Some x → c < length g → is_sub g c x.declared.class.0 ≡ true → is_spelled g c x.name ≡ false
  pub complete : (c : ClassId) (a : ℕ) (d : Attr) → IsConcrete g c.0 → attribute_at r a ≡ Some d → has_own_equations d.sort ≡ true → is_sub g c.0 d.class.0 ≡ true → IsSome (equation_number r c a)
  pub alike : (a b : ℕ) (d e : Attr) → attribute_at r a ≡ Some d → is_inherited d.sort ≡ true → first_of_name r.attributes a ≡ Some b → attribute_at r b ≡ Some e → (d.kind ≡ e.kind) × (d.params ≡ e.params) × (d.circular ≡ e.circular)
  pub covered : (c : ClassId) (a : ℕ) (d : Attr) → attribute_at r a ≡ Some d → is_inherited d.sort ≡ true → IsConcrete g c.0 → is_sub g c.0 d.class.0 ≡ true → Uncovered g r a c.0 → ⊥

-- the right side of an equation of a circular attribute rises
abbrev pub Rises : List Attribute → Equation → Type 0
Rises attributes e = circular_at attributes e.target.attribute.0 ≡ true → IsRising (circular_at attributes) e.body

-- the equations of circular attributes rise
abbrev pub EquationsRise : RuleSet → Type 0
EquationsRise r = All (Rises r.attributes) r.equations

-- the calls that count in the equation of an attribute: those of circular attributes, where it is circular itself
abbrev pub counting_calls : List Attribute → ℕ → ℕ → Bool
counting_calls attributes a b = circular_at attributes a && circular_at attributes b

-- The right side of an equation says which sides of `||` are always evaluated, and where else parts stand. For an attribute that isn't circular
-- no `||` always evaluates both.
abbrev pub MadeWell : List Attribute → Equation → Type 0
MadeWell attributes e = IsWellMade (counting_calls attributes e.target.attribute.0) e.body

-- all equations do
abbrev pub EquationsMadeWell : RuleSet → Type 0
EquationsMadeWell r = All (MadeWell r.attributes) r.equations

-- no call counts
abbrev pub no_calls : ℕ → Bool
no_calls a = false

-- So do the expressions of a contribution, in which no `||` always evaluates both sides.
abbrev pub ContributionMadeWell : Contribution → Type 0
ContributionMadeWell c = All (IsWellMade no_calls) (expressions_in c)

abbrev pub ContributionsMadeWell : RuleSet → Type 0
ContributionsMadeWell r = All ContributionMadeWell r.contributions
