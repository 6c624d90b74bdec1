-- Types of what expressions say, and which of them fit where.
use Rattle.std.specs.Prelude.{ℕ, List, [], ◌∷◌, take, Bool, true, false, ◌&&◌, ◌||◌, Option, Some, None, if◌then◌else◌}
use Rattle.std.specs.Option.{option_map}
use Rattle.superclasses.specs.Superclasses.{nearest_common}
use Rattle.ast_grammar.specs.declared.grammar.ClassId.{ClassId}
use Rattle.ast_grammar.specs.Grammar.{Class, is_sub, superclasses_of}
use Rattle.attr_rules.specs.declared.kinds.Kind.{Kind}
use Rattle.attr_rules.specs.declared.kinds.Params.{Params}
use Rattle.attr_rules.specs.declared.kinds.Kind.TheVariants as kinds
use Rattle.attr_rules.specs.declared.types.ValueType.{ValueType}
use Rattle.attr_rules.specs.declared.types.ValueType.TheVariants as types

abbrev pub of_class : ClassId → ValueType
of_class c = types.Of (kinds.Node c)

abbrev pub truth_kind : Kind → Bool
truth_kind kinds.Truth = true
truth_kind kinds.Int = false
truth_kind kinds.Text = false
truth_kind (kinds.Node c) = false
truth_kind kinds.Texts = false
truth_kind (kinds.Nodes c) = false

abbrev pub int_kind : Kind → Bool
int_kind kinds.Truth = false
int_kind kinds.Int = true
int_kind kinds.Text = false
int_kind (kinds.Node c) = false
int_kind kinds.Texts = false
int_kind (kinds.Nodes c) = false

abbrev pub text_kind : Kind → Bool
text_kind kinds.Truth = false
text_kind kinds.Int = false
text_kind kinds.Text = true
text_kind (kinds.Node c) = false
text_kind kinds.Texts = false
text_kind (kinds.Nodes c) = false

abbrev pub texts_kind : Kind → Bool
texts_kind kinds.Truth = false
texts_kind kinds.Int = false
texts_kind kinds.Text = false
texts_kind (kinds.Node c) = false
texts_kind kinds.Texts = true
texts_kind (kinds.Nodes c) = false

-- the types of the parameters, which are at most three
abbrev pub parameter_kinds : Params → List Kind
parameter_kinds p = take p.count (p.first ∷ p.second ∷ p.third ∷ [])

-- the class of a type that is one
abbrev pub kind_class : Kind → Option ClassId
kind_class kinds.Truth = None
kind_class kinds.Int = None
kind_class kinds.Text = None
kind_class (kinds.Node c) = Some c
kind_class kinds.Texts = None
kind_class (kinds.Nodes c) = None

-- the class of the elements of a set of nodes
abbrev pub element_class : Kind → Option ClassId
element_class kinds.Truth = None
element_class kinds.Int = None
element_class kinds.Text = None
element_class (kinds.Node c) = None
element_class kinds.Texts = None
element_class (kinds.Nodes c) = Some c

abbrev pub is_truth : ValueType → Bool
is_truth types.Null = false
is_truth types.Empty = false
is_truth (types.Of k) = truth_kind k

abbrev pub is_int : ValueType → Bool
is_int types.Null = false
is_int types.Empty = false
is_int (types.Of k) = int_kind k

abbrev pub is_text : ValueType → Bool
is_text types.Null = false
is_text types.Empty = false
is_text (types.Of k) = text_kind k

-- the class of a type that is one; the types of `null` and `empty` are none
abbrev pub class_in : ValueType → Option ClassId
class_in types.Null = None
class_in types.Empty = None
class_in (types.Of k) = kind_class k

abbrev pub is_some_class : Option ClassId → Bool
is_some_class None = false
is_some_class (Some c) = true

-- a node of some class, or `null`
abbrev pub is_node : ValueType → Bool
is_node types.Null = true
is_node types.Empty = false
is_node (types.Of k) = is_some_class (kind_class k)

-- a set of texts; that of `empty` may be one
abbrev pub is_texts : ValueType → Bool
is_texts types.Null = false
is_texts types.Empty = true
is_texts (types.Of k) = texts_kind k

-- a set of nodes; that of `empty` may be one
abbrev pub is_nodes : ValueType → Bool
is_nodes types.Null = false
is_nodes types.Empty = true
is_nodes (types.Of k) = is_some_class (element_class k)

abbrev pub is_set : ValueType → Bool
is_set t = is_texts t || is_nodes t

-- the type of the elements of a set; that of `empty` has none
abbrev pub element_kind : Kind → Option Kind
element_kind kinds.Truth = None
element_kind kinds.Int = None
element_kind kinds.Text = None
element_kind (kinds.Node c) = None
element_kind kinds.Texts = Some kinds.Text
element_kind (kinds.Nodes c) = Some (kinds.Node c)

abbrev pub elements_of : ValueType → Option Kind
elements_of types.Null = None
elements_of types.Empty = None
elements_of (types.Of k) = element_kind k

-- the set of one element of a type: texts and nodes have sets
abbrev pub set_kind : Kind → Option Kind
set_kind kinds.Truth = None
set_kind kinds.Int = None
set_kind kinds.Text = Some kinds.Texts
set_kind (kinds.Node c) = Some (kinds.Nodes c)
set_kind kinds.Texts = None
set_kind (kinds.Nodes c) = None

-- that of `null` is empty
abbrev pub set_of : ValueType → Option ValueType
set_of types.Null = Some types.Empty
set_of types.Empty = None
set_of (types.Of k) = option_map types.Of (set_kind k)

-- a class below another, or the same
abbrev pub is_below : List Class → Option ClassId → ClassId → Bool
is_below g None d = false
is_below g (Some c) d = is_sub g c.0 d.0

-- `null` fits every class, and a class each one above it
abbrev pub fits_class : List Class → ValueType → ClassId → Bool
fits_class g types.Null d = true
fits_class g types.Empty d = false
fits_class g (types.Of k) d = is_below g (kind_class k) d

-- `empty` fits every set, and a set of nodes each one of a class above
abbrev pub fits_nodes : List Class → ValueType → ClassId → Bool
fits_nodes g types.Null d = false
fits_nodes g types.Empty d = true
fits_nodes g (types.Of k) d = is_below g (element_class k) d

-- a value of the type may stand where one of the second is wanted
abbrev pub fits : List Class → ValueType → Kind → Bool
fits g t kinds.Truth = is_truth t
fits g t kinds.Int = is_int t
fits g t kinds.Text = is_text t
fits g t (kinds.Node d) = fits_class g t d
fits g t kinds.Texts = is_texts t
fits g t (kinds.Nodes d) = fits_nodes g t d

-- a value of the second type may be an element of a set of the first; of `empty`, a text or a node
abbrev pub may_be_element : List Class → ValueType → ValueType → Bool
may_be_element g types.Null u = false
may_be_element g types.Empty u = is_text u || is_node u
may_be_element g (types.Of kinds.Truth) u = false
may_be_element g (types.Of kinds.Int) u = false
may_be_element g (types.Of kinds.Text) u = false
may_be_element g (types.Of (kinds.Node c)) u = false
may_be_element g (types.Of kinds.Texts) u = is_text u
may_be_element g (types.Of (kinds.Nodes c)) u = fits_class g u c

-- two truth values, integers, texts or nodes can be compared
abbrev pub comparable : ValueType → ValueType → Bool
comparable t u = (is_truth t && is_truth u) || ((is_int t && is_int u) || ((is_text t && is_text u) || (is_node t && is_node u)))

abbrev pub type_where : Bool → ValueType → Option ValueType
type_where b t = if b then Some t else None

abbrev pub class_of_number : ℕ → ValueType
class_of_number k = of_class (record { 0 = k })

-- the nearest common superclass of a class and another
abbrev pub common_class : List Class → ClassId → Option ClassId → Option ValueType
common_class g c None = None
common_class g c (Some d) = option_map class_of_number (nearest_common (superclasses_of g) c.0 d.0)

-- of a class and a second type; `null` fits every class
abbrev pub common_node : List Class → ClassId → ValueType → Option ValueType
common_node g c types.Null = Some (of_class c)
common_node g c types.Empty = None
common_node g c (types.Of k) = common_class g c (kind_class k)

abbrev pub of_nodes : ClassId → ValueType
of_nodes c = types.Of (kinds.Nodes c)

abbrev pub nodes_of_number : ℕ → ValueType
nodes_of_number k = of_nodes (record { 0 = k })

abbrev pub common_element : List Class → ClassId → Option ClassId → Option ValueType
common_element g c None = None
common_element g c (Some d) = option_map nodes_of_number (nearest_common (superclasses_of g) c.0 d.0)

-- of a set of nodes of a class and a second type; `empty` fits every set
abbrev pub common_nodes : List Class → ClassId → ValueType → Option ValueType
common_nodes g c types.Null = None
common_nodes g c types.Empty = Some (of_nodes c)
common_nodes g c (types.Of k) = common_element g c (element_class k)

abbrev pub common_kind : List Class → Kind → ValueType → Option ValueType
common_kind g kinds.Truth u = type_where (is_truth u) u
common_kind g kinds.Int u = type_where (is_int u) u
common_kind g kinds.Text u = type_where (is_text u) u
common_kind g (kinds.Node c) u = common_node g c u
common_kind g kinds.Texts u = type_where (is_texts u) (types.Of kinds.Texts)
common_kind g (kinds.Nodes c) u = common_nodes g c u

-- the common type of two parts: that of both where they are of one type, of two classes their nearest common superclass, and of two sets that
-- of their elements
abbrev pub common : List Class → ValueType → ValueType → Option ValueType
common g types.Null u = type_where (is_node u) u
common g types.Empty u = type_where (is_set u) u
common g (types.Of k) u = common_kind g k u

-- the type at which a value is kept: that of `null` is the first class, and that of `empty` a set of texts
abbrev pub kept_kind : ValueType → Kind
kept_kind types.Null = kinds.Node (record { 0 = 0 })
kept_kind types.Empty = kinds.Texts
kept_kind (types.Of k) = k
