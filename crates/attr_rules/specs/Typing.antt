-- The rules of types: which typed expressions are of which type.
use Rattle.std.specs.Prelude.{◌≡◌, ℕ, ℤ, suc, ◌+◌, ◌<◌, Bool, true, false, List, [], ◌∷◌, Option, Some, length, slice_get}
use Rattle.std.specs.Option.{option_map}
use Rattle.std.specs.Int.{int_wrap}
use mir.Syntax.{w32}
use Rattle.ast_grammar.specs.declared.grammar.ClassId.{ClassId}
use Rattle.ast_grammar.specs.declared.grammar.Shape.TheVariants as shapes
use Rattle.ast_grammar.specs.Grammar.{Class, Component, abstract_in, component_at, components_of, is_sub}
use Rattle.attr_rules.specs.declared.kinds.Attr.{Attr}
use Rattle.attr_rules.specs.declared.kinds.Kind.{Kind}
use Rattle.attr_rules.specs.declared.kinds.Kind.TheVariants as kinds
use Rattle.attr_rules.specs.declared.expression.Operator.{Operator}
use Rattle.attr_rules.specs.declared.expression.Operator.TheVariants.{Add, Subtract, Multiply, Less, AtMost, Greater, AtLeast, Equal}
use Rattle.rag_io.specs.declared.Place.{Place}
use Rattle.attr_rules.specs.declared.expression.Quantifier.{Quantifier}
use Rattle.attr_rules.specs.declared.expression.Quantifier.TheVariants.{Any, All, First}
use Rattle.attr_rules.specs.declared.expression.SetOperator.{SetOperator}
use Rattle.attr_rules.specs.declared.types.ValueType.{ValueType}
use Rattle.attr_rules.specs.declared.types.ValueType.TheVariants as types
use Rattle.attr_rules.specs.declared.accessors.Access.TheVariants as access
use Rattle.attr_rules.specs.Accessors.{got}
use Rattle.attr_rules.specs.Expression.{Expression, Arguments, no_more, argument, NewArguments, new_end, new_token, new_child, Truth, Int, Text, Null, Empty, This, Variable, Source, Child, Element, Count, Has, Token, Call, Cast, InstanceOf, Quantified, QuantifiedSet, Each, EachOfSet, Sets, Single, Contains, Size, Not, Negate, Binary, And, Or, OrBoth, If}
use Rattle.attr_rules.specs.Types.{common, comparable, elements_of, fits, is_node, is_set, kept_kind, may_be_element, of_class, parameter_kinds, set_of}

-- what an expression may name: the grammar's classes with their components, attributes, source nodes, the class of the node at which
-- it is read, and the types of the names, by their numbers
pub record Names : Type 0 where
  pub grammar : List Class
  pub attribute : ℕ → Option Attr
  pub node : ℕ → Option ClassId
  pub this : Option ClassId
  pub variables : List Kind

-- with one name more, which comes first
abbrev pub with_variable : Names → Kind → Names
with_variable N k = record { grammar = N.grammar; attribute = N.attribute; node = N.node; this = N.this; variables = k ∷ N.variables }

-- what a form over a list of nodes of a class gives
abbrev pub quantified_type : Quantifier → ClassId → ValueType
quantified_type Any c = types.Of kinds.Truth
quantified_type All c = types.Of kinds.Truth
quantified_type First c = of_class c

-- a form that goes over sets too: `first` takes lists alone
abbrev pub takes_sets : Quantifier → Bool
takes_sets Any = true
takes_sets All = true
takes_sets First = false

-- the operator takes two integers, and this is the type of its result
pub data TakesInts : Operator → Kind → Type 0 where
  add : TakesInts Add kinds.Int
  subtract : TakesInts Subtract kinds.Int
  multiply : TakesInts Multiply kinds.Int
  less : TakesInts Less kinds.Truth
  at_most : TakesInts AtMost kinds.Truth
  greater : TakesInts Greater kinds.Truth
  at_least : TakesInts AtLeast kinds.Truth

-- The expression is well typed and of this type. A receiver is of a class, and may be null all the same.
mutual
  pub data HasType : Names → Expression → ValueType → Type 0 where
    truth : {N : Names} → (b : Bool) → HasType N (Truth b) (types.Of kinds.Truth)
    -- a literal has 32 bits
    int : {N : Names} → (z : ℤ) → int_wrap w32 z ≡ z → HasType N (Int z) (types.Of kinds.Int)
    text : {N : Names} → (n : ℕ) → HasType N (Text n) (types.Of kinds.Text)
    null : {N : Names} → HasType N Null types.Null
    empty : {N : Names} → HasType N Empty types.Empty
    this : {N : Names} → (c : ClassId) → N.this ≡ Some c → HasType N This (of_class c)
    variable : {N : Names} → (k : ℕ) (t : Kind) → slice_get N.variables k ≡ Some t → HasType N (Variable k) (types.Of t)
    source : {N : Names} → (k : ℕ) (c : ClassId) → N.node k ≡ Some c → HasType N (Source k) (of_class c)
    child : {N : Names} {e : Expression} (c : ClassId) (k : ℕ) (x : Component) → HasType N e (of_class c) → component_at N.grammar c.0 k ≡ Some x → got x.shape ≡ Some access.Child → HasType N (Child k e) (of_class x.class)
    element : {N : Names} {e i : Expression} (c : ClassId) (k : ℕ) (x : Component) → HasType N e (of_class c) → component_at N.grammar c.0 k ≡ Some x → x.shape ≡ shapes.List → HasType N i (types.Of kinds.Int) → HasType N (Element k e i) (of_class x.class)
    count : {N : Names} {e : Expression} (c : ClassId) (k : ℕ) (x : Component) → HasType N e (of_class c) → component_at N.grammar c.0 k ≡ Some x → x.shape ≡ shapes.List → HasType N (Count k e) (types.Of kinds.Int)
    has : {N : Names} {e : Expression} (c : ClassId) (k : ℕ) (x : Component) → HasType N e (of_class c) → component_at N.grammar c.0 k ≡ Some x → x.shape ≡ shapes.Optional → HasType N (Has k e) (types.Of kinds.Truth)
    token : {N : Names} {e : Expression} (c : ClassId) (k : ℕ) (x : Component) (t : Kind) → HasType N e (of_class c) → component_at N.grammar c.0 k ≡ Some x → got x.shape ≡ Some (access.Token t) → HasType N (Token t k e) (types.Of t)
    call : {N : Names} {e : Expression} {es : Arguments} (c : ClassId) (a : ℕ) (at : Place) (d : Attr) → HasType N e (of_class c) → N.attribute a ≡ Some d → is_sub N.grammar c.0 d.class.0 ≡ true → Fit N es (parameter_kinds d.params) → HasType N (Call a at e es) (types.Of d.kind)
    cast : {N : Names} {e : Expression} (t : ValueType) (c : ClassId) → HasType N e t → is_node t ≡ true → c.0 < length N.grammar → HasType N (Cast c e) (of_class c)
    instance_of : {N : Names} {e : Expression} (t : ValueType) (c : ClassId) → HasType N e t → is_node t ≡ true → c.0 < length N.grammar → HasType N (InstanceOf c e) (types.Of kinds.Truth)
    quantified : {N : Names} {e b : Expression} (q : Quantifier) (c : ClassId) (k : ℕ) (x : Component) → HasType N e (of_class c) → component_at N.grammar c.0 k ≡ Some x → x.shape ≡ shapes.List → HasType (with_variable N (kinds.Node x.class)) b (types.Of kinds.Truth) → HasType N (Quantified q k e b) (quantified_type q x.class)
    quantified_set : {N : Names} {e b : Expression} (q : Quantifier) (t : ValueType) (k : Kind) → takes_sets q ≡ true → HasType N e t → elements_of t ≡ Some k → HasType (with_variable N k) b (types.Of kinds.Truth) → HasType N (QuantifiedSet q e b) (types.Of kinds.Truth)
    each : {N : Names} {e b : Expression} (s : Kind) (c : ClassId) (k : ℕ) (x : Component) (t : ValueType) → HasType N e (of_class c) → component_at N.grammar c.0 k ≡ Some x → x.shape ≡ shapes.List → HasType (with_variable N (kinds.Node x.class)) b t → is_set t ≡ true → s ≡ kept_kind t → HasType N (Each s k e b) t
    each_of_set : {N : Names} {e b : Expression} (s : Kind) (t : ValueType) (k : Kind) (u : ValueType) → HasType N e t → elements_of t ≡ Some k → HasType (with_variable N k) b u → is_set u ≡ true → s ≡ kept_kind u → HasType N (EachOfSet s e b) u
    -- two sets that have a common type
    sets : {N : Names} {a b : Expression} (o : SetOperator) (s : Kind) (t u v : ValueType) → HasType N a t → HasType N b u → is_set t ≡ true → common N.grammar t u ≡ Some v → s ≡ kept_kind v → HasType N (Sets o s a b) v
    single : {N : Names} {e : Expression} (t u : ValueType) → HasType N e t → set_of t ≡ Some u → HasType N (Single e) u
    contains : {N : Names} {a b : Expression} (t u : ValueType) → HasType N a t → HasType N b u → may_be_element N.grammar t u ≡ true → HasType N (Contains a b) (types.Of kinds.Truth)
    size : {N : Names} {e : Expression} (t : ValueType) → HasType N e t → is_set t ≡ true → HasType N (Size e) (types.Of kinds.Int)
    not : {N : Names} {e : Expression} → HasType N e (types.Of kinds.Truth) → HasType N (Not e) (types.Of kinds.Truth)
    negate : {N : Names} {e : Expression} → HasType N e (types.Of kinds.Int) → HasType N (Negate e) (types.Of kinds.Int)
    ints : {N : Names} {a b : Expression} (o : Operator) (k : Kind) → TakesInts o k → HasType N a (types.Of kinds.Int) → HasType N b (types.Of kinds.Int) → HasType N (Binary o a b) (types.Of k)
    equal : {N : Names} {a b : Expression} (t u : ValueType) → HasType N a t → HasType N b u → comparable t u ≡ true → HasType N (Binary Equal a b) (types.Of kinds.Truth)
    and : {N : Names} {a b : Expression} → HasType N a (types.Of kinds.Truth) → HasType N b (types.Of kinds.Truth) → HasType N (And a b) (types.Of kinds.Truth)
    or : {N : Names} {a b : Expression} → HasType N a (types.Of kinds.Truth) → HasType N b (types.Of kinds.Truth) → HasType N (Or a b) (types.Of kinds.Truth)
    or_both : {N : Names} {a b : Expression} → HasType N a (types.Of kinds.Truth) → HasType N b (types.Of kinds.Truth) → HasType N (OrBoth a b) (types.Of kinds.Truth)
    choice : {N : Names} {c a b : Expression} (at : Option Place) (t u v : ValueType) → HasType N c (types.Of kinds.Truth) → HasType N a t → HasType N b u → common N.grammar t u ≡ Some v → HasType N (If c a at b) v

  -- The arguments are as many as the parameters, and each fits its one.
  pub data Fit : Names → Arguments → List Kind → Type 0 where
    end : {N : Names} → Fit N no_more []
    more : {N : Names} {e : Expression} {es : Arguments} {k : Kind} {ks : List Kind} (t : ValueType) → HasType N e t → fits N.grammar t k ≡ true → Fit N es ks → Fit N (argument e es) (k ∷ ks)

-- a class of which there are nodes
abbrev pub IsConcrete : List Class → ℕ → Type 0
IsConcrete g c = option_map abstract_in (slice_get g c) ≡ Some false

-- The arguments of a `new` are as many as the components, and each is for its one: a token's expression fits its type, and a child is made, of a
-- class of which there are nodes and that fits. There is none for a list or an optional.
pub data FitComponents : Names → NewArguments → List Component → Type 0 where
  no_more_components : {N : Names} → FitComponents N new_end []
  token_fits : {N : Names} {e : Expression} {rest : NewArguments} {xs : List Component} (x : Component) (k : Kind) (t : ValueType)
      → got x.shape ≡ Some (access.Token k) → HasType N e t → fits N.grammar t k ≡ true → FitComponents N rest xs → FitComponents N (new_token k e rest) (x ∷ xs)
  child_fits : {N : Names} {parts rest : NewArguments} {xs : List Component} (x : Component) (d : ClassId)
      → x.shape ≡ shapes.Child → is_sub N.grammar d.0 x.class.0 ≡ true → IsConcrete N.grammar d.0 → FitComponents N parts (components_of N.grammar d.0)
      → FitComponents N rest xs → FitComponents N (new_child d parts rest) (x ∷ xs)

-- A tree is made whose root is of this class, with these arguments.
pub record Makes (N : Names) (c : ClassId) (parts : NewArguments) : Type 0 where
  pub concrete : IsConcrete N.grammar c.0
  pub fit : FitComponents N parts (components_of N.grammar c.0)

-- how many nodes are made below the root
abbrev pub nodes_below : NewArguments → ℕ
nodes_below new_end = 0
nodes_below (new_token k e rest) = nodes_below rest
nodes_below (new_child c parts rest) = suc (nodes_below parts + nodes_below rest)

-- with the root
abbrev pub nodes_made : NewArguments → ℕ
nodes_made parts = suc (nodes_below parts)

-- how many token values all nodes have
abbrev pub tokens_made : NewArguments → ℕ
tokens_made new_end = 0
tokens_made (new_token k e rest) = suc (tokens_made rest)
tokens_made (new_child c parts rest) = tokens_made parts + tokens_made rest
