-- Programs that break no rule, their instances, and the values of each type.
use Rattle.std.specs.Prelude.{◌≡◌, ◌↔◌, ◌<◌, ◌≤◌, ℕ, ℤ, true, false, Bool, List, [], ◌∷◌, Option, Some, None, All, length, slice_get}
use Rattle.std.specs.Int.{int_wrap}
use Rattle.std.specs.List.{Contains}
use mir.Syntax.{w32}
use Rattle.rag_io.specs.Pool.{ArePooled}
use Rattle.ast_grammar.specs.declared.grammar.ClassId.{ClassId}
use Rattle.ast_grammar.specs.Grammar.{Class, Component, IsGrammar, component_at, is_sub}
use Rattle.attr_rules.specs.declared.accessors.Access.{Access}
use Rattle.attr_rules.specs.declared.accessors.Access.TheVariants as access
use Rattle.attr_rules.specs.declared.kinds.Attr.{Attr}
use Rattle.attr_rules.specs.declared.kinds.Kind.{Kind}
use Rattle.attr_rules.specs.declared.kinds.Kind.TheVariants as kinds
use Rattle.attr_rules.specs.declared.types.ValueType.{ValueType}
use Rattle.attr_rules.specs.Accessors.{got}
use Rattle.attr_rules.specs.Expression.{Expression}
use Rattle.attr_rules.specs.Queries.{Query as Asked}
use Rattle.attr_rules.specs.Rules.{AreRules, Attribute as DeclaredAttribute, EquationsRise, RuleSet, body_at, circular_at, is_higher_order}
use Rattle.attr_rules.specs.Types.{kept_kind, parameter_kinds}
use Rattle.attr_rules.specs.Typing.{HasType}
use Rattle.std.specs.Option.{option_and_then}
use Rattle.solutions.specs.Asking.{Ends, Meets}
use Rattle.solutions.specs.Rounds.{Graph, is_in}
use Rattle.tree_arena.specs.Nodes.{class_in, most_nodes}
use Rattle.tree_arena.specs.Terms.{IsTreeOf}
use Rattle.equation_law.specs.Created.{Making, making_in, token_kinds, token_type}
use Rattle.equation_law.specs.Names.{NodeName, Source, Made, Reference, Null, At, Argument, OfInt, OfNode, OfText, OfTruth, Row, end_row, row, Instance, Attribute, Query, node_cmp, same_instance, text_cmp}
use Rattle.equation_law.specs.Program.{Program, class_at, class_of, declared_of, making_of, names_in, tree_made}
use Rattle.equation_law.specs.Collections.{Offer}
use Rattle.equation_law.specs.Equations.{demands_of, kind_in, upwards_from}
use Rattle.equation_law.specs.Sets.{SetBy, has}
use Rattle.equation_law.specs.Values.{Value, Truth, Int, Text, Node, Texts, Nodes, Tree, argument_value}

-- a query is well typed
pub record IsTyped (p : Program) (q : Asked) : Type 0 where
  pub type : ValueType
  pub typed : HasType (names_in p) q.body type
  pub kept : q.kind ≡ kept_kind type

-- no attribute is higher-order, so nothing is created
abbrev pub NoneCreated : RuleSet → Type 0
NoneCreated rules = All (λ (x : DeclaredAttribute). is_higher_order x.declared.sort ≡ false) rules.attributes

-- The nodes of a program are those of its tree alone: no right side is a `new`, no other expression of the rules, and no query. The tree is no
-- larger than one may be.
pub record HasSourcesAlone (p : Program) : Type 0 where
  pub nothing : (k : ℕ) (e : Expression) → body_at p.rules k ≡ Some e → making_in e ≡ None
  pub asked : (k : ℕ) (q : Asked) → slice_get p.queries k ≡ Some q → making_in q.body ≡ None
  pub few : length p.tree ≤ most_nodes

-- the type of a token that is read
abbrev pub token_got : Option Access → Option Kind
token_got (Some (access.Token k)) = Some k
token_got _ = None

-- the type of the token at a component of a class
abbrev pub token_wanted : List Class → Option ClassId → ℕ → Option Kind
token_wanted g None k = None
token_wanted g (Some c) k = option_and_then (λ (x : Component). token_got (got x.shape)) (component_at g c.0 k)

-- The nodes of trees that are made are of classes of the grammar, and their tokens of the types that it says. No circular attribute makes one, and
-- no query.
pub record TreesFit (p : Program) : Type 0 where
  pub classes : (a q : ℕ) (r : Reference) (c : ClassId) → class_in (tree_made p a r) q ≡ Some c → c.0 < length p.grammar
  pub types : (a q k : ℕ) (r : Reference) → token_type (making_of p a r) q k ≡ token_wanted p.grammar (class_in (tree_made p a r) q) k
  pub plain : (a : ℕ) (r : Reference) (m : Making) → making_of p a r ≡ Some m → circular_at p.rules.attributes a ≡ false
  pub queries : (k : ℕ) (q : Asked) → slice_get p.queries k ≡ Some q → making_in q.body ≡ None

-- A program whose parts were read and checked against each other, its equations of circular attributes included.
pub record IsProgram (p : Program) : Type 0 where
  pub grammar : IsGrammar p.grammar
  pub rules : AreRules p.grammar p.rules
  pub rising : EquationsRise p.rules
  pub texts : ArePooled p.texts
  pub tree : IsTreeOf p.grammar (length p.texts) p.tree
  pub queries : All (IsTyped p) p.queries

-- a source node of the class or of a subclass
pub record IsAt (p : Program) (k : ℕ) (c : ClassId) : Type 0 where
  pub class : ClassId
  pub of : class_of p k ≡ Some class
  pub below : is_sub p.grammar class.0 c.0 ≡ true

-- An offer to an attribute in the subtree of a node: a contribution of the rules to it, at a node of its class or of a subclass whose way upwards meets
-- the other.
pub record IsOfferBelow (p : Program) (a r : ℕ) (o : Offer) : Type 0 where
  pub contribution : Contains p.rules.contributions o.contribution
  pub target : o.contribution.target.0 ≡ a
  pub stands : IsAt p o.node o.contribution.class
  pub within : o.node < length p.tree
  pub under : Contains (upwards_from o.node p.tree o.node) r

-- the list has exactly these offers
abbrev pub AreOffersBelow : Program → ℕ → ℕ → List Offer → Type 0
AreOffersBelow p a r list = (o : Offer) → Contains list o ↔ IsOfferBelow p a r o

-- A node of the program: a source node, or one of the tree that a higher-order attribute makes at a node of its class with arguments for its
-- parameters.
abbrev mutual
  pub IsNode : Program → NodeName → Type 0
  IsNode p (Source k) = k < length p.tree
  IsNode p (Made a r xs q) = (d : Attr) × (declared_of p a ≡ Some d) × (is_higher_order d.sort ≡ true) × IsNodeBelow p d.class r × AreInRow p (parameter_kinds d.params) xs × (q < length (tree_made p a r))

  -- of the class or of a subclass
  pub IsNodeBelow : Program → ClassId → Reference → Type 0
  IsNodeBelow p c Null = ⊥
  IsNodeBelow p c (At n) = IsNode p n × ((e : ClassId) × (class_at p n ≡ Some e) × (is_sub p.grammar e.0 c.0 ≡ true))

  -- an argument for a parameter of the type
  pub IsArgument : Program → Kind → Argument → Type 0
  IsArgument p k (OfTruth b) = k ≡ kinds.Truth
  IsArgument p k (OfInt z) = (k ≡ kinds.Int) × (int_wrap w32 z ≡ z)
  IsArgument p k (OfText t) = (k ≡ kinds.Text) × Contains p.texts t
  IsArgument p k (OfNode r) = (c : ClassId) × (k ≡ kinds.Node c) × MayBeBelow p c r

  -- null, or of the class or of a subclass
  pub MayBeBelow : Program → ClassId → Reference → Type 0
  MayBeBelow p c Null = Unit {0}
  MayBeBelow p c (At n) = IsNode p n × ((e : ClassId) × (class_at p n ≡ Some e) × (is_sub p.grammar e.0 c.0 ≡ true))

  -- as many as the parameters, and each for its own
  pub AreInRow : Program → List Kind → Row → Type 0
  AreInRow p [] end_row = Unit {0}
  AreInRow p [] (row x xs) = ⊥
  AreInRow p (k ∷ ks) end_row = ⊥
  AreInRow p (k ∷ ks) (row x xs) = IsArgument p k x × AreInRow p ks xs

-- a node of the program, of the class or of a subclass
pub record IsNodeAt (p : Program) (n : NodeName) (c : ClassId) : Type 0 where
  pub there : IsNode p n
  pub class : ClassId
  pub of : class_at p n ≡ Some class
  pub below : is_sub p.grammar class.0 c.0 ≡ true

-- null, or a node of the class or of a subclass
pub data IsNodeOf (p : Program) (c : ClassId) : Reference → Type 0 where
  null : IsNodeOf p c Null
  at : {n : NodeName} → IsNodeAt p n c → IsNodeOf p c (At n)

-- the values of the tokens of a tree, of these types
abbrev pub AreTokens : Program → List Kind → List Argument → Type 0
AreTokens p [] [] = Unit {0}
AreTokens p [] (x ∷ xs) = ⊥
AreTokens p (k ∷ ks) [] = ⊥
AreTokens p (k ∷ ks) (x ∷ xs) = IsArgument p k x × AreTokens p ks xs

-- a tree that an attribute makes at a node of the program, of the class or of a subclass, with the values of its tokens
pub record IsMade (p : Program) (c : ClassId) (r : Reference) (ts : List Argument) : Type 0 where
  pub making : Making
  pub attribute : ℕ
  pub owner : Reference
  pub arguments : Row
  pub is : r ≡ At (Made attribute owner arguments 0)
  pub made : making_of p attribute owner ≡ Some making
  pub root : IsNodeOf p c r
  pub tokens : AreTokens p (token_kinds making.arguments) ts

-- A value of a type: an integer has 32 bits, a text is one of the program, a tree stands for its root, and a set has elements of one type.
pub data IsValue (p : Program) : Kind → Value → Type 0 where
  truth : (b : Bool) → IsValue p kinds.Truth (Truth b)
  int : (z : ℤ) → int_wrap w32 z ≡ z → IsValue p kinds.Int (Int z)
  text : (t : List ℕ) → Contains p.texts t → IsValue p kinds.Text (Text t)
  node : (c : ClassId) (r : Reference) → IsNodeOf p c r → IsValue p (kinds.Node c) (Node r)
  texts : (s : SetBy text_cmp) → ((t : List ℕ) → has s t ≡ true → Contains p.texts t) → IsValue p kinds.Texts (Texts s)
  tree : (c : ClassId) (r : Reference) (ts : List Argument) → IsMade p c r ts → IsValue p (kinds.Node c) (Tree r ts)
  nodes : (c : ClassId) (s : SetBy node_cmp) → ((n : NodeName) → has s n ≡ true → IsNodeOf p c (At n)) → IsValue p (kinds.Nodes c) (Nodes s)

-- arguments that are as many as the parameters, and values of their types
abbrev pub AreArguments : Program → List Kind → List Argument → Type 0
AreArguments p [] [] = Unit {0}
AreArguments p [] (x ∷ xs) = ⊥
AreArguments p (k ∷ ks) [] = ⊥
AreArguments p (k ∷ ks) (x ∷ xs) = IsValue p k (argument_value x) × AreArguments p ks xs

-- An instance of a program: an attribute at a node, which is of the attribute's class or of a subclass, with arguments for its parameters, or a
-- query.
pub data IsInstance (p : Program) : Instance → Type 0 where
  of_attribute : {a : ℕ} {n : NodeName} {xs : List Argument} (d : Attr) → declared_of p a ≡ Some d → IsNodeAt p n d.class → AreArguments p (parameter_kinds d.params) xs → IsInstance p (Attribute a (At n) xs)
  of_query : {q : ℕ} (e : Asked) → slice_get p.queries q ≡ Some e → IsInstance p (Query q)

-- each of a list is an instance of the program
abbrev pub AreInstances : Program → List Instance → Type 0
AreInstances p list = (i : Instance) → is_in same_instance list i ≡ true → IsInstance p i

-- a source node
abbrev pub IsSource : Reference → Type 0
IsSource Null = ⊥
IsSource (At (Source k)) = Unit {0}
IsSource (At (Made a r xs q)) = ⊥

-- a query, or an attribute at a source node without arguments
abbrev pub StandsInSource : Instance → Type 0
StandsInSource (Attribute a r xs) = IsSource r × (xs ≡ [])
StandsInSource (Query q) = Unit {0}

-- an assignment whose values are of their instances' types
pub record Fits (p : Program) (A : Instance → Option Value) : Type 0 where
  pub fits : (i : Instance) (v : Value) → A i ≡ Some v → IsValue p (kind_in p i) v

-- under A the equation of i demands instances of the program alone
abbrev pub MeetsInstances : Program → (Instance → Option Value) → Instance → Type 0
MeetsInstances p A i = (j : Instance) → Meets (Graph A) (demands_of p i) j → IsInstance p j

-- under A it ends with a value of the type of i, where it ends
abbrev pub EndsWellTyped : Program → (Instance → Option Value) → Instance → Type 0
EndsWellTyped p A i = (v : Value) (demands : List Instance) → Ends (Graph A) (demands_of p i) v demands → IsValue p (kind_in p i) v
