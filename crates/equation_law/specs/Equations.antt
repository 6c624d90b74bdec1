-- The equations of the instances of a program, and the solution.
use Rattle.std.specs.Prelude.{◌≡◌, ◌<◌, ℕ, zero, suc, ℤ, pos, negsuc, List, [], ◌∷◌, Bool, true, false, ◌&&◌, cond, Option, Some, None, length, slice_get, ◌++◌, map, ◌-◌, ◌==◌}
use Rattle.std.specs.Int.{int_wrap}
use Rattle.std.specs.List.{Contains, filter, find, flat_map, range_with_len}
use Rattle.std.specs.Option.{option_and_then, option_map, option_or}
use mir.Syntax.{w32}
use Rattle.ast_grammar.specs.declared.grammar.ClassId.{ClassId}
use Rattle.attr_rules.specs.declared.dispatch.Reach.{Reach}
use Rattle.attr_rules.specs.declared.dispatch.Reach.TheVariants.{Own, Component, Created, Children}
use Rattle.attr_rules.specs.declared.dispatch.Via.{Via}
use Rattle.attr_rules.specs.declared.kinds.Attr.{Attr}
use Rattle.attr_rules.specs.declared.kinds.Kind.{Kind}
use Rattle.attr_rules.specs.declared.kinds.Kind.TheVariants as kinds
use Rattle.attr_rules.specs.declared.kinds.Collecting.{Collecting}
use Rattle.attr_rules.specs.Expression.{Expression}
use Rattle.attr_rules.specs.Queries.{Query as Asked}
use Rattle.attr_rules.specs.Rising.{rises}
use Rattle.attr_rules.specs.Rules.{Contribution, Equation, by_component, by_created, circular_at, collecting_at, covering_number, is_inherited}
use Rattle.attr_rules.specs.Types.{is_below}
use Rattle.solutions.specs.Asking.{Demands, Gives, Needs, next}
use Rattle.solutions.specs.Rounds.{Equations, HasValue as HasValueOf}
use Rattle.tree_arena.specs.Nodes.{Node as TreeNode, child_in, component_in, count_in, end_in, index_in, parent_in, token_in}
use Rattle.equation_law.specs.Codes.{value_at}
use Rattle.equation_law.specs.Collections.{Collection, Offer, collection_demands}
use Rattle.equation_law.specs.Created.{Making, making_in, token_number}
use Rattle.equation_law.specs.Names.{NodeName, Source, Made, Reference, Null, At, Argument, Row, Instance, Attribute, Query, list_of, made_by, same_instance}
use Rattle.equation_law.specs.Values.{Int, Node, Value, argument_value, as_kind, as_tree, default_of, tokens}
use Rattle.equation_law.specs.Program.{Program, attribute_parameters, class_at, declared_of, equation_for, making_of, text_of, tree_made}
use Rattle.equation_law.specs.Meaning.{World, Place, meaning_of, with_tokens}

-- an equation as it is read: an expression of a type, with the node at which it is read, and the root of the tree that it makes, if it is a `new`
pub record Site : Type 0 where
  pub body : Expression
  pub kind : Kind
  pub place : Place
  pub root : Reference

abbrev pub number_or_zero : Option ℕ → ℕ
number_or_zero None = 0
number_or_zero (Some n) = n

abbrev pub kind_or_truth : Option Kind → Kind
kind_or_truth None = kinds.Truth
kind_or_truth (Some k) = k

abbrev pub attribute_kind : Program → ℕ → Kind
attribute_kind p a = kind_or_truth (option_map (λ x. x.kind) (declared_of p a))

-- a source node by its number, or null
abbrev pub source_or_null : Option ℕ → Reference
source_or_null None = Null
source_or_null (Some k) = At (Source k)

-- the source node of this number, if the tree has it
abbrev pub source_of : Program → ℕ → Reference
source_of p k = source_or_null (option_map (λ x. k) (slice_get p.tree k))

-- a node of a tree that was made, by its position, or null
abbrev pub made_or_null : (ℕ → NodeName) → Option ℕ → Reference
made_or_null name None = Null
made_or_null name (Some q) = At (name q)

abbrev pub child_of : Program → NodeName → ℕ → Reference
child_of p (Source n) k = source_or_null (child_in p.tree n k 0)
child_of p (Made a r xs q) k = made_or_null (Made a r xs) (child_in (tree_made p a r) q k 0)

-- The element of a list at a place; before the first and past the last there is none. A node that was made has no lists.
abbrev pub element_of : Program → NodeName → ℕ → ℤ → Reference
element_of p (Source n) k (pos i) = source_or_null (child_in p.tree n k i)
element_of p (Source n) k (negsuc i) = Null
element_of p (Made a r xs q) k z = Null

abbrev pub count_of : Program → NodeName → ℕ → ℕ
count_of p (Source n) k = count_in p.tree n k
count_of p (Made a r xs q) k = 0

-- a node of the class or of a subclass
abbrev pub is_of_class : Program → ClassId → NodeName → Bool
is_of_class p c n = is_below p.grammar (class_at p n) c

-- the value that a token's code stands for, by the texts; a missing one is the type's default, and no token is a node
abbrev pub decoded : (ℕ → List ℕ) → Kind → Option ℕ → Value
decoded texts t None = default_of t
decoded texts (kinds.Node c) (Some v) = Node Null
decoded texts t (Some v) = value_at texts t v

abbrev pub argument_or_null : Option Argument → Value
argument_or_null None = Node Null
argument_or_null (Some x) = argument_value x

-- the value of a token that has this place among all of its tree; where there is none it is null
abbrev pub token_value : List Argument → Option ℕ → Value
token_value ts None = Node Null
token_value ts (Some k) = argument_or_null (slice_get ts k)

-- the place of the token of a node that was made
abbrev pub token_place : Option Making → ℕ → ℕ → Option ℕ
token_place None q k = None
token_place (Some m) q k = token_number m q k

-- what is had of a node that was made; where no class says that there is one it is another
abbrev pub where_made : {A : Type 0} → Option ClassId → A → A → A
where_made None here none = none
where_made (Some c) here none = here

-- A token of a source node stands in the tree, and demands nothing. That of a node that was made demands what made it. A circular attribute
-- makes nothing.
abbrev pub token_of : Program → Kind → NodeName → ℕ → Demands Instance Value
token_of p t (Source n) k = Gives (decoded (text_of p) t (token_in p.tree n k))
token_of p t (Made a r xs q) k =
    where_made (class_at p (Made a r xs q))
    (cond (circular_at p.rules.attributes a) (Gives (default_of t)) (Needs (Attribute a r (list_of xs)) (λ v. Gives (as_kind t (token_value (tokens v) (token_place (making_of p a r) q k))))))
    (Gives (default_of t))

abbrev pub world_of : Program → World
world_of p = record { kind = attribute_kind p; parameters = attribute_parameters p; text = text_of p; source = source_of p; child = child_of p; element = element_of p; count = count_of p; is_of = is_of_class p; token = token_of p }

abbrev pub asked_kind : Asked → Kind
asked_kind q = q.kind

-- the type of an instance's values
abbrev pub kind_in : Program → Instance → Kind
kind_in p (Attribute a n xs) = attribute_kind p a
kind_in p (Query q) = kind_or_truth (option_map asked_kind (slice_get p.queries q))

-- a node, with the values of some arguments
abbrev pub place_with : NodeName → List Argument → Place
place_with n xs = record { this = At n; names = map argument_value xs }

-- a source node, without names
abbrev pub place_at : ℕ → Place
place_at k = place_with (Source k) []

-- an equation of an attribute at a node with arguments makes a tree that is named by them
abbrev pub site_at : Program → ℕ → NodeName → List Argument → Equation → Site
site_at p a n xs e = record { body = e.body; kind = attribute_kind p a; place = place_with n xs; root = made_by (Attribute a (At n) xs) 0 }

-- the equation of a synthesized or higher-order attribute at a node: that of the node's class, read at the node with the arguments
abbrev pub synthesized_site : Program → ℕ → NodeName → List Argument → Option Site
synthesized_site p a n xs = option_map (site_at p a n xs) (option_and_then (equation_for p a) (class_at p n))

abbrev pub followed : Option ℕ → (ℕ → List ℕ) → List ℕ
followed None further = []
followed (Some n) further = further n

-- a node and its ancestors, the closest first; they are at most so many and one, and a node has no more of them than its number says
abbrev pub upwards_from : ℕ → List TreeNode → ℕ → List ℕ
upwards_from zero tree n = n ∷ []
upwards_from (suc most) tree n = n ∷ followed (parent_in tree n) (upwards_from most tree)

-- node n stands on the way upwards from node k, which begins with k
abbrev pub IsOnWay : List TreeNode → ℕ → ℕ → Type 0
IsOnWay tree k n = Contains (upwards_from k tree k) n

-- j is a node of the tree, and its way upwards meets node k
abbrev pub StandsUnder : List TreeNode → ℕ → ℕ → Type 0
StandsUnder tree k j = (j < length tree) × IsOnWay tree j k

-- the place of a node among those that hang at the same component; in a tree that was made each hangs there alone
abbrev pub place_among : Program → NodeName → ℕ
place_among p (Source n) = number_or_zero (index_in p.tree n)
place_among p (Made a r xs q) = 0

-- What a path binds: over a component it is the place of the node among those that hang there, which has 32 bits, and over a higher-order attribute
-- its arguments.
abbrev pub bound_values : Reach → ℕ → List Value → List Value
bound_values Own i ys = []
bound_values (Component k) i ys = Int (int_wrap w32 (pos i)) ∷ []
bound_values (Created b) i ys = ys
bound_values Children i ys = []

-- the equation of a class that covers, for an inherited attribute, what hangs by a component or an attribute
abbrev pub covering_by : Program → ℕ → Via → ClassId → Option Equation
covering_by p a v c = option_and_then (slice_get p.rules.equations) (covering_number p.rules c v a)

-- An equation of an inherited attribute is read at a node above, with the arguments, and then what its path binds.
abbrev pub site_above : Program → ℕ → List Argument → Reference → NodeName → List Value → Equation → Site
site_above p a xs root m bound e = record { body = e.body; kind = attribute_kind p a; place = record { this = At m; names = map argument_value xs ++ bound }; root = root }

-- Of a tree, whose nodes have these names, the equation that covers a node at its parent: that of the parent's class.
module _ (p : Program) (tree : List TreeNode) (name : ℕ → NodeName) where
  abbrev pub covering_for : ℕ → ℕ → ℕ → Option Equation
  covering_for a n u = option_and_then (λ c. option_and_then (λ k. covering_by p a (by_component k) c) (component_in tree n)) (class_at p (name u))

  abbrev pub site_at_parent : ℕ → List Argument → Reference → ℕ → ℕ → Equation → Site
  site_at_parent a xs root n u e = site_above p a xs root (name u) (bound_values e.target.reach (place_among p (name n)) []) e

  abbrev pub covering_site : ℕ → List Argument → Reference → ℕ → Option Site
  covering_site a xs root n = option_and_then (λ u. option_map (site_at_parent a xs root n u) (covering_for a n u)) (parent_in tree n)

-- what the first of some nodes that has something has
abbrev pub first_site : (ℕ → Option Site) → List ℕ → Option Site
first_site f [] = None
first_site f (n ∷ ns) = option_or (f n) (first_site f ns)

-- in a tree, from a node upwards: that of the closest ancestor which has one that covers the way to it
abbrev pub site_within : Program → List TreeNode → (ℕ → NodeName) → ℕ → List Argument → Reference → ℕ → Option Site
site_within p tree name a xs root n = first_site (covering_site p tree name a xs root) (upwards_from n tree n)

-- the equation that covers, at its owner, the root of a tree that attribute b makes there with arguments
abbrev pub site_at_owner : Program → ℕ → List Argument → Reference → ℕ → Row → NodeName → Option Site
site_at_owner p a xs root b ys m =
    option_map (λ (e : Equation). site_above p a xs root m (bound_values e.target.reach 0 (map argument_value (list_of ys))) e) (option_and_then (covering_by p a (by_created b)) (class_at p m))

-- The equation of an inherited attribute at a node: that of the closest node above which has one that covers the way to it. Above the root of a
-- tree that was made stands its owner, at which it was made.
abbrev mutual
  pub inherited_site : Program → ℕ → List Argument → Reference → NodeName → Option Site
  inherited_site p a xs root (Source n) = site_within p p.tree Source a xs root n
  inherited_site p a xs root (Made b r ys q) = where_made (class_at p (Made b r ys q)) (option_or (site_within p (tree_made p b r) (Made b r ys) a xs root q) (inherited_over p a xs root b ys r)) None

  pub inherited_over : Program → ℕ → List Argument → Reference → ℕ → Row → Reference → Option Site
  inherited_over p a xs root b ys Null = None
  inherited_over p a xs root b ys (At m) = option_or (site_at_owner p a xs root b ys m) (inherited_site p a xs root m)

abbrev pub inherits : Option Attr → Bool
inherits None = false
inherits (Some d) = is_inherited d.sort

-- The expression that gives an instance its value, and where it is read. That of a synthesized attribute at a node is the one of the node's class,
-- that of an inherited one is found above the node, and that of a query is the query's expression, read at the root.
abbrev pub site_of : Program → Instance → Option Site
site_of p (Attribute a Null xs) = None
site_of p (Attribute a (At n) xs) = cond (inherits (declared_of p a)) (inherited_site p a xs (made_by (Attribute a (At n) xs) 0) n) (synthesized_site p a n xs)
site_of p (Query q) = option_map (λ e. record { body = e.body; kind = e.kind; place = place_at 0; root = Null }) (slice_get p.queries q)

-- The root of a collection at a node: the closest node upwards, the node itself included, that is of the root class or of a subclass. Where no root
-- class is given it is the root of the tree.
abbrev pub collection_root : Program → Option ClassId → ℕ → Option ℕ
collection_root p None k = Some 0
collection_root p (Some c) k = find (λ n. is_of_class p c (Source n)) (upwards_from k p.tree k)

-- nothing where something was found
abbrev pub unless_found : Option ℕ → Option ℕ → Option ℕ
unless_found None r = r
unless_found (Some n) r = None

-- every node has the root of the tree where no root class is given
abbrev pub root_or_first : Option ClassId → Option ℕ → Option ℕ
root_or_first None r = Some 0
root_or_first (Some c) r = r

-- The source node in whose subtree contributions count for a collection at a node. Above the root of a tree that was made stands its owner; where
-- the root of the collection stands in such a tree, nothing contributes, since contributions are read at source nodes alone.
abbrev mutual
  pub root_for : Program → Option ClassId → NodeName → Option ℕ
  root_for p c (Source k) = collection_root p c k
  root_for p c (Made b r ys q) =
      root_or_first c (where_made (class_at p (Made b r ys q)) (unless_found (option_and_then (λ d. find (λ n. is_of_class p d (Made b r ys n)) (upwards_from q (tree_made p b r) q)) c) (root_over p c r)) None)

  pub root_over : Program → Option ClassId → Reference → Option ℕ
  root_over p c Null = None
  root_over p c (At m) = root_for p c m

-- with this root class node n may be the root of a collection at node k: it is of the class or of a subclass, and on the way upwards from k
abbrev pub MayBeRoot : Program → ClassId → ℕ → ℕ → Type 0
MayBeRoot p c k n = IsOnWay p.tree k n × (is_of_class p c (Source n) ≡ true)

-- no node on the way may
abbrev pub NoneMayBeRoot : Program → ClassId → ℕ → Type 0
NoneMayBeRoot p c k = (n : ℕ) → IsOnWay p.tree k n → is_of_class p c (Source n) ≡ false

-- the nodes of a subtree, in preorder
abbrev pub subtree : List TreeNode → ℕ → List ℕ
subtree tree n = range_with_len n (end_in tree n - n)

-- a contribution to an attribute stands in the nodes of its class and of subclasses
abbrev pub is_offered : Program → ℕ → ℕ → Contribution → Bool
is_offered p a k c = (c.target.0 == a) && is_of_class p c.class (Source k)

-- what is offered to an attribute at a node, in the order of the file
abbrev pub offers_at : Program → ℕ → ℕ → List Offer
offers_at p a k = map (λ c. record { contribution = c; node = k }) (filter (is_offered p a k) p.rules.contributions)

-- what is offered in the subtree of a root, node by node; without a root nothing is
abbrev pub offers_below : Program → ℕ → Option ℕ → List Offer
offers_below p a None = []
offers_below p a (Some r) = flat_map (offers_at p a) (subtree p.tree r)

-- what is offered to an attribute at a source node, by its root class
abbrev pub offers_to : Program → ℕ → Option ClassId → ℕ → List Offer
offers_to p a c k = offers_below p a (collection_root p c k)

abbrev pub collection_at : Program → ℕ → NodeName → Collecting → Collection
collection_at p a n c = record { method = c.method; kind = attribute_kind p a; node = n; offers = offers_below p a (root_for p c.root n) }

-- the collection that an instance is, if it is one
abbrev pub collection_of : Program → Instance → Option Collection
collection_of p (Attribute a Null xs) = None
collection_of p (Attribute a (At n) xs) = option_map (collection_at p a n) (collecting_at p.rules.attributes a)
collection_of p (Query q) = None

-- what gives an instance its value
pub data InstanceEquation : Type 0 where
  OfSite : Site → InstanceEquation
  OfCollection : Collection → InstanceEquation

-- The equation of an instance: that of a collection is what is offered to it, any other is an expression that is read at a place.
abbrev pub equation_of : Program → Instance → Option InstanceEquation
equation_of p i = option_or (option_map OfCollection (collection_of p i)) (option_map OfSite (site_of p i))

-- what a right side demands: a `new` the values of its tokens, which stand with the root of the tree, and any other expression what it means
abbrev pub body_demands : World → Site → Option Making → Demands Instance Value
body_demands W s None = next (meaning_of W s.body s.place) (λ v. Gives (as_kind s.kind v))
body_demands W s (Some m) = with_tokens W m.arguments s.place (λ ts. Gives (as_tree s.kind s.root ts))

-- what an expression demands where it is read; where there is none, it counts as null
abbrev pub site_demands : World → Option Site → Demands Instance Value
site_demands W None = Gives (Node Null)
site_demands W (Some s) = body_demands W s (making_in s.body)

-- what an equation demands; an instance that the program doesn't have counts as null
abbrev pub equation_demands : World → Option InstanceEquation → Demands Instance Value
equation_demands W None = Gives (Node Null)
equation_demands W (Some (OfSite s)) = site_demands W (Some s)
equation_demands W (Some (OfCollection c)) = collection_demands W c

-- the types of which circular attributes are: booleans, of which false is below true, and sets, ordered by inclusion
abbrev pub is_ordered : Kind → Bool
is_ordered kinds.Truth = true
is_ordered kinds.Int = false
is_ordered kinds.Text = false
is_ordered (kinds.Node c) = false
is_ordered kinds.Texts = true
is_ordered (kinds.Nodes c) = true

-- there is an expression, and it rises
abbrev pub site_rises : (ℕ → Bool) → Option Site → Bool
site_rises circular None = false
site_rises circular (Some s) = rises circular s.body

-- there is an equation, and it is an expression that rises; what is offered to a collection doesn't count as rising
abbrev pub equation_rises : (ℕ → Bool) → Option InstanceEquation → Bool
equation_rises circular None = false
equation_rises circular (Some (OfSite s)) = site_rises circular (Some s)
equation_rises circular (Some (OfCollection c)) = false

-- the instance is of an attribute that is declared circular; a query is of none
abbrev pub is_declared : Program → Instance → Bool
is_declared p (Attribute a n xs) = circular_at p.rules.attributes a
is_declared p (Query q) = false

-- An instance is circular where its attribute is declared so, is of such a type, and its equation rises. In a program that was read and checked
-- the declaration alone decides.
abbrev pub is_circular : Program → Instance → Bool
is_circular p i = is_declared p i && (is_ordered (kind_in p i) && equation_rises (circular_at p.rules.attributes) (equation_of p i))

-- where the rounds of a circular instance start: the least value of its type, whatever a call on null gives
abbrev pub bottom_of : Program → Instance → Value
bottom_of p i = default_of (kind_in p i)

-- what the instances of a program demand, which of them are circular, and where their rounds start
unfoldable pub equations_of : Program → Equations Instance Value
equations_of p = record {
  same = same_instance;
  equation = λ i. equation_demands (world_of p) (equation_of p i);
  circular = is_circular p;
  bottom = bottom_of p;
}

-- what the equation of an instance demands, and what comes of it
abbrev pub demands_of : Program → Instance → Demands Instance Value
demands_of p i = (equations_of p).equation i

-- the instance is circular
abbrev pub IsCircularIn : Program → Instance → Type 0
IsCircularIn p i = (equations_of p).circular i ≡ true

-- the solution: the value of an instance that the rounds over some list of instances give
abbrev pub HasValue : Program → Instance → Value → Type 0
HasValue p i v = HasValueOf (equations_of p) i v
