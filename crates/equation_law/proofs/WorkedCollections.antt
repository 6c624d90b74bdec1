-- Collections of small programs, computed: what is offered, what that demands in which order, and the values.
use Rattle.std.proofs.Common.{◌≡◌, ℕ, zero, suc, pos, negsuc, true, false, cond, ◌||◌, List, [], ◌∷◌, get_or, Option, Some, None, codes, refl, ap, ◌∙◌}
use Rattle.std.specs.Cmp.Lexicographic.{nat_list_cmp_total}
use Rattle.std.specs.Int.{int_wrap}
use Rattle.std.specs.Ordering.{eq_by_cmp}
use Rattle.superclasses.specs.Superclasses.{line_of}
use Rattle.ast_grammar.specs.declared.grammar.ClassId.{ClassId}
use Rattle.ast_grammar.specs.declared.grammar.Shape.TheVariants as shapes
use Rattle.ast_grammar.specs.Grammar.{Class, superclasses_of}
use Rattle.tree_arena.specs.Nodes.{Node as TreeNode}
use Rattle.attr_rules.specs.declared.kinds.Collecting.{Collecting}
use Rattle.attr_rules.specs.declared.kinds.Kind.{Kind}
use Rattle.attr_rules.specs.declared.kinds.Kind.TheVariants as kinds
use Rattle.attr_rules.specs.declared.kinds.Method.{Method}
use Rattle.attr_rules.specs.declared.kinds.Method.TheVariants.{Add, AddAll, Sum, Or, And}
use Rattle.attr_rules.specs.declared.kinds.Sort.{Sort}
use Rattle.attr_rules.specs.declared.kinds.Sort.TheVariants.{Inh, Syn, Coll}
use Rattle.attr_rules.specs.declared.kinds.Start.TheVariants.{Plain}
use Rattle.attr_rules.specs.Expression.{Call, Expression, This, Token, Truth as TruthLiteral, Int as IntLiteral, no_more}
use Rattle.attr_rules.specs.Rules.{Attribute as DeclaredAttribute, Contribution, no_params}
use Rattle.solutions.specs.Asking.{Done, Gives, Needs, run}
use Rattle.equation_law.specs.Collections.{Collection, Offer, collection_demands, combine, fresh}
use Rattle.equation_law.specs.Equations.{collection_of, collection_root, equations_of, subtree, world_of}
use Rattle.equation_law.specs.Names.{At, Attribute, Instance, Made, NodeName, Null, Query, Reference, Source, node_cmp, same_reference, text_cmp}
use Rattle.equation_law.specs.Program.{Program, at_source}
use Rattle.equation_law.specs.Sets.{has, no_elements, set_of}
use Rattle.equation_law.specs.Values.{Int, Node, Text, Texts, Truth, Value, as_kind, node, nodes, texts, truth}
use Rattle.equation_law.proofs.Orders.{node_total}
use Rattle.equation_law.proofs.Sets.{has-set_of, has-union, has_none}

abbrev class : ℕ → ClassId
class c = record { 0 = c }

abbrev declared : Sort → ℕ → Kind → Option Collecting → DeclaredAttribute
declared s c k o = record { name = codes "a"; declared = record { class = class c; sort = s; kind = k; params = no_params; circular = false; start = Plain }; collecting = o }

abbrev call : ℕ → Expression → Expression
call a e = Call a (record { line = 1; column = 1 }) e no_more

abbrev leaf : ℕ → ℕ → ℕ → List ℕ → TreeNode
leaf c parent k tokens = record { class = class c; parent = parent; component = k; tokens = tokens }

-- where it is given no condition
abbrev contributes : ℕ → ℕ → Expression → Expression → Contribution
contributes c a value receiver = record { class = class c; target = record { 0 = a }; condition = TruthLiteral true; receiver = receiver; value = value }

abbrev offer : Contribution → ℕ → Offer
offer c k = record { contribution = c; node = k }

-- `Top ::= Box; Box ::= Item* Box*; Deep : Box; Item ::= <V:int>;` with the tree `Top(Box([Item(1)], [Deep([Item(2)], [Box([Item(4), Item(8)], [])])]))`
abbrev box_classes : List Class
box_classes =
    record { name = codes "Top"; abstract = false; superclass = None; components = record { name = codes "Box"; number = 0; shape = shapes.Child; class = class 1 } ∷ [] } ∷
    record {
      name = codes "Box";
      abstract = false;
      superclass = None;
      components = record { name = codes "Item"; number = 1; shape = shapes.List; class = class 3 } ∷ record { name = codes "Box"; number = 0; shape = shapes.List; class = class 1 } ∷ [];
    } ∷
    record {
      name = codes "Deep";
      abstract = false;
      superclass = Some (class 1);
      components = record { name = codes "Item"; number = 1; shape = shapes.List; class = class 3 } ∷ record { name = codes "Box"; number = 0; shape = shapes.List; class = class 1 } ∷ [];
    } ∷
    record { name = codes "Item"; abstract = false; superclass = None; components = record { name = codes "V"; number = 2; shape = shapes.Int; class = class 0 } ∷ [] } ∷
    []

abbrev box_tree : List TreeNode
box_tree =
    leaf 0 0 0 (0 ∷ []) ∷
    leaf 1 0 0 (0 ∷ 0 ∷ []) ∷
    leaf 3 1 0 (1 ∷ []) ∷
    leaf 2 1 1 (0 ∷ 0 ∷ []) ∷
    leaf 3 3 0 (2 ∷ []) ∷
    leaf 1 3 1 (0 ∷ 0 ∷ []) ∷
    leaf 3 5 0 (4 ∷ []) ∷
    leaf 3 5 0 (8 ∷ []) ∷
    []

-- `inh Box Item.box()`, `inh Box Box.above()`, and the collections `own` with the root class Box, `deep` with Deep, and `whole` without one
abbrev box_attributes : List DeclaredAttribute
box_attributes =
    declared Inh 3 (kinds.Node (class 1)) None ∷
    declared Inh 1 (kinds.Node (class 1)) None ∷
    declared Coll 1 kinds.Int (Some (record { method = Sum; root = Some (class 1) })) ∷
    declared Coll 1 kinds.Int (Some (record { method = Sum; root = Some (class 2) })) ∷
    declared Coll 1 kinds.Int (Some (record { method = Sum; root = None })) ∷
    []

-- `Item contributes getV() to Box.own() for box()`, the same to `deep` and to `whole`, and `Item contributes getV() to Box.deep() for box().above()`
abbrev weight : Expression
weight = Token kinds.Int 0 This

abbrev to_own : Contribution
to_own = contributes 3 2 weight (call 0 This)

abbrev to_deep : Contribution
to_deep = contributes 3 3 weight (call 0 This)

abbrev to_whole : Contribution
to_whole = contributes 3 4 weight (call 0 This)

abbrev to_above : Contribution
to_above = contributes 3 3 weight (call 1 (call 0 This))

abbrev boxes : Program
boxes = record {
  grammar = box_classes;
  rules = record { superclasses = superclasses_of box_classes; attributes = box_attributes; equations = []; contributions = to_own ∷ to_deep ∷ to_whole ∷ to_above ∷ [] };
  tree = box_tree;
  texts = [] ∷ [];
  queries = [];
}

-- the roots at the boxes, which are the nodes 1, 3 and 5
roots_own : (collection_root boxes (Some (class 1)) 1 ≡ Some 1) × (collection_root boxes (Some (class 1)) 3 ≡ Some 3) × (collection_root boxes (Some (class 1)) 5 ≡ Some 5)
unfolding superclasses_of line_of
roots_own = (refl, refl, refl)

roots_deep : (collection_root boxes (Some (class 2)) 1 ≡ None) × (collection_root boxes (Some (class 2)) 3 ≡ Some 3) × (collection_root boxes (Some (class 2)) 5 ≡ Some 3)
unfolding superclasses_of line_of
roots_deep = (refl, refl, refl)

roots_whole : (collection_root boxes None 1 ≡ Some 0) × (collection_root boxes None 3 ≡ Some 0) × (collection_root boxes None 5 ≡ Some 0)
roots_whole = (refl, refl, refl)

-- their subtrees
subtrees : (subtree box_tree 0 ≡ 0 ∷ 1 ∷ 2 ∷ 3 ∷ 4 ∷ 5 ∷ 6 ∷ 7 ∷ []) × (subtree box_tree 3 ≡ 3 ∷ 4 ∷ 5 ∷ 6 ∷ 7 ∷ []) × (subtree box_tree 2 ≡ 2 ∷ [])
subtrees = (refl, refl, refl)

-- what is offered: node by node, at one node in the order of the file
offered_deep : collection_of boxes (at_source 3 5) ≡ Some (record { method = Sum; kind = kinds.Int; node = Source 5; offers = offer to_deep 4 ∷ offer to_above 4 ∷ offer to_deep 6 ∷ offer to_above 6 ∷ offer to_deep 7 ∷ offer to_above 7 ∷ [] })
unfolding superclasses_of line_of
offered_deep = refl

-- without a root nothing is
offered_none : collection_of boxes (at_source 3 1) ≡ Some (record { method = Sum; kind = kinds.Int; node = Source 1; offers = [] })
unfolding superclasses_of line_of
offered_none = refl

-- where no root class is given, all that the tree offers is
offered_whole : collection_of boxes (at_source 4 5) ≡ Some (record { method = Sum; kind = kinds.Int; node = Source 5; offers = offer to_whole 2 ∷ offer to_whole 4 ∷ offer to_whole 6 ∷ offer to_whole 7 ∷ [] })
unfolding superclasses_of line_of
offered_whole = refl

-- an attribute that doesn't collect is no collection, and no collection stands at null
no_collections : (collection_of boxes (at_source 0 2) ≡ None) × (collection_of boxes (Attribute 2 Null []) ≡ None) × (collection_of boxes (Query 0) ≡ None)
no_collections = (refl, refl, refl)

-- the boxes of the items, and the boxes above boxes
abbrev box_at : ℕ → Reference
box_at k = get_or (Null ∷ Null ∷ At (Source 1) ∷ Null ∷ At (Source 3) ∷ Null ∷ At (Source 5) ∷ At (Source 5) ∷ []) k Null

abbrev above_at : ℕ → Reference
above_at k = get_or (Null ∷ Null ∷ Null ∷ At (Source 1) ∷ Null ∷ At (Source 3) ∷ []) k Null

abbrev told : Instance → Option Value
told (Attribute zero (At (Source k)) xs) = Some (Node (box_at k))
told (Attribute (suc a) (At (Source k)) xs) = Some (Node (above_at k))
told (Attribute a (At (Made b r ys q)) xs) = None
told (Attribute a Null xs) = None
told (Query q) = None

-- the values at the boxes: 1, 0 and 1, then 2, 14 and 2, then 12, 12 and 12
own_first : run told ((equations_of boxes).equation (at_source 2 1)) ≡ Done (Int (pos 1)) (at_source 0 2 ∷ at_source 0 4 ∷ at_source 0 6 ∷ at_source 0 7 ∷ [])
unfolding equations_of superclasses_of line_of int_wrap
own_first = refl

deep_first : run told ((equations_of boxes).equation (at_source 3 1)) ≡ Done (Int (pos 0)) []
unfolding equations_of superclasses_of line_of int_wrap
deep_first = refl

own_second : run told ((equations_of boxes).equation (at_source 2 3)) ≡ Done (Int (pos 2)) (at_source 0 4 ∷ at_source 0 6 ∷ at_source 0 7 ∷ [])
unfolding equations_of superclasses_of line_of int_wrap
own_second = refl

deep_second : run told ((equations_of boxes).equation (at_source 3 3)) ≡ Done (Int (pos 14)) (at_source 0 4 ∷ at_source 0 4 ∷ at_source 1 3 ∷ at_source 0 6 ∷ at_source 0 6 ∷ at_source 1 5 ∷ at_source 0 7 ∷ at_source 0 7 ∷ at_source 1 5 ∷ [])
unfolding equations_of superclasses_of line_of int_wrap
deep_second = refl

deep_third : run told ((equations_of boxes).equation (at_source 3 5)) ≡ Done (Int (pos 12)) (at_source 0 4 ∷ at_source 0 4 ∷ at_source 1 3 ∷ at_source 0 6 ∷ at_source 0 6 ∷ at_source 1 5 ∷ at_source 0 7 ∷ at_source 0 7 ∷ at_source 1 5 ∷ [])
unfolding equations_of superclasses_of line_of int_wrap
deep_third = refl

whole_third : run told ((equations_of boxes).equation (at_source 4 5)) ≡ Done (Int (pos 12)) (at_source 0 2 ∷ at_source 0 4 ∷ at_source 0 6 ∷ at_source 0 7 ∷ [])
unfolding equations_of superclasses_of line_of int_wrap
whole_third = refl

-- `T ::= A*; A ::= <V:int>; B : A;` with the tree `T([A(1), B(2), B(3)])`
abbrev list_classes : List Class
list_classes =
    record { name = codes "T"; abstract = false; superclass = None; components = record { name = codes "A"; number = 0; shape = shapes.List; class = class 1 } ∷ [] } ∷
    record { name = codes "A"; abstract = false; superclass = None; components = record { name = codes "V"; number = 1; shape = shapes.Int; class = class 0 } ∷ [] } ∷
    record { name = codes "B"; abstract = false; superclass = Some (class 1); components = record { name = codes "V"; number = 1; shape = shapes.Int; class = class 0 } ∷ [] } ∷
    []

-- `inh A A.next()` and `coll int A.c() [0] with sum`, to which `A contributes getV()` for `this`, `B contributes 10` for `this` and `A contributes 100`
-- for `next()`
abbrev lists : Program
lists = record {
  grammar = list_classes;
  rules = record {
    superclasses = superclasses_of list_classes;
    attributes = declared Inh 1 (kinds.Node (class 1)) None ∷ declared Coll 1 kinds.Int (Some (record { method = Sum; root = None })) ∷ [];
    equations = [];
    contributions = contributes 1 1 weight This ∷ contributes 2 1 (IntLiteral (pos 10)) This ∷ contributes 1 1 (IntLiteral (pos 100)) (call 0 This) ∷ [];
  };
  tree = leaf 0 0 0 (0 ∷ []) ∷ leaf 1 0 0 (1 ∷ []) ∷ leaf 2 0 0 (2 ∷ []) ∷ leaf 2 0 0 (3 ∷ []) ∷ [];
  texts = [] ∷ [];
  queries = [];
}

abbrev next_at : ℕ → Reference
next_at k = get_or (Null ∷ At (Source 2) ∷ At (Source 3) ∷ []) k Null

abbrev neighbours : Instance → Option Value
neighbours (Attribute a (At (Source k)) xs) = Some (Node (next_at k))
neighbours (Attribute a (At (Made b r ys q)) xs) = None
neighbours (Attribute a Null xs) = None
neighbours (Query q) = None

-- a contribution counts in the nodes of its class and of subclasses, one node may have several that count, and null is no receiver
abbrev all_nexts : List Instance
all_nexts = at_source 0 1 ∷ at_source 0 2 ∷ at_source 0 3 ∷ []

counted : (run neighbours ((equations_of lists).equation (at_source 1 1)) ≡ Done (Int (pos 1)) all_nexts) × (run neighbours ((equations_of lists).equation (at_source 1 2)) ≡ Done (Int (pos 112)) all_nexts) × (run neighbours ((equations_of lists).equation (at_source 1 3)) ≡ Done (Int (pos 113)) all_nexts)
unfolding equations_of superclasses_of line_of int_wrap
counted = (refl, refl, refl)

-- A contribution with the attributes 0, 1 and 2 as its condition, its receiver and its value, and two to a collection of truth values:
abbrev with_calls : Contribution
with_calls = record { class = class 0; target = record { 0 = 4 }; condition = call 0 This; receiver = call 1 This; value = call 2 This }

abbrev asked : Method → Kind → List Offer → Collection
asked m k os = record { method = m; kind = k; node = Source 0; offers = os }

abbrev asking : Program
asking = record {
  grammar = list_classes;
  rules = record {
    superclasses = superclasses_of list_classes;
    attributes = declared Syn 0 kinds.Truth None ∷ declared Syn 0 (kinds.Node (class 0)) None ∷ declared Syn 0 kinds.Int None ∷ declared Syn 0 kinds.Truth None ∷ [];
    equations = [];
    contributions = [];
  };
  tree = leaf 0 0 0 (0 ∷ []) ∷ [];
  texts = [] ∷ [];
  queries = [];
}

-- first the condition, then the receiver, then the value, each only where those before allow it
in_order : collection_demands (world_of asking) (asked Sum kinds.Int (offer with_calls 0 ∷ [])) ≡ Needs (at_source 0 0) (λ b. cond (truth b) (Needs (at_source 1 0) (λ r. cond (same_reference (node r) (At (Source 0))) (Needs (at_source 2 0) (λ v. Gives (combine Sum kinds.Int (Int (pos 0)) (as_kind kinds.Int v)))) (Gives (Int (pos 0))))) (Gives (Int (pos 0))))
in_order = refl

-- an offer that counts doesn't end an alternative: each is evaluated
abbrev of_truth : Contribution
of_truth = contributes 0 4 (TruthLiteral true) This

abbrev of_call : Contribution
of_call = contributes 0 4 (call 3 This) This

each_evaluated : collection_demands (world_of asking) (asked Or kinds.Truth (offer of_truth 0 ∷ offer of_call 0 ∷ [])) ≡ Needs (at_source 3 0) (λ v. Gives (Truth true))
each_evaluated = refl

-- values where nothing counts, and with values more
nothing : (fresh Add kinds.Texts ≡ Texts (set_of [])) × (fresh AddAll kinds.Texts ≡ Texts (set_of [])) × (fresh Sum kinds.Int ≡ Int (pos 0)) × (fresh Or kinds.Truth ≡ Truth false) × (fresh And kinds.Truth ≡ Truth true)
nothing = (refl, refl, refl, refl, refl)

wraps : combine Sum kinds.Int (Int (pos 2147483647)) (Int (pos 1)) ≡ Int (negsuc 2147483647)
unfolding int_wrap
wraps = refl

-- the texts of a set to which one is added, and to which all of another are added
one_more : (v : Value) (t q : List ℕ) → has (texts (combine Add kinds.Texts v (Text t))) q ≡ ((eq_by_cmp text_cmp q t || false) || has (texts v) q)
one_more v t q = has-union nat_list_cmp_total (texts v) (set_of (t ∷ [])) q ∙ ap (λ b. b || has (texts v) q) (has-set_of {R = text_cmp} nat_list_cmp_total (t ∷ []) q)

all_more : (v w : Value) (q : List ℕ) → has (texts (combine AddAll kinds.Texts v w)) q ≡ (has (texts w) q || has (texts v) q)
all_more v w q = has-union nat_list_cmp_total (texts v) (texts w) q

-- null adds no node
null_adds_nothing : (c : ClassId) (v : Value) (q : NodeName) → has (nodes (combine Add (kinds.Nodes c) v (Node Null))) q ≡ has (nodes v) q
null_adds_nothing c v q = has-union node_total (nodes v) no_elements q ∙ ap (λ b. b || has (nodes v) q) (has_none node_cmp q)
