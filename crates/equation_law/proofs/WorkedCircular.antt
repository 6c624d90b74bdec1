-- Circular attributes, worked through the definitions. First a class N, a tree of one N, and at it the circular `x() = y()` and `y() = x()`, which
-- are both false; `c() = d()` with the circular `d() = c()`, so that c has a loop; `e() = !e()`, which isn't rising; and what `||` demands. Then
-- a ring of two nodes, each of which reaches both.
use Rattle.std.proofs.Common.{◌≡◌, ℕ, suc, Bool, true, false, ◌||◌, List, [], ◌∷◌, map, Option, Some, None, codes, refl, sym, ap, subst, ◌∙◌, inl, inr}
use Rattle.std.specs.Ordering.{eq_by_cmp}
use Rattle.superclasses.specs.Superclasses.{line_of}
use Rattle.ast_grammar.specs.declared.grammar.Shape.TheVariants as shapes
use Rattle.ast_grammar.specs.Grammar.{Class, superclasses_of}
use Rattle.attr_rules.specs.declared.dispatch.Reach.{Reach}
use Rattle.attr_rules.specs.declared.dispatch.Reach.TheVariants.{Own}
use Rattle.attr_rules.specs.declared.expression.SetOperator.TheVariants.{Union}
use Rattle.attr_rules.specs.declared.kinds.Attr.{Attr}
use Rattle.attr_rules.specs.declared.kinds.Kind.TheVariants as kinds
use Rattle.attr_rules.specs.declared.kinds.Sort.TheVariants.{Syn, Inh}
use Rattle.attr_rules.specs.declared.kinds.Start.TheVariants.{Plain, False, Empty}
use Rattle.attr_rules.specs.Expression.{Expression, Truth as TruthLiteral, This, Child, Call, no_more, EachOfSet, Not, Or, OrBoth, Sets, Single, Variable}
use Rattle.attr_rules.specs.Rules.{Equation, at_component, no_params, plain_attribute}
use Rattle.solutions.specs.Asking.{Demands, Ends, Gives, Needs, asks, gives, here, next}
use Rattle.solutions.specs.Rounds.{Graph, IsStable, inner_rounds, is_in, outer_rounds, over}
use Rattle.solutions.specs.Leading.{bottoms, circular, more, none, undeclared}
use Rattle.solutions.proofs.Runs.{inner_in, inner_turn, option_cases}
use Rattle.equation_law.specs.Names.{At, Instance, NodeName, Source, node_cmp, same_instance}
use Rattle.equation_law.specs.Sets.{SetBy, elements, has, no_elements, set_of, union}
use Rattle.equation_law.specs.Values.{Node, Nodes, Truth, Value, as_kind, of_node, set_operate}
use Rattle.equation_law.specs.Program.{Program, at_source}
use Rattle.equation_law.specs.Equations.{HasValue, equations_of, place_at, world_of}
use Rattle.equation_law.specs.Loops.{HasLoop}
use Rattle.equation_law.specs.Lower.{IsLower}
use Rattle.equation_law.specs.Meaning.{meaning_of, united, with_name}
use Rattle.equation_law.proofs.Names.{node_anti, same_instance_is}
use Rattle.equation_law.proofs.Orders.{at_most_itself, node_total}
use Rattle.equation_law.proofs.Sets.{has-set_of, has-union, has_none, or_nothing, same_parts}
use Rattle.equation_law.proofs.SetsOrder.{elements_none, elements_set_of}
use Rattle.equation_law.proofs.Solution.{are_rising, loopless}
use Rattle.equation_law.proofs.WorkedLoops.{at_one_node, call}

-- what holds of all in a list
abbrev Each : (Instance → Type 0) → List Instance → Type 0
Each P [] = Unit {0}
Each P (j ∷ js) = P j × Each P js

of_each : (P : Instance → Type 0) (js : List Instance) → Each P js → (i : Instance) → is_in same_instance js i ≡ true → P i
of_each P [] h i m = absurd (cc)
of_each P (j ∷ js) h i m = elim (same_instance i j) as (λ c. same_instance i j ≡ c → (c || is_in same_instance js i) ≡ true → P i) [
  | true ↦ λ s q. subst P (sym (same_instance_is i j s)) h.0
  | false ↦ λ s q. of_each P js h.1 i q
] refl m

-- inner rounds are at rest where none of the list changes
stable_on : (p : Program) (list : List Instance) (S : Instance → Option Value) (n : ℕ) → Each (λ i. inner_rounds (equations_of p) list S (suc n) i ≡ inner_rounds (equations_of p) list S n i) list → IsStable (equations_of p) list S n
unfolding equations_of
stable_on p list S n h i =
    elim (is_in same_instance list i) as (λ b. is_in same_instance list i ≡ b → inner_rounds (equations_of p) list S (suc n) i ≡ inner_rounds (equations_of p) list S n i) [
      | true ↦ λ m. of_each (λ j. inner_rounds (equations_of p) list S (suc n) j ≡ inner_rounds (equations_of p) list S n j) list h i m
      | false ↦ λ m. none_there (suc n) m ∙ sym (none_there n m)
    ] refl
  where
    none_there : (k : ℕ) → is_in same_instance list i ≡ false → inner_rounds (equations_of p) list S k i ≡ None
    none_there k m = elim (option_cases (inner_rounds (equations_of p) list S k i)) [
      | inl s ↦ let t = inner_in (equations_of p) list S k i s.0 s.1 in absurd (cc)
      | inr s ↦ s
    ]

-- a circular boolean of the first class
abbrev circular_truth : Attr
circular_truth = record { class = record { 0 = 0 }; sort = Syn; kind = kinds.Truth; params = no_params; circular = true; start = False }

-- the equation of an attribute at nodes of a class
abbrev equation_at : ℕ → Reach → ℕ → Expression → Equation
equation_at c r a body = record { target = record { class = record { 0 = c }; reach = r; attribute = record { 0 = a } }; body = body }

abbrev booleans : Program
booleans =
    at_one_node
    (record { name = codes "x"; declared = circular_truth; collecting = None } ∷
    record { name = codes "y"; declared = circular_truth; collecting = None } ∷
    record { name = codes "c"; declared = plain_attribute (record { 0 = 0 }) kinds.Truth; collecting = None } ∷
    record { name = codes "d"; declared = circular_truth; collecting = None } ∷
    record { name = codes "e"; declared = circular_truth; collecting = None } ∷
    [])
    (equation_at 0 Own 0 (call 1) ∷ equation_at 0 Own 1 (call 0) ∷ equation_at 0 Own 2 (call 3) ∷ equation_at 0 Own 3 (call 2) ∷ equation_at 0 Own 4 (Not (call 4)) ∷ [])

abbrev x : Instance
x = at_source 0 0

abbrev y : Instance
y = at_source 1 0

abbrev c : Instance
c = at_source 2 0

abbrev d : Instance
d = at_source 3 0

abbrev e : Instance
e = at_source 4 0

-- x and y start at false, and stay there
two_at_rest : IsStable (equations_of booleans) (x ∷ y ∷ []) (outer_rounds (equations_of booleans) (x ∷ y ∷ []) []) 0
unfolding equations_of superclasses_of line_of
two_at_rest = stable_on booleans (x ∷ y ∷ []) (outer_rounds (equations_of booleans) (x ∷ y ∷ []) []) 0 (refl, (refl, tt))

x_false : HasValue booleans x (Truth false)
unfolding equations_of superclasses_of line_of
x_false = record { list = x ∷ y ∷ []; rounds = 0 ∷ []; whole = (tt, two_at_rest); given = refl }

y_false : HasValue booleans y (Truth false)
unfolding equations_of superclasses_of line_of
y_false = record { list = x ∷ y ∷ []; rounds = 0 ∷ []; whole = (tt, two_at_rest); given = refl }

-- they lead to each other, and yet have no loop
x_loopless : ¬ HasLoop booleans x
x_loopless = loopless booleans x (Truth false) x_false

-- alone, x is stuck at y, and drops out
x_alone : inner_rounds (equations_of booleans) (x ∷ []) (outer_rounds (equations_of booleans) (x ∷ []) []) 1 x ≡ None
unfolding equations_of superclasses_of line_of
x_alone = refl

-- the bottoms are a lower assignment
bottoms_lower : IsLower booleans (equations_of booleans).bottom
unfolding equations_of superclasses_of line_of
bottoms_lower = record { top = (equations_of booleans).bottom; reached = bottoms; fits = (are_rising booleans).start; below = λ j q. at_most_itself _ }

-- c leads to d, and d, which is circular, back to c
c_loops : HasLoop booleans c
unfolding equations_of superclasses_of line_of
c_loops = record { on = c; to = none; undeclared_on = refl; then = d; out = undeclared refl here; back = more (circular refl (equations_of booleans).bottom bottoms_lower here) none }

-- e, whose equation doesn't rise, breaks the rules: it counts as undeclared, and has a loop
e_undeclared : (equations_of booleans).circular e ≡ false
unfolding equations_of superclasses_of line_of
e_undeclared = refl

e_loops : HasLoop booleans e
unfolding equations_of superclasses_of line_of
e_loops = record { on = e; to = none; undeclared_on = refl; then = e; out = undeclared refl here; back = none }

-- `true || c()` demands nothing, and where both sides are evaluated it demands c
short : meaning_of (world_of booleans) (Or (TruthLiteral true) (call 2)) (place_at 0) ≡ Gives (Truth true)
short = refl

both_sides : meaning_of (world_of booleans) (OrBoth (TruthLiteral true) (call 2)) (place_at 0) ≡ Needs c (λ v. Gives (Truth true))
unfolding superclasses_of line_of
both_sides = refl

-- `R ::= a:N b:N; N;` with `inh N N.next();`, which goes from each of the two to the other, and
-- `syn Set<N> N.reach() circular [empty] = union(single(next()), next().reach());` and
-- `syn Set<N> N.all() circular [empty] = union(single(next()), each(x : all() | single(x.next())));`
abbrev two_classes : List Class
two_classes =
    record {
      name = codes "R";
      abstract = false;
      superclass = None;
      components = record { name = codes "a"; number = 0; shape = shapes.Child; class = record { 0 = 1 } } ∷ record { name = codes "b"; number = 1; shape = shapes.Child; class = record { 0 = 1 } } ∷ [];
    } ∷
    record { name = codes "N"; abstract = false; superclass = None; components = [] } ∷
    []

-- `single(x.next())`
abbrev next_of_element : Expression
next_of_element = Single (Call 0 (record { line = 1; column = 1 }) (Variable 0) no_more)

abbrev ring : Program
ring = record {
  grammar = two_classes;
  rules = record {
    superclasses = superclasses_of two_classes;
    attributes =
        record { name = codes "next"; declared = record { class = record { 0 = 1 }; sort = Inh; kind = kinds.Node (record { 0 = 1 }); params = no_params; circular = false; start = Plain }; collecting = None } ∷
        record { name = codes "reach"; declared = record { class = record { 0 = 1 }; sort = Syn; kind = kinds.Nodes (record { 0 = 1 }); params = no_params; circular = true; start = Empty }; collecting = None } ∷
        record { name = codes "all"; declared = record { class = record { 0 = 1 }; sort = Syn; kind = kinds.Nodes (record { 0 = 1 }); params = no_params; circular = true; start = Empty }; collecting = None } ∷
        [];
    equations =
        equation_at 0 (at_component 0) 0 (Child 1 This) ∷
        equation_at 0 (at_component 1) 0 (Child 0 This) ∷
        equation_at 1 Own 1 (Sets Union (kinds.Nodes (record { 0 = 1 })) (Single (call 0)) (Call 1 (record { line = 1; column = 1 }) (call 0) no_more)) ∷
        equation_at 1 Own 2 (Sets Union (kinds.Nodes (record { 0 = 1 })) (Single (call 0)) (EachOfSet (kinds.Nodes (record { 0 = 1 })) (call 2) next_of_element)) ∷
        [];
    contributions = [];
  };
  tree =
      record { class = record { 0 = 0 }; parent = 0; component = 0; tokens = 0 ∷ 0 ∷ [] } ∷
      record { class = record { 0 = 1 }; parent = 0; component = 0; tokens = [] } ∷
      record { class = record { 0 = 1 }; parent = 0; component = 1; tokens = [] } ∷
      [];
  texts = [] ∷ [];
  queries = [];
}

-- the two nodes, and sets of one
abbrev first : SetBy node_cmp
first = set_of (Source 1 ∷ [])

abbrev second : SetBy node_cmp
second = set_of (Source 2 ∷ [])

-- the instances
abbrev names : List Instance
names = at_source 0 1 ∷ at_source 0 2 ∷ at_source 1 1 ∷ at_source 1 2 ∷ []

-- in the first outer round next is settled, and reach is stuck
reach_stuck : IsStable (equations_of ring) names (outer_rounds (equations_of ring) names []) 1
unfolding equations_of superclasses_of line_of
reach_stuck = stable_on ring names (outer_rounds (equations_of ring) names []) 1 (refl, (refl, (refl, (refl, tt))))

-- sets with the same members
same_members : (s t : SetBy node_cmp) → ((q : NodeName) → has s q ≡ has t q) → s ≡ t
same_members s t h = same_parts node_total node_anti s t (λ q e. sym (h q) ∙ e) (λ q e. h q ∙ e)

has_three : (s t u : SetBy node_cmp) (q : NodeName) → has (union s (union t u)) q ≡ ((has u q || has t q) || has s q)
has_three s t u q = has-union node_total s (union t u) q ∙ ap (λ b. b || has s q) (has-union node_total t u q)

-- a set that stands there already adds nothing
nothing_new : (a b : Bool) → (((false || b) || a) || b) ≡ ((false || a) || b)
nothing_new true true = refl
nothing_new true false = refl
nothing_new false true = refl
nothing_new false false = refl

no_more_come : (s t : SetBy node_cmp) → union s (union t (union s no_elements)) ≡ union s (union t no_elements)
no_more_come s t = same_members (union s (union t (union s no_elements))) (union s (union t no_elements)) (λ q.
    has_three s t (union s no_elements) q
    ∙ ap (λ b. (b || has t q) || has s q) (has-union node_total s no_elements q ∙ ap (λ b. b || has s q) (has_none node_cmp q))
    ∙ nothing_new (has t q) (has s q)
    ∙ sym (has_three s t no_elements q ∙ ap (λ b. (b || has t q) || has s q) (has_none node_cmp q)))

-- in the second outer round reach comes to rest after two turns
reach_rests : IsStable (equations_of ring) names (outer_rounds (equations_of ring) names (1 ∷ [])) 2
unfolding equations_of superclasses_of line_of
reach_rests = stable_on ring names (outer_rounds (equations_of ring) names (1 ∷ [])) 2 (refl, (refl, (ap (λ s. Some (Nodes s)) (no_more_come second first), (ap (λ s. Some (Nodes s)) (no_more_come first second), tt))))

two_of : (a b : Bool) → ((false || (a || false)) || (b || false)) ≡ (a || (b || false))
two_of true b = refl
two_of false b = refl

-- with both nodes
both_nodes : union second (union first no_elements) ≡ set_of (Source 1 ∷ Source 2 ∷ [])
both_nodes = same_members (union second (union first no_elements)) (set_of (Source 1 ∷ Source 2 ∷ [])) (λ q.
    has_three second first no_elements q
    ∙ ap (λ b. (b || has first q) || has second q) (has_none node_cmp q)
    ∙ ap (λ b. (false || b) || has second q) (has-set_of {R = node_cmp} node_total (Source 1 ∷ []) q)
    ∙ ap (λ b. (false || (eq_by_cmp node_cmp q (Source 1) || false)) || b) (has-set_of {R = node_cmp} node_total (Source 2 ∷ []) q)
    ∙ two_of (eq_by_cmp node_cmp q (Source 1)) (eq_by_cmp node_cmp q (Source 2))
    ∙ sym (has-set_of {R = node_cmp} node_total (Source 1 ∷ Source 2 ∷ []) q))

reach_both : HasValue ring (at_source 1 1) (Nodes (set_of (Source 1 ∷ Source 2 ∷ [])))
unfolding equations_of superclasses_of line_of
reach_both = record { list = names; rounds = 2 ∷ 1 ∷ []; whole = ((tt, reach_stuck), reach_rests); given = ap (λ s. Some (Nodes s)) both_nodes }

-- all, at the first node alone: it goes over its own growing set
abbrev all : Instance
all = at_source 2 1

abbrev three : List Instance
three = at_source 0 1 ∷ at_source 0 2 ∷ all ∷ []

-- next is settled
abbrev settled : Instance → Option Value
settled = outer_rounds (equations_of ring) three (1 ∷ [])

abbrev turn : ℕ → Instance → Option Value
turn n = inner_rounds (equations_of ring) three settled n

-- what is demanded at these elements
abbrev over_nodes : List NodeName → Demands Instance Value
over_nodes ns = next (next (united (kinds.Nodes (record { 0 = 1 })) (Nodes no_elements) (map of_node ns) (λ x. meaning_of (world_of ring) next_of_element (with_name (place_at 1) x))) (λ w. Gives (set_operate Union (kinds.Nodes (record { 0 = 1 })) (Nodes second) w))) (λ v. Gives (as_kind (kinds.Nodes (record { 0 = 1 })) v))

-- one turn, by the elements of what the last one left
turned : (n : ℕ) (s : SetBy node_cmp) (ns : List NodeName) (v : Value) (demands : List Instance) → turn n all ≡ Some (Nodes s) → elements s ≡ ns → Ends (Graph (over settled (turn n))) (over_nodes ns) v demands → turn (suc n) all ≡ Some v
unfolding equations_of superclasses_of line_of
turned n s ns v demands p q e =
    inner_turn (equations_of ring) three settled n all (Nodes s) v (at_source 0 1 ∷ all ∷ demands) p (asks {w = Node (At (Source 2))} refl (asks {w = Nodes s} p (subst (λ (ms : List NodeName). Ends (Graph (over settled (turn n))) (over_nodes ms) v demands) (sym q) e)))

-- the elements of sets of these nodes
abbrev nobody : SetBy node_cmp
nobody = no_elements

abbrev both : SetBy node_cmp
both = set_of (Source 1 ∷ Source 2 ∷ [])

elements_both : elements both ≡ Source 1 ∷ Source 2 ∷ []
elements_both = elements_set_of node_total node_anti (Source 1 ∷ Source 2 ∷ [])

elements_second : elements second ≡ Source 2 ∷ []
elements_second = elements_set_of node_total node_anti (Source 2 ∷ [])

-- from the empty set to the second node, and then to both
second_alone : union second nobody ≡ second
second_alone = same_members (union second nobody) second (λ q. has-union node_total second nobody q ∙ ap (λ b. b || has second q) (has_none node_cmp q))

then_both : union second (union nobody first) ≡ both
then_both = same_members (union second (union nobody first)) both (λ q.
    has_three second nobody first q
    ∙ ap (λ b. (has first q || b) || has second q) (has_none node_cmp q)
    ∙ ap (λ b. b || has second q) (or_nothing (has first q) false refl)
    ∙ sym (has_three second first no_elements q ∙ ap (λ b. (b || has first q) || has second q) (has_none node_cmp q))
    ∙ ap (λ t. has t q) both_nodes)

still_both : union second (union (union nobody second) first) ≡ both
still_both = same_members (union second (union (union nobody second) first)) both (λ q.
    has_three second (union nobody second) first q
    ∙ ap (λ b. (has first q || b) || has second q) (has-union node_total nobody second q ∙ ap (λ b. has second q || b) (has_none node_cmp q))
    ∙ twice (has first q) (has second q)
    ∙ sym (has_three second first no_elements q ∙ ap (λ b. (b || has first q) || has second q) (has_none node_cmp q))
    ∙ ap (λ t. has t q) both_nodes)
  where
    twice : (a b : Bool) → ((a || (b || false)) || b) ≡ ((false || a) || b)
    twice true b = refl
    twice false true = refl
    twice false false = refl

first_turn : turn 1 all ≡ Some (Nodes second)
unfolding equations_of superclasses_of line_of
first_turn = turned 0 nobody [] (Nodes (union second nobody)) [] refl (elements_none node_cmp) gives ∙ ap (λ s. Some (Nodes s)) second_alone

second_turn : turn 2 all ≡ Some (Nodes both)
unfolding equations_of superclasses_of line_of
second_turn = turned 1 second (Source 2 ∷ []) (Nodes (union second (union nobody first))) (at_source 0 2 ∷ []) first_turn elements_second (asks {w = Node (At (Source 1))} refl gives) ∙ ap (λ s. Some (Nodes s)) then_both

third_turn : turn 3 all ≡ Some (Nodes both)
unfolding equations_of superclasses_of line_of
third_turn =
    turned 2 both (Source 1 ∷ Source 2 ∷ []) (Nodes (union second (union (union nobody second) first))) (at_source 0 1 ∷ at_source 0 2 ∷ []) second_turn elements_both (asks {w = Node (At (Source 2))} refl (asks {w = Node (At (Source 1))} refl gives))
    ∙ ap (λ s. Some (Nodes s)) still_both

-- so all is both nodes
all_stuck : IsStable (equations_of ring) three (outer_rounds (equations_of ring) three []) 1
unfolding equations_of superclasses_of line_of
all_stuck = stable_on ring three (outer_rounds (equations_of ring) three []) 1 (refl, (refl, (refl, tt)))

all_rests : IsStable (equations_of ring) three settled 2
unfolding equations_of superclasses_of line_of
all_rests = stable_on ring three settled 2 (refl, (refl, (third_turn ∙ sym second_turn, tt)))

all_both : HasValue ring all (Nodes both)
unfolding equations_of superclasses_of line_of
all_both = record { list = three; rounds = 2 ∷ 1 ∷ []; whole = ((tt, all_stuck), all_rests); given = second_turn }
