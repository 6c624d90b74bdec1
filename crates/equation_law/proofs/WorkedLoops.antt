-- Loops, worked through the definitions: a class N, a tree of one N, and at it `x() = y()`, `y() = x()`, `z() = 5`,
-- `w() = x()`, `a() = false && b()` and `b() = a() || b()`. Each call is one at the root.
use Rattle.std.proofs.Common.{◌≡◌, ℕ, zero, suc, pos, true, false, cond, ◌||◌, List, [], ◌∷◌, Option, None, codes, refl, sym, subst}
use Rattle.superclasses.specs.Superclasses.{line_of}
use Rattle.ast_grammar.specs.Grammar.{Class, superclasses_of}
use Rattle.attr_rules.specs.declared.dispatch.Reach.TheVariants.{Own}
use Rattle.attr_rules.specs.declared.kinds.Kind.TheVariants as kinds
use Rattle.attr_rules.specs.Expression.{Expression, Truth as TruthLiteral, Int as IntLiteral, This, Call, no_more, And, Or}
use Rattle.attr_rules.specs.Rules.{Attribute as Declared, Equation, circular_at, plain_attribute}
use Rattle.solutions.specs.Asking.{Demands, Gives, Needs, Meets, here, later, next}
use Rattle.solutions.specs.Rounds.{Graph, IsStable, RoundsEnd, is_in, outer_rounds}
use Rattle.solutions.specs.Leading.{HasDemands, undeclared, none, more}
use Rattle.solutions.proofs.Finishing.{inner_stable}
use Rattle.solutions.proofs.Loops.{meets_at}
use Rattle.equation_law.specs.Names.{Instance, same_instance}
use Rattle.equation_law.specs.Values.{Value, Int, Truth, as_kind, truth}
use Rattle.equation_law.specs.Program.{Program, at_source}
use Rattle.equation_law.specs.Equations.{HasValue, equations_of, is_circular}
use Rattle.equation_law.specs.Loops.{Leads, HasLoop}
use Rattle.equation_law.proofs.Ended.{left_has_loop}
use Rattle.equation_law.proofs.Names.{same_instance_is}
use Rattle.equation_law.proofs.Solution.{loopless, none_circular}

-- a call at the root
abbrev pub call : ℕ → Expression
call a = Call a (record { line = 1; column = 1 }) This no_more

abbrev attributes : List Declared
attributes =
    record { name = codes "x"; declared = plain_attribute (record { 0 = 0 }) kinds.Truth; collecting = None } ∷
    record { name = codes "y"; declared = plain_attribute (record { 0 = 0 }) kinds.Truth; collecting = None } ∷
    record { name = codes "z"; declared = plain_attribute (record { 0 = 0 }) kinds.Int; collecting = None } ∷
    record { name = codes "w"; declared = plain_attribute (record { 0 = 0 }) kinds.Truth; collecting = None } ∷
    record { name = codes "a"; declared = plain_attribute (record { 0 = 0 }) kinds.Truth; collecting = None } ∷
    record { name = codes "b"; declared = plain_attribute (record { 0 = 0 }) kinds.Truth; collecting = None } ∷
    []

-- the equation of an attribute at N
abbrev at_n : ℕ → Expression → Equation
at_n a body = record { target = record { class = record { 0 = 0 }; reach = Own; attribute = record { 0 = a } }; body = body }

abbrev equations : List Equation
equations =
    at_n 0 (call 1) ∷ at_n 1 (call 0) ∷ at_n 2 (IntLiteral (pos 5)) ∷ at_n 3 (call 0) ∷ at_n 4 (And (TruthLiteral false) (call 5)) ∷ at_n 5 (Or (call 4) (call 5)) ∷ []

-- a class N
abbrev one_class : List Class
one_class = record { name = codes "N"; abstract = false; superclass = None; components = [] } ∷ []

-- the program with these attributes and equations, and a tree of one N
abbrev pub at_one_node : List Declared → List Equation → Program
at_one_node attributes equations = record {
  grammar = one_class;
  rules = record { superclasses = superclasses_of one_class; attributes = attributes; equations = equations; contributions = [] };
  tree = record { class = record { 0 = 0 }; parent = 0; component = 0; tokens = [] } ∷ [];
  texts = [] ∷ [];
  queries = [];
}

-- the program
abbrev looping : Program
looping = at_one_node attributes equations

abbrev x : Instance
x = at_source 0 0

abbrev y : Instance
y = at_source 1 0

abbrev z : Instance
z = at_source 2 0

abbrev w : Instance
w = at_source 3 0

abbrev a : Instance
a = at_source 4 0

abbrev b : Instance
b = at_source 5 0

-- no attribute is circular, so inner rounds over any list are at rest
plain : (a : ℕ) → circular_at attributes a ≡ false
plain zero = refl
plain (suc zero) = refl
plain (suc (suc zero)) = refl
plain (suc (suc (suc zero))) = refl
plain (suc (suc (suc (suc zero)))) = refl
plain (suc (suc (suc (suc (suc zero))))) = refl
plain (suc (suc (suc (suc (suc (suc a)))))) = refl

at_rest : (list : List Instance) (rounds : List ℕ) → IsStable (equations_of looping) list (outer_rounds (equations_of looping) list rounds) 0
unfolding equations_of
at_rest list rounds = inner_stable (equations_of looping) same_instance_is list (λ i m. none_circular looping plain i) (outer_rounds (equations_of looping) list rounds)

-- z is 5, whatever the rest does
five : HasValue looping z (Int (pos 5))
unfolding equations_of superclasses_of line_of
five = record { list = z ∷ []; rounds = 0 ∷ []; whole = (tt, at_rest (z ∷ []) []); given = refl }

-- x leads to y
x_to_y : Leads looping x y
unfolding equations_of superclasses_of line_of
x_to_y = undeclared refl here

-- and back
y_to_x : Leads looping y x
unfolding equations_of superclasses_of line_of
y_to_x = undeclared refl here

-- so x stands on a loop
x_loops : HasLoop looping x
unfolding equations_of
x_loops = record { on = x; to = none; undeclared_on = refl; then = y; out = x_to_y; back = more y_to_x none }

-- and has no value
x_has_none : (v : Value) → ¬ HasValue looping x v
x_has_none v h = loopless looping x v h x_loops

-- w leads into that loop without standing on it
w_loops : HasLoop looping w
unfolding equations_of superclasses_of line_of
w_loops = record { on = x; to = more (undeclared refl here) none; undeclared_on = refl; then = y; out = x_to_y; back = more y_to_x none }

-- a is false and demands nothing
a_false : HasValue looping a (Truth false)
unfolding equations_of superclasses_of line_of
a_false = record { list = a ∷ []; rounds = 0 ∷ []; whole = (tt, at_rest (a ∷ []) []); given = refl }

-- so it has no loop
a_loopless : ¬ HasLoop looping a
a_loopless = loopless looping a (Truth false) a_false

-- b demands a
b_to_a : Leads looping b a
unfolding equations_of superclasses_of line_of
b_to_a = undeclared refl here

-- and then itself
b_to_b : Leads looping b b
unfolding equations_of superclasses_of line_of
b_to_b = undeclared refl (later a_false here)

-- so b stands on a loop of one step
b_loops : HasLoop looping b
unfolding equations_of
b_loops = record { on = b; to = none; undeclared_on = refl; then = b; out = b_to_b; back = none }

-- the rounds over all six, run until nothing is added
abbrev names : List Instance
names = x ∷ y ∷ z ∷ w ∷ a ∷ b ∷ []

-- what they leave
abbrev left : Instance → Option Value
left = outer_rounds (equations_of looping) names (0 ∷ [])

-- what holds of the first of a list and of the rest holds of all of it
first_and_rest : (P : Instance → Type 0) (j : Instance) (js : List Instance) → P j → ((i : Instance) → is_in same_instance js i ≡ true → P i) → (i : Instance) → is_in same_instance (j ∷ js) i ≡ true → P i
first_and_rest P j js h r i m = elim (same_instance i j) as (λ c. same_instance i j ≡ c → (c || is_in same_instance js i) ≡ true → P i) [
  | true ↦ λ s q. subst P (sym (same_instance_is i j s)) h
  | false ↦ λ s q. r i q
] refl m

-- what holds of the six holds of all in the list
of_six : (P : Instance → Type 0) → P x → P y → P z → P w → P a → P b → (i : Instance) → is_in same_instance names i ≡ true → P i
of_six P hx hy hz hw ha hb =
    let from_b = first_and_rest P b [] hb (λ i m. absurd (cc)) in
    let from_a = first_and_rest P a (b ∷ []) ha from_b in
    let from_w = first_and_rest P w (a ∷ b ∷ []) hw from_a in
    let from_z = first_and_rest P z (w ∷ a ∷ b ∷ []) hz from_w in
    let from_y = first_and_rest P y (z ∷ w ∷ a ∷ b ∷ []) hy from_z in
    first_and_rest P x (y ∷ z ∷ w ∷ a ∷ b ∷ []) hx from_y

-- a second round over the list adds nothing
adds_none : (i : Instance) → outer_rounds (equations_of looping) names (0 ∷ 0 ∷ []) i ≡ left i
unfolding equations_of superclasses_of line_of
adds_none i = elim (is_in same_instance names i) as (λ c. is_in same_instance names i ≡ c → outer_rounds (equations_of looping) names (0 ∷ 0 ∷ []) i ≡ left i) [
  | true ↦ λ m. of_six (λ j. outer_rounds (equations_of looping) names (0 ∷ 0 ∷ []) j ≡ left j) refl refl refl refl refl refl i m
  | false ↦ λ m. let n : is_circular looping i ≡ false = none_circular looping plain i in rw (n, m)
] refl

-- so the rounds end there
ends : RoundsEnd (equations_of looping) names left
unfolding equations_of superclasses_of line_of
ends = record { rounds = 0 ∷ []; whole = (tt, at_rest names []); turns = 0; stable = at_rest names (0 ∷ []); last = adds_none; is = λ i. refl }

-- the one demand of an equation is of the list, and a value that isn't there leads no further
demands_one : (j n : Instance) (k : Value → Demands Instance Value) → is_in same_instance names j ≡ true → left j ≡ None → Meets (Graph left) (Needs j k) n → is_in same_instance names n ≡ true
demands_one j n k m e here = m
demands_one j n k m e (later q r) = absurd (cc)

-- b demands a, which is false, and then itself
demands_of_b : (n : Instance) → Meets (Graph left) ((equations_of looping).equation b) n → is_in same_instance names n ≡ true
unfolding equations_of superclasses_of line_of
demands_of_b n here = refl
demands_of_b n (later {w = v} q r) = let p : Truth false ≡ v = cc in demands_one b n _ refl refl (meets_at (λ u. next (cond (truth (as_kind kinds.Truth u)) (Gives (Truth true)) (Needs b (λ t. Gives (Truth (truth (as_kind kinds.Truth t)))))) (λ t. Gives (as_kind kinds.Truth t))) (sym p) r)

-- so the list has all demands
has_demands : HasDemands (equations_of looping) names left
unfolding equations_of superclasses_of line_of
has_demands i j m =
    of_six (λ k. (n : Instance) → Meets (Graph left) ((equations_of looping).equation k) n → is_in same_instance names n ≡ true)
    (λ n. demands_one y n _ refl refl)
    (λ n. demands_one x n _ refl refl)
    (λ n d. elim d [ ])
    (λ n. demands_one x n _ refl refl)
    (λ n d. elim d [ ])
    demands_of_b
    i m j

-- so what is left tells that y has a loop
y_loops : HasLoop looping y
unfolding equations_of superclasses_of line_of
y_loops = left_has_loop looping names left ends (λ i m. none_circular looping plain i) has_demands y refl refl
