-- The meaning of an expression: what it demands, in order, and the value that comes of it.
use Rattle.std.specs.Prelude.{ℕ, zero, suc, ℤ, pos, ◌+ℤ◌, ◌-ℤ◌, ◌*ℤ◌, neg_ℤ, int_lt, List, [], ◌∷◌, ◌++◌, map, Bool, true, false, not, cond, ◌&&◌, ◌||◌}
use Rattle.std.specs.Int.{int_wrap}
use Rattle.std.specs.List.{range_with_len}
use Rattle.std.specs.Ordering.{int_eq}
use Rattle.std.specs.Str.{bytes_eq}
use mir.Syntax.{w32}
use Rattle.attr_rules.specs.declared.kinds.Kind.{Kind}
use Rattle.ast_grammar.specs.declared.grammar.ClassId.{ClassId}
use Rattle.attr_rules.specs.declared.expression.Operator.{Operator}
use Rattle.attr_rules.specs.declared.expression.Operator.TheVariants.{Add, Subtract, Multiply, Less, AtMost, Greater, AtLeast, Equal}
use Rattle.attr_rules.specs.declared.expression.Quantifier.{Quantifier}
use Rattle.attr_rules.specs.declared.expression.Quantifier.TheVariants.{Any, All, First}
use Rattle.attr_rules.specs.declared.expression.SetOperator.TheVariants.{Union}
use Rattle.attr_rules.specs.Expression.{Expression, Arguments, no_more, argument, Truth as TruthLiteral, Int as IntLiteral, Text as TextLiteral, Null as NullLiteral, Empty, This, Variable, Source as SourceNode, Child, Element, Count, Has, Token, Call, Cast, InstanceOf, Quantified, QuantifiedSet, Each, EachOfSet, Sets, Single, Contains, Size, Not, Negate, Binary, And, Or, OrBoth, If, New, NewArguments, new_child, new_end, new_token}
use Rattle.solutions.specs.Asking.{Demands, Gives, Needs, next}
use Rattle.equation_law.specs.Names.{Argument, NodeName, Reference, Null, At, Instance, Attribute, same_reference}
use Rattle.equation_law.specs.Sets.{no_elements}
use Rattle.equation_law.specs.Values.{Value, Truth, Int, Text, Node, Texts, Nodes, Tree, truth, int, text, node, as_argument, as_arguments, as_kind, contains, default_of, elements_of, set_operate, single, size_of}

-- what the grammar, the rules and the tree say of attributes and nodes
pub record World : Type 0 where
  pub kind : ℕ → Kind
  -- the types of an attribute's parameters
  pub parameters : ℕ → List Kind
  -- the texts, by their numbers
  pub text : ℕ → List ℕ
  -- the source node of this number; where there is none it is null
  pub source : ℕ → Reference
  -- the child of a node at a component
  pub child : NodeName → ℕ → Reference
  -- the element of a node's list at a component, by its place in the list
  pub element : NodeName → ℕ → ℤ → Reference
  -- how many elements the list has
  pub count : NodeName → ℕ → ℕ
  -- whether a node is of the class or below
  pub is_of : ClassId → NodeName → Bool
  -- what the token of a node at a component, read at a type, demands, and its value
  pub token : Kind → NodeName → ℕ → Demands Instance Value

-- where an expression is read: the node of the equation, and the values of the names, by their numbers
pub record Place : Type 0 where
  pub this : Reference
  pub names : List Value

-- with one name more, which comes first
abbrev pub with_name : Place → Value → Place
with_name p v = record { this = p.this; names = v ∷ p.names }

-- the value of a name by its number; where there is none it is null
abbrev pub named : List Value → ℕ → Value
named [] k = Node Null
named (v ∷ vs) zero = v
named (v ∷ vs) (suc k) = named vs k

-- two truth values, integers, texts or nodes are equal; null equals itself alone
abbrev pub equal : Value → Value → Bool
equal (Truth a) w = cond a (truth w) (not (truth w))
equal (Int a) w = int_eq a (int w)
equal (Text t) w = bytes_eq t (text w)
equal (Node n) w = same_reference n (node w)
equal (Texts s) w = false
equal (Nodes s) w = false
equal (Tree r ts) w = false

-- a binary operator on two values; sums, differences and products wrap at 32 bits
abbrev pub operate : Operator → Value → Value → Value
operate Add v w = Int (int_wrap w32 (int v +ℤ int w))
operate Subtract v w = Int (int_wrap w32 (int v -ℤ int w))
operate Multiply v w = Int (int_wrap w32 (int v *ℤ int w))
operate Less v w = Truth (int_lt (int v) (int w))
operate AtMost v w = Truth (not (int_lt (int w) (int v)))
operate Greater v w = Truth (int_lt (int w) (int v))
operate AtLeast v w = Truth (not (int_lt (int v) (int w)))
operate Equal v w = Truth (equal v w)

-- an instance's value, read at the attribute's type
abbrev pub demand : Kind → Instance → Demands Instance Value
demand k i = Needs i (λ v. Gives (as_kind k v))

-- a call on a receiver with these arguments; on null it is the default of the type and demands nothing
abbrev pub call_at : World → ℕ → Reference → List Value → Demands Instance Value
call_at W a Null vs = Gives (default_of (W.kind a))
call_at W a (At n) vs = demand (W.kind a) (Attribute a (At n) (as_arguments (W.parameters a) vs))

-- the accessor of a child; on null, and where there is no optional child, it is null
abbrev pub child_at : World → ℕ → Reference → Reference
child_at W k Null = Null
child_at W k (At n) = W.child n k

-- the accessor of an element; on null, and at a place that the list doesn't have, it is null
abbrev pub element_at : World → ℕ → Reference → ℤ → Reference
element_at W k Null z = Null
element_at W k (At n) z = W.element n k z

-- the number of elements, which has 32 bits; on null it is 0
abbrev pub count_at : World → ℕ → Reference → ℤ
count_at W k Null = pos 0
count_at W k (At n) = int_wrap w32 (pos (W.count n k))

-- the elements of a list in their order; null has none
abbrev pub elements_at : World → ℕ → Reference → List Value
elements_at W k Null = []
elements_at W k (At n) = map (λ i. Node (W.element n k (pos i))) (range_with_len 0 (W.count n k))

-- the node where it is of the class or below; else null
abbrev pub cast_to : World → ClassId → Reference → Reference
cast_to W c Null = Null
cast_to W c (At n) = cond (W.is_of c n) (At n) Null

abbrev pub is_there : Reference → Bool
is_there Null = false
is_there (At n) = true

-- the accessor of a token; on null it is the default of the type and demands nothing
abbrev pub token_at : World → Kind → ℕ → Reference → Demands Instance Value
token_at W t k Null = Gives (default_of t)
token_at W t k (At n) = W.token t n k

abbrev pub is_instance : World → ClassId → Reference → Bool
is_instance W c Null = false
is_instance W c (At n) = W.is_of c n

-- what a condition says at the elements, all of them, put together from the left
abbrev pub at_each : (Bool → Bool → Bool) → Bool → List Value → (Value → Demands Instance Value) → Demands Instance Value
at_each o so_far [] condition = Gives (Truth so_far)
at_each o so_far (x ∷ xs) condition = next (condition x) (λ v. at_each o (o so_far (truth v)) xs condition)

-- the first element at which a condition is true; where there is none it is null
abbrev pub first_with : List Value → (Value → Demands Instance Value) → Demands Instance Value
first_with [] condition = Gives (Node Null)
first_with (x ∷ xs) condition = next (condition x) (λ v. cond (truth v) (Gives x) (first_with xs condition))

abbrev pub over_elements : Quantifier → List Value → (Value → Demands Instance Value) → Demands Instance Value
over_elements Any xs condition = at_each (λ a b. a || b) false xs condition
over_elements All xs condition = at_each (λ a b. a && b) true xs condition
over_elements First xs condition = first_with xs condition

-- the union, of a type, of what a body says at the elements, all of them, from the left
abbrev pub united : Kind → Value → List Value → (Value → Demands Instance Value) → Demands Instance Value
united t so_far [] body = Gives so_far
united t so_far (x ∷ xs) body = next (body x) (λ v. united t (set_operate Union t so_far v) xs body)

-- The parts are evaluated from the left. Of `&&`, `||` and `? :` only what is needed is.
abbrev mutual
  pub meaning_of : World → Expression → Place → Demands Instance Value
  meaning_of W (TruthLiteral b) p = Gives (Truth b)
  meaning_of W (IntLiteral z) p = Gives (Int z)
  meaning_of W (TextLiteral n) p = Gives (Text (W.text n))
  meaning_of W NullLiteral p = Gives (Node Null)
  meaning_of W Empty p = Gives (Nodes no_elements)
  meaning_of W This p = Gives (Node p.this)
  meaning_of W (Variable k) p = Gives (named p.names k)
  meaning_of W (SourceNode k) p = Gives (Node (W.source k))
  meaning_of W (Child k e) p = next (meaning_of W e p) (λ r. Gives (Node (child_at W k (node r))))
  meaning_of W (Element k e i) p = next (meaning_of W e p) (λ r. next (meaning_of W i p) (λ z. Gives (Node (element_at W k (node r) (int z)))))
  meaning_of W (Count k e) p = next (meaning_of W e p) (λ r. Gives (Int (count_at W k (node r))))
  meaning_of W (Has k e) p = next (meaning_of W e p) (λ r. Gives (Truth (is_there (child_at W k (node r)))))
  meaning_of W (Token t k e) p = next (meaning_of W e p) (λ r. token_at W t k (node r))
  meaning_of W (Call a at e es) p = next (meaning_of W e p) (λ r. with_arguments W es p (λ vs. call_at W a (node r) vs))
  meaning_of W (Cast c e) p = next (meaning_of W e p) (λ r. Gives (Node (cast_to W c (node r))))
  meaning_of W (InstanceOf c e) p = next (meaning_of W e p) (λ r. Gives (Truth (is_instance W c (node r))))
  meaning_of W (Quantified q k e b) p = next (meaning_of W e p) (λ r. over_elements q (elements_at W k (node r)) (λ x. meaning_of W b (with_name p x)))
  meaning_of W (QuantifiedSet q e b) p = next (meaning_of W e p) (λ s. over_elements q (elements_of s) (λ x. meaning_of W b (with_name p x)))
  meaning_of W (Each t k e b) p = next (meaning_of W e p) (λ r. united t (default_of t) (elements_at W k (node r)) (λ x. meaning_of W b (with_name p x)))
  meaning_of W (EachOfSet t e b) p = next (meaning_of W e p) (λ s. united t (default_of t) (elements_of s) (λ x. meaning_of W b (with_name p x)))
  meaning_of W (Sets o t a b) p = next (meaning_of W a p) (λ v. next (meaning_of W b p) (λ w. Gives (set_operate o t v w)))
  meaning_of W (Single e) p = next (meaning_of W e p) (λ v. Gives (single v))
  meaning_of W (Contains a b) p = next (meaning_of W a p) (λ v. next (meaning_of W b p) (λ w. Gives (Truth (contains v w))))
  meaning_of W (Size e) p = next (meaning_of W e p) (λ v. Gives (Int (int_wrap w32 (pos (size_of v)))))
  meaning_of W (Not e) p = next (meaning_of W e p) (λ v. Gives (Truth (not (truth v))))
  meaning_of W (Negate e) p = next (meaning_of W e p) (λ v. Gives (Int (int_wrap w32 (neg_ℤ (int v)))))
  meaning_of W (Binary o a b) p = next (meaning_of W a p) (λ v. next (meaning_of W b p) (λ w. Gives (operate o v w)))
  meaning_of W (And a b) p = next (meaning_of W a p) (λ v. cond (truth v) (next (meaning_of W b p) (λ w. Gives (Truth (truth w)))) (Gives (Truth false)))
  meaning_of W (Or a b) p = next (meaning_of W a p) (λ v. cond (truth v) (Gives (Truth true)) (next (meaning_of W b p) (λ w. Gives (Truth (truth w)))))
  meaning_of W (OrBoth a b) p = next (meaning_of W a p) (λ v. next (meaning_of W b p) (λ w. Gives (Truth (truth v || truth w))))
  meaning_of W (If c a at b) p = next (meaning_of W c p) (λ v. cond (truth v) (meaning_of W a p) (meaning_of W b p))
  -- what makes a tree is the equation; the expression by itself gives none
  meaning_of W (New c parts) p = Gives (Node Null)

  -- what follows the arguments, of which each is evaluated
  pub with_arguments : World → Arguments → Place → (List Value → Demands Instance Value) → Demands Instance Value
  with_arguments W no_more p then_do = then_do []
  with_arguments W (argument e es) p then_do = next (meaning_of W e p) (λ v. with_arguments W es p (λ vs. then_do (v ∷ vs)))

-- What follows the values of the tokens of a `new`, which are evaluated in the order in which they are written: those of a child where the child
-- stands.
abbrev pub with_tokens : World → NewArguments → Place → (List Argument → Demands Instance Value) → Demands Instance Value
with_tokens W new_end p then_do = then_do []
with_tokens W (new_token k e rest) p then_do = next (meaning_of W e p) (λ v. with_tokens W rest p (λ ts. then_do (as_argument k v ∷ ts)))
with_tokens W (new_child c parts rest) p then_do = with_tokens W parts p (λ ts. with_tokens W rest p (λ us. then_do (ts ++ us)))
