-- What a form makes of the values of its parts, where it evaluates all of them, the first one first, whatever these come to.
use Rattle.std.specs.Prelude.{◌≡◌, ◌||◌, ℕ, pos, neg_ℤ, not, Bool, true, false, Option, Some, None, Result, Ok, Err}
use Rattle.std.specs.Int.{int_wrap}
use mir.Syntax.{w32}
use Rattle.attr_rules.specs.Expression.{Expression, Truth as TruthLiteral, Int as IntLiteral, Text as TextLiteral, Null as NullLiteral, Empty, This, Variable, Source as SourceNode, Child, Element, Count, Has, Call, Cast, InstanceOf, Sets, Single, Contains, Size, Not, Negate, Binary, And, Or, OrBoth, If, New, expression_of}
use Rattle.attr_rules.specs.declared.kinds.Kind.{Kind}
use Rattle.attr_rules.specs.declared.expression.SetOperator.{SetOperator}
use Rattle.attr_rules.specs.declared.expression.TExpr.{TExpr}
use Rattle.attr_rules.specs.declared.expression.TExpr.TheVariants as kept
use Rattle.equation_law.specs.declared.coding.Value.{Value as CodedValue}
use Rattle.equation_law.specs.declared.coding.Value.TheVariants as coded
use Rattle.equation_law.specs.declared.system.System.{System}
use Rattle.equation_law.specs.Codes.{AreElements, ByEachNaming, Naming, value_by}
use Rattle.equation_law.specs.Meaning.{Place, World, cast_to, child_at, count_at, element_at, is_instance, is_there, named, operate}
use Rattle.equation_law.specs.Names.{Null as NoNode, Reference}
use Rattle.equation_law.specs.Program.{Program}
use Rattle.equation_law.specs.Sets.{no_elements}
use Rattle.equation_law.specs.Systems.{program_of}
use Rattle.equation_law.specs.Values.{Value, Truth, Int, Text, Node, Nodes, contains, int, node, set_operate, single, size_of, truth}
use Rattle.expr_eval.specs.declared.evaluation.Context.{Context}
use Rattle.expr_eval.specs.declared.evaluation.Halt.{Halt}
use Rattle.expr_eval.specs.declared.evaluation.Halt.TheVariants.{Memory}
use Rattle.expr_eval.specs.declared.parts.Parts.{Parts}
use Rattle.expr_eval.specs.declared.parts.Parts.TheVariants as parts
use Rattle.expr_eval.specs.Evaluating.{place_in, world_in}

-- a form without parts that are evaluated: a `new` has none here
abbrev pub is_leaf : Expression → Bool
is_leaf (TruthLiteral b) = true
is_leaf (IntLiteral z) = true
is_leaf (TextLiteral n) = true
is_leaf NullLiteral = true
is_leaf Empty = true
is_leaf This = true
is_leaf (Variable k) = true
is_leaf (SourceNode k) = true
is_leaf (New c fields) = true
is_leaf _ = false

-- its value; that of any other form is of no account
abbrev pub leaf_value : World → Place → Expression → Value
leaf_value W place (TruthLiteral b) = Truth b
leaf_value W place (IntLiteral z) = Int z
leaf_value W place (TextLiteral n) = Text (W.text n)
leaf_value W place Empty = Nodes no_elements
leaf_value W place This = Node place.this
leaf_value W place (Variable k) = named place.names k
leaf_value W place (SourceNode k) = Node (W.source k)
leaf_value W place _ = Node NoNode

-- its value in a context, by what codes stand for
abbrev pub leaf_in : Context → Expression → Naming → Value
leaf_in c e n = leaf_value (world_in c.system.now) (place_in c n) e

-- the part of a form that makes its value of that of one part
abbrev pub part_of : TExpr → Option TExpr
part_of (kept.Count' k p a) = Some a
part_of (kept.Single' p a) = Some a
part_of (kept.Size' p a) = Some a
part_of (kept.Not' p a) = Some a
part_of (kept.Negate' p a) = Some a
part_of _ = None

-- what it makes
abbrev pub made_of_one : World → Expression → Value → Value
made_of_one W (Count k e) v = Int (count_at W k (node v))
made_of_one W (Single e) v = single v
made_of_one W (Size e) v = Int (int_wrap w32 (pos (size_of v)))
made_of_one W (Not e) v = Truth (not (truth v))
made_of_one W (Negate e) v = Int (int_wrap w32 (neg_ℤ (int v)))
made_of_one W _ v = v

-- a form makes the second value of the first, which is that of its part
abbrev pub IsMadeOfOne : System → Expression → CodedValue → CodedValue → Type 0
IsMadeOfOne s e part whole = ByEachNaming (program_of s) (λ n. value_by n whole ≡ made_of_one (world_in s) e (value_by n part))

-- the part of a form that makes its value of the node of one part
abbrev pub node_part : TExpr → Option TExpr
node_part (kept.Child' k p a) = Some a
node_part (kept.Has' k p a) = Some a
node_part (kept.Cast' c p a) = Some a
node_part (kept.InstanceOf' c p a) = Some a
node_part _ = None

abbrev pub is_node_form : Expression → Bool
is_node_form (Child k e) = true
is_node_form (Has k e) = true
is_node_form (Cast c e) = true
is_node_form (InstanceOf c e) = true
is_node_form _ = false

-- what it makes; that of any other form is of no account
abbrev pub made_of_node : World → Expression → Reference → Value
made_of_node W (Child k e) r = Node (child_at W k r)
made_of_node W (Has k e) r = Truth (is_there (child_at W k r))
made_of_node W (Cast c e) r = Node (cast_to W c r)
made_of_node W (InstanceOf c e) r = Truth (is_instance W c r)
made_of_node W _ r = Node r

-- the type at which a form reads a token, the token's component, and the part that gives the node
abbrev pub token_read : TExpr → Option (Kind × ℕ × TExpr)
token_read (kept.Token' t k p a) = Some (t, k.0, a)
token_read _ = None

-- the parts of a form that makes its value of those of two
abbrev pub parts_of : TExpr → Option (TExpr × TExpr)
parts_of (kept.Element' k p a q b) = Some (a, b)
parts_of (kept.Sets' o t p a q b) = Some (a, b)
parts_of (kept.Contains' p a q b) = Some (a, b)
parts_of (kept.Binary' o p a q b) = Some (a, b)
parts_of (kept.OrBoth' p a q b) = Some (a, b)
parts_of _ = None

-- what it makes
abbrev pub made_of_two : World → Expression → Value → Value → Value
made_of_two W (Element k a b) v w = Node (element_at W k (node v) (int w))
made_of_two W (Sets o t a b) v w = set_operate o t v w
made_of_two W (Contains a b) v w = Truth (contains v w)
made_of_two W (Binary o a b) v w = operate o v w
made_of_two W (OrBoth a b) v w = Truth (truth v || truth w)
made_of_two W _ v w = v

-- a form makes the third value of the first two, which are those of its parts
abbrev pub IsMadeOfTwo : System → Expression → CodedValue → CodedValue → CodedValue → Type 0
IsMadeOfTwo s e first second whole = ByEachNaming (program_of s) (λ n. value_by n whole ≡ made_of_two (world_in s) e (value_by n first) (value_by n second))

-- the third set is what an operator on sets of a type makes of the first two
abbrev pub IsCombined : System → SetOperator → Kind → CodedValue → CodedValue → CodedValue → Type 0
IsCombined s o t left right both = ByEachNaming (program_of s) (λ n. value_by n both ≡ set_operate o t (value_by n left) (value_by n right))

-- what the elements of a form over elements come from, and what it says at them
abbrev pub range_and_body : TExpr → Option (TExpr × TExpr)
range_and_body (kept.Quantified' q k p a r b) = Some (a, b)
range_and_body (kept.QuantifiedSet' q p a r b) = Some (a, b)
range_and_body (kept.Each' t k p a r b) = Some (a, b)
range_and_body (kept.EachOfSet' t p a r b) = Some (a, b)
range_and_body _ = None

-- a call, or a form in which a condition chooses what is evaluated
abbrev pub is_further : Expression → Bool
is_further (Call a at e es) = true
is_further (And a b) = true
is_further (Or a b) = true
is_further (If c a at b) = true
is_further _ = false

-- the parts of a form
abbrev pub AreParts : TExpr → Parts → Type 0
AreParts e parts.Leaf = is_leaf (expression_of e) ≡ true
AreParts e (parts.One a) = part_of e ≡ Some a.now
AreParts e (parts.Node a) = node_part e ≡ Some a.now
AreParts e (parts.Token t k a) = token_read e ≡ Some (t.now, k.now.0, a.now)
AreParts e (parts.Two a b) = parts_of e ≡ Some (a.now, b.now)
AreParts e (parts.Over a b) = range_and_body e ≡ Some (a.now, b.now)
AreParts e parts.Further = is_further (expression_of e) ≡ true

-- this value is made, by what codes stand for, unless there is not enough memory for it
abbrev pub IsMade : Program → (Naming → Value) → Result CodedValue Halt → Type 0
IsMade p w (Ok x) = ByEachNaming p (λ n. value_by n x ≡ w n) × AreElements p x
IsMade p w (Err k) = k ≡ Memory

-- what is made of the value of a part, if it has one; why it has none is handed on
abbrev pub OneMakes : Program → (Value → Value) → Result CodedValue Halt → Result CodedValue Halt → Type 0
OneMakes p f (Ok v) whole = IsMade p (λ n. f (value_by n v)) whole
OneMakes p f (Err h) whole = whole ≡ Err h

-- the same of two parts, of which the first has a value
abbrev pub TwoMake : Program → (Value → Value → Value) → Result CodedValue Halt → Result CodedValue Halt → Result CodedValue Halt → Type 0
TwoMake p f (Ok v) (Ok w) whole = IsMade p (λ n. f (value_by n v) (value_by n w)) whole
TwoMake p f (Ok v) (Err h) whole = whole ≡ Err h
TwoMake p f (Err h) second whole = Unit {0}

-- the truth value of what came
abbrev pub IsRounded : Result CodedValue Halt → Result CodedValue Halt → Type 0
IsRounded (Ok v) whole = (t : Bool) × ((n : Naming) → t ≡ truth (value_by n v)) × (whole ≡ Ok (coded.Truth t))
IsRounded (Err h) whole = whole ≡ Err h

abbrev pub IsSaid : Result CodedValue Halt → Option Bool → Type 0
IsSaid (Ok v) answer = (t : Bool) × ((n : Naming) → t ≡ truth (value_by n v)) × (answer ≡ Some t)
IsSaid (Err h) answer = answer ≡ None
