-- The types of expressions as they are written, and what they say.
use Rattle.std.specs.Prelude.{◌≡◌, ◌≢◌, ℕ, suc, pos, List, [], ◌∷◌, Option, Some, None}
use Rattle.std.specs.Int.{int_wrap}
use Rattle.std.specs.Option.{option_and_then, option_map}
use mir.Syntax.{w32}
use Rattle.rag_io.specs.declared.token.Place.{Place}
use Rattle.ast_grammar.specs.Grammar.{Class, class_named}
use Rattle.attr_rules.specs.declared.accessors.Access.{Access}
use Rattle.attr_rules.specs.declared.accessors.Access.TheVariants as access
use Rattle.attr_rules.specs.declared.accessors.Accessor.{Accessor}
use Rattle.attr_rules.specs.declared.expression.Operator.TheVariants as kept
use Rattle.attr_rules.specs.declared.expression.Quantifier as kept_quantifier
use Rattle.attr_rules.specs.declared.expression.Quantifier.TheVariants as kept_quantifiers
use Rattle.attr_rules.specs.declared.kinds.Kind.{Kind}
use Rattle.attr_rules.specs.declared.kinds.Kind.TheVariants as kinds
use Rattle.attr_rules.specs.declared.types.ValueType.{ValueType}
use Rattle.attr_rules.specs.declared.types.ValueType.TheVariants as types
use Rattle.attr_rules.specs.Expression as said
use Rattle.attr_rules.specs.Expression.{Expression}
use Rattle.attr_rules.specs.Types.{class_of_number, elements_of, kept_kind, of_class}
use Rattle.aspect_items.specs.declared.expression.Operator.{Operator}
use Rattle.aspect_items.specs.declared.expression.Operator.TheVariants as signs
use Rattle.aspect_items.specs.declared.expression.Quantifier.{Quantifier}
use Rattle.aspect_items.specs.declared.expression.Quantifier.TheVariants as quantifiers
use Rattle.aspect_items.specs.Expressions.{Expr, Arguments, Name, no_more, argument, Truth, Null, Empty, This, Int, Text, Source, Variable as Named, Call, Member, New, Quantified, Group, Cast, Not, Negate, Binary, InstanceOf, If}
use Rattle.expr_typing.specs.declared.ranges.Elements.{Elements}
use Rattle.expr_typing.specs.declared.ranges.Elements.TheVariants as elements
use Rattle.attr_scope.specs.declared.scope.Member as member
use Rattle.attr_scope.specs.declared.scope.Member.TheVariants as members
use Rattle.attr_scope.specs.Classes.{class_or_first}
use Rattle.expr_typing.specs.declared.set_forms.SetForm.{SetForm}
use Rattle.expr_typing.specs.declared.standing.Prefix.{Prefix}
use Rattle.expr_typing.specs.declared.standing.Prefix.TheVariants as prefixes
use Rattle.expr_typing.specs.Places.{else_place}
use Rattle.attr_scope.specs.Scope.{Scope, Variable, list_called, member_on, type_called, type_named, variable_named, with_variable}
use Rattle.expr_typing.specs.SetForms.{common_of, form_named, form_said, form_type, int, set_known, truth}

abbrev pub count : Arguments → ℕ
count no_more = 0
count (argument e es) = suc (count es)

-- the type of what an operator gives, which is known whatever stands on its sides
abbrev pub result_of : Operator → Option ValueType
result_of signs.Multiply = int
result_of signs.Add = int
result_of signs.Subtract = int
result_of signs.Less = truth
result_of signs.AtMost = truth
result_of signs.Greater = truth
result_of signs.AtLeast = truth
result_of signs.Equal = truth
result_of signs.Differ = truth
result_of signs.And = truth
result_of signs.Or = truth

-- the type of a class, where there is one of this name
abbrev pub class_type : List Class → List ℕ → Option ValueType
class_type g name = option_map class_of_number (class_named g name)

-- the type of the elements over which a form goes
abbrev pub element_kind : Elements → Kind
element_kind (elements.OfList x) = kinds.Node x.class
element_kind (elements.OfSet k) = k

abbrev pub element_type : Elements → ValueType
element_type o = types.Of (element_kind o)

-- the elements of a set of a type, for a form that goes over sets: `first` takes lists alone, and the elements of `empty` have no type
abbrev pub set_over : Quantifier → ValueType → Option Elements
set_over quantifiers.Each t = option_map elements.OfSet (elements_of t)
set_over quantifiers.Any t = option_map elements.OfSet (elements_of t)
set_over quantifiers.All t = option_map elements.OfSet (elements_of t)
set_over quantifiers.First t = None

-- the elements of a range: a list has no type, and what has one may be a set
abbrev pub elements_over : Quantifier → Option Accessor → Option ValueType → Option Elements
elements_over q x None = option_map elements.OfList x
elements_over q x (Some t) = set_over q t

-- The type of a form over some elements, where its body is of a type. A condition is a truth value whatever stands there, and the union of
-- sets is of their type.
abbrev pub quantified_type : Quantifier → Option Elements → Option ValueType → Option ValueType
quantified_type quantifiers.Each o t = set_known t
quantified_type quantifiers.Any o t = truth
quantified_type quantifiers.All o t = truth
quantified_type quantifiers.First o t = option_map element_type o

-- the name that a form binds
abbrev pub element_named : Name → Option Elements → Variable
element_named n o = record { name = n.text; type = option_map element_type o }

-- the type of a call without receiver, whose arguments are of these types: of one of the forms of sets, or of what is named
abbrev pub type_alone : Scope → Name → List (Option ValueType) → ℕ → Option SetForm → Option ValueType
type_alone s n ts k None = option_and_then (type_called s) (member_on s (Some (of_class s.this)) n.text k)
type_alone s n ts k (Some f) = form_type s.grammar f ts

-- the list that it gives
abbrev pub list_alone : Scope → Name → ℕ → Option SetForm → Option Accessor
list_alone s n k None = option_and_then (list_called k) (member_on s (Some (of_class s.this)) n.text k)
list_alone s n k (Some f) = None

abbrev mutual
  -- The type of an expression, where it is known. A type that is known stays so although a part is wrong: an operator's result has its type
  -- whatever stands on its sides, and so has the call of an attribute. A `new` is of its class, also where it is misplaced.
  pub known : Scope → Expr → Option ValueType
  known s (Truth p b) = truth
  known s (Null p) = Some types.Null
  known s (Empty p) = Some types.Empty
  known s (This p) = Some (of_class s.this)
  known s (Int p n) = int
  known s (Text p n) = Some (types.Of kinds.Text)
  known s (Source p n) = None
  known s (Named n) = type_named s n.text
  known s (Call n es) = type_alone s n (types_known s es) (count es) (form_named n.text)
  known s (Member e n es) = option_and_then (type_called s) (member_on s (known s e) n.text (count es))
  known s (New p n es) = class_type s.grammar n.text
  known s (Quantified q p n range e) = quantified_type q (elements_over q (list_of s range) (known s range))
      (known (with_variable s (element_named n (elements_over q (list_of s range) (known s range)))) e)
  known s (Group p e) = known s e
  known s (Cast p n e) = class_type s.grammar n.text
  known s (Not p e) = truth
  known s (Negate p e) = int
  known s (Binary o a b) = result_of o
  known s (InstanceOf e n) = truth
  known s (If c a b) = common_of s.grammar (known s a) (known s b)

  -- the types of the arguments of a call
  pub types_known : Scope → Arguments → List (Option ValueType)
  types_known s no_more = []
  types_known s (argument e es) = known s e ∷ types_known s es

  -- the list that an expression gives: a call of an accessor does, and nothing else
  pub list_of : Scope → Expr → Option Accessor
  list_of s (Call n es) = list_alone s n (count es) (form_named n.text)
  list_of s (Member e n es) = option_and_then (list_called (count es)) (member_on s (known s e) n.text (count es))
  list_of s _ = None

-- the elements over which a form goes
abbrev pub range_of : Scope → Quantifier → Expr → Option Elements
range_of s q range = elements_over q (list_of s range) (known s range)

-- the scope of the body of a form over some elements
abbrev pub inside : Scope → Quantifier → Name → Expr → Scope
inside s q n range = with_variable s (element_named n (range_of s q range))

-- what an accessor says behind a receiver, with the argument that it may have; a whole list says what has it
abbrev pub read : Access → ℕ → Expression → Expression → Expression
read access.Child k e i = said.Child k e
read (access.Token t) k e i = said.Token t k e
read access.Has k e i = said.Has k e
read access.Count k e i = said.Count k e
read access.Elements k e i = e
read access.Element k e i = said.Element k e i

abbrev pub read_by : Accessor → Expression → Expression → Expression
read_by x e i = read x.access x.component.0 e i

-- what it says that takes no argument: the same, whatever stood in place of one
abbrev pub SaysAlone : Accessor → Expression → Expression → Type 0
SaysAlone x receiver e = (i : Expression) → x.access ≢ access.Element → e ≡ read_by x receiver i

-- the arguments that are these
abbrev pub arguments_in : List Expression → said.Arguments
arguments_in [] = said.no_more
arguments_in (e ∷ es) = said.argument e (arguments_in es)

-- the first argument, and `null` where there is none
abbrev pub first_in : said.Arguments → Expression
first_in said.no_more = said.Null
first_in (said.argument e es) = e

-- what a call says behind a receiver, whose name stands at a place; a name that means nothing says `null`
abbrev pub call_said : Option member.Member → Place → Expression → said.Arguments → Expression
call_said None at e es = said.Null
call_said (Some (members.Reads x)) at e es = read_by x e (first_in es)
call_said (Some (members.Calls a)) at e es = said.Call a.0 at e es

-- what a call without receiver says
abbrev pub said_alone : Scope → Name → ℕ → List (Option ValueType) → said.Arguments → Option SetForm → Expression
said_alone s n k ts es None = call_said (member_on s (Some (of_class s.this)) n.text k) n.place said.This es
said_alone s n k ts es (Some f) = form_said f (form_type s.grammar f ts) es

-- an expression and what stands before it
abbrev pub prefixed : Prefix → Expression → Expression
prefixed prefixes.Not e = said.Not e
prefixed prefixes.Minus e = said.Negate e

-- two expressions and what stands between them
abbrev pub joined : Operator → Expression → Expression → Expression
joined signs.Multiply a b = said.Binary kept.Multiply a b
joined signs.Add a b = said.Binary kept.Add a b
joined signs.Subtract a b = said.Binary kept.Subtract a b
joined signs.Less a b = said.Binary kept.Less a b
joined signs.AtMost a b = said.Binary kept.AtMost a b
joined signs.Greater a b = said.Binary kept.Greater a b
joined signs.AtLeast a b = said.Binary kept.AtLeast a b
joined signs.Equal a b = said.Binary kept.Equal a b
joined signs.Differ a b = said.Not (said.Binary kept.Equal a b)
joined signs.And a b = said.And a b
joined signs.Or a b = said.Or a b

-- what a condition over some elements says, with what has the list, or the set
abbrev pub condition_over : kept_quantifier.Quantifier → Elements → Expression → Expression → Expression
condition_over q (elements.OfList x) e b = said.Quantified q x.component.0 e b
condition_over q (elements.OfSet k) e b = said.QuantifiedSet q e b

-- what `each` says, whose body is a set of a type, where that is known
abbrev pub union_over : Option ValueType → Elements → Expression → Expression → Expression
union_over None o e b = said.Null
union_over (Some t) (elements.OfList x) e b = said.Each (kept_kind t) x.component.0 e b
union_over (Some t) (elements.OfSet k) e b = said.EachOfSet (kept_kind t) e b

abbrev pub said_over : Quantifier → Option ValueType → Elements → Expression → Expression → Expression
said_over quantifiers.Each t o e b = union_over (set_known t) o e b
said_over quantifiers.Any t o e b = condition_over kept_quantifiers.Any o e b
said_over quantifiers.All t o e b = condition_over kept_quantifiers.All o e b
said_over quantifiers.First t o e b = condition_over kept_quantifiers.First o e b

-- what a form over some elements says, where there are any, with a body of a type, where that is known
abbrev pub over_said : Quantifier → Option ValueType → Option Elements → Expression → Expression → Expression
over_said q t None e b = said.Null
over_said q t (Some o) e b = said_over q t o e b

-- a name by its number; one that isn't known says `null`
abbrev pub name_said : Option ℕ → Expression
name_said None = said.Null
name_said (Some k) = said.Variable k

abbrev mutual
  -- What a written expression says. What breaks a rule may say `null`, and so does a `new`: what a whole equation makes is said elsewhere.
  pub body_of : Scope → Expr → Expression
  body_of s (Truth p b) = said.Truth b
  body_of s (Null p) = said.Null
  body_of s (Empty p) = said.Empty
  body_of s (This p) = said.This
  body_of s (Int p n) = said.Int (int_wrap w32 (pos n))
  body_of s (Text p n) = said.Text n
  body_of s (Source p n) = said.Null
  body_of s (Named n) = name_said (variable_named s n.text)
  body_of s (Call n es) = said_alone s n (count es) (types_known s es) (arguments_said s es) (form_named n.text)
  body_of s (Member e n es) = call_said (member_on s (known s e) n.text (count es)) n.place (body_of s e) (arguments_said s es)
  body_of s (New p n es) = said.Null
  body_of s (Quantified q p n range e) = over_said q (known (inside s q n range) e) (range_of s q range) (body_of s range) (body_of (inside s q n range) e)
  body_of s (Group p e) = body_of s e
  body_of s (Cast p n e) = said.Cast (class_or_first (class_named s.grammar n.text)) (body_of s e)
  body_of s (Not p e) = said.Not (body_of s e)
  body_of s (Negate p e) = said.Negate (body_of s e)
  body_of s (Binary o a b) = joined o (body_of s a) (body_of s b)
  body_of s (InstanceOf e n) = said.InstanceOf (class_or_first (class_named s.grammar n.text)) (body_of s e)
  body_of s (If c a b) = said.If (body_of s c) (body_of s a) (else_place b) (body_of s b)

  -- what the arguments of a call say
  pub arguments_said : Scope → Arguments → said.Arguments
  arguments_said s no_more = said.no_more
  arguments_said s (argument e es) = said.argument (body_of s e) (arguments_said s es)
