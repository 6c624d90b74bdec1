-- The forms of sets that are written as calls without receiver: their types, what they say, and the rules on them, J10 and J11. A rule that
-- speaks of a type speaks of expressions whose type is known.
use Rattle.std.specs.Prelude.{ℕ, List, [], ◌∷◌, ◌++◌, Bool, false, not, Option, Some, None, is_none, codes, if◌then◌else◌}
use Rattle.std.specs.Option.{option_and_then}
use Rattle.std.specs.Str.{bytes_eq}
use Rattle.broken_rules.specs.declared.broken.Broken.{Broken}
use Rattle.broken_rules.specs.declared.rule.Rule.TheVariants.{J10, J11}
use Rattle.broken_rules.specs.Notes.{at, broken_if}
use Rattle.ast_grammar.specs.Grammar.{Class}
use Rattle.attr_rules.specs.declared.expression.SetOperator.{SetOperator}
use Rattle.attr_rules.specs.declared.expression.SetOperator.TheVariants.{Union, Inter, Minus}
use Rattle.attr_rules.specs.declared.kinds.Kind.TheVariants as kinds
use Rattle.attr_rules.specs.declared.types.ValueType.{ValueType}
use Rattle.attr_rules.specs.declared.types.ValueType.TheVariants as types
use Rattle.attr_rules.specs.Expression as said
use Rattle.attr_rules.specs.Expression.{Expression}
use Rattle.attr_rules.specs.Types.{common, is_set, kept_kind, may_be_element, set_of, type_where}
use Rattle.aspect_items.specs.Expressions.{Expr, Name}
use Rattle.expr_typing.specs.declared.set_forms.SetForm.{SetForm}
use Rattle.expr_typing.specs.declared.set_forms.SetForm.TheVariants as forms
use Rattle.expr_typing.specs.Places.{place_of}

abbrev pub operator_named : List ℕ → Option SetOperator
operator_named text = if bytes_eq text (codes "union") then Some Union else (if bytes_eq text (codes "inter") then Some Inter else (if bytes_eq text (codes "minus") then Some Minus else None))

-- the form of one set, or of a set and an element
abbrev pub other_named : List ℕ → Option SetForm
other_named text = if bytes_eq text (codes "single") then Some forms.Single else (if bytes_eq text (codes "contains") then Some forms.Contains else (if bytes_eq text (codes "size") then Some forms.Size else None))

abbrev pub form_by : Option SetOperator → Option SetForm → Option SetForm
form_by None f = f
form_by (Some o) f = Some (forms.Makes o)

-- the form that a name without receiver means, if it means one
abbrev pub form_named : List ℕ → Option SetForm
form_named text = form_by (operator_named text) (other_named text)

abbrev pub truth : Option ValueType
truth = Some (types.Of kinds.Truth)

abbrev pub int : Option ValueType
int = Some (types.Of kinds.Int)

-- the common type of two parts, where both types are known
abbrev pub common_of : List Class → Option ValueType → Option ValueType → Option ValueType
common_of g t u = option_and_then (λ a. option_and_then (common g a) u) t

-- a type that is known to be a set
abbrev pub set_or_none : ValueType → Option ValueType
set_or_none t = type_where (is_set t) t

abbrev pub set_known : Option ValueType → Option ValueType
set_known t = option_and_then set_or_none t

-- the type of a form that has another number of arguments: what it asks of sets, it answers whatever stands there
abbrev pub settled : SetForm → Option ValueType
settled (forms.Makes o) = None
settled forms.Single = None
settled forms.Contains = truth
settled forms.Size = int

-- that of a form with one argument of a type
abbrev pub one_type : SetForm → Option ValueType → Option ValueType
one_type (forms.Makes o) t = None
one_type forms.Single t = option_and_then set_of t
one_type forms.Contains t = truth
one_type forms.Size t = int

-- with two: what is made of two sets has their common type
abbrev pub pair_type : List Class → SetForm → Option ValueType → Option ValueType → Option ValueType
pair_type g (forms.Makes o) t u = common_of g (set_known t) (set_known u)
pair_type g forms.Single t u = None
pair_type g forms.Contains t u = truth
pair_type g forms.Size t u = int

-- the type of a form whose arguments are of these types
abbrev pub form_type : List Class → SetForm → List (Option ValueType) → Option ValueType
form_type g f [] = settled f
form_type g f (t ∷ []) = one_type f t
form_type g f (t ∷ u ∷ []) = pair_type g f t u
form_type g f (t ∷ u ∷ v ∷ ts) = settled f

-- what is made of two sets, where its type is known
abbrev pub made_said : SetOperator → Option ValueType → Expression → Expression → Expression
made_said o None a b = said.Null
made_said o (Some t) a b = said.Sets o (kept_kind t) a b

-- what a form with one argument says, and one with two that is of a type; another number says `null`
abbrev pub one_said : SetForm → Expression → Expression
one_said (forms.Makes o) a = said.Null
one_said forms.Single a = said.Single a
one_said forms.Contains a = said.Null
one_said forms.Size a = said.Size a

abbrev pub pair_said : SetForm → Option ValueType → Expression → Expression → Expression
pair_said (forms.Makes o) t a b = made_said o t a b
pair_said forms.Single t a b = said.Null
pair_said forms.Contains t a b = said.Contains a b
pair_said forms.Size t a b = said.Null

abbrev pub form_said : SetForm → Option ValueType → said.Arguments → Expression
form_said f t said.no_more = said.Null
form_said f t (said.argument a said.no_more) = one_said f a
form_said f t (said.argument a (said.argument b said.no_more)) = pair_said f t a b
form_said f t (said.argument a (said.argument b (said.argument c es))) = said.Null

-- J10: the type is known, and is no set
abbrev pub is_no_set : Option ValueType → Bool
is_no_set None = false
is_no_set (Some t) = not (is_set t)

abbrev pub no_set : Option ValueType → Expr → List Broken
no_set t e = broken_if (is_no_set t) (at (place_of e) J10)

-- J10: the type is known, and there are no sets of it
abbrev pub has_no_sets : Option ValueType → Bool
has_no_sets None = false
has_no_sets (Some t) = is_none (set_of t)

abbrev pub no_element : Option ValueType → Expr → List Broken
no_element t e = broken_if (has_no_sets t) (at (place_of e) J10)

-- both types are known, and have nothing in common
abbrev pub have_no_common : List Class → Option ValueType → Option ValueType → Bool
have_no_common g None u = false
have_no_common g (Some t) None = false
have_no_common g (Some t) (Some u) = is_none (common g t u)

-- a set and the type of an expression that is none of its elements are known
abbrev pub is_foreign : List Class → Option ValueType → Option ValueType → Bool
is_foreign g None u = false
is_foreign g (Some t) None = false
is_foreign g (Some t) (Some u) = not (may_be_element g t u)

-- J10 at a part that is no set, and at the second one of two sets that have no common type
abbrev pub sets_broken : List Class → Option ValueType → Expr → Option ValueType → Expr → List Broken
sets_broken g t a u b = no_set t a ++ (no_set u b ++ broken_if (have_no_common g (set_known t) (set_known u)) (at (place_of b) J10))

-- J10 at what is no set, and at what doesn't fit the elements of one
abbrev pub contains_broken : List Class → Option ValueType → Expr → Option ValueType → Expr → List Broken
contains_broken g t a u b = no_set t a ++ broken_if (is_foreign g (set_known t) u) (at (place_of b) J10)

-- J11: the form of this name has another number of arguments
abbrev pub count_broken : Name → List Broken
count_broken n = at n.place J11 ∷ []

-- what a form with one argument breaks, and one with two
abbrev pub one_broken : SetForm → Name → Option ValueType → Expr → List Broken
one_broken (forms.Makes o) n t a = count_broken n
one_broken forms.Single n t a = no_element t a
one_broken forms.Contains n t a = count_broken n
one_broken forms.Size n t a = no_set t a

abbrev pub pair_broken : List Class → SetForm → Name → Option ValueType → Expr → Option ValueType → Expr → List Broken
pair_broken g (forms.Makes o) n t a u b = sets_broken g t a u b
pair_broken g forms.Single n t a u b = count_broken n
pair_broken g forms.Contains n t a u b = contains_broken g t a u b
pair_broken g forms.Size n t a u b = count_broken n
