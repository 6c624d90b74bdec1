-- The rules on what equations are for: J2, J5, J6 and J15, beside those on paths and on parameters.
use Rattle.std.specs.Prelude.{◌≡◌, ℕ, List, [], ◌++◌, Bool, false, Option, Some, None, is_none, map, if◌then◌else◌}
use Rattle.std.specs.List.{list_any}
use Rattle.std.specs.Option.{option_and_then, option_map}
use Rattle.broken_rules.specs.declared.broken.Broken.{Broken}
use Rattle.broken_rules.specs.declared.rule.Rule.TheVariants.{J5, J6, J15}
use Rattle.broken_rules.specs.Notes.{at, broken_if, each_after}
use Rattle.ast_grammar.specs.declared.grammar.ClassId.{ClassId}
use Rattle.ast_grammar.specs.Grammar.{Class, class_named, number_of, superclasses_of}
use Rattle.attr_rules.specs.declared.dispatch.Reach.{Reach}
use Rattle.attr_rules.specs.declared.dispatch.Reach.TheVariants.{Own}
use Rattle.attr_rules.specs.declared.dispatch.Target.{Target}
use Rattle.attr_rules.specs.declared.kinds.Attr.{Attr}
use Rattle.attr_rules.specs.declared.kinds.AttrId.{AttrId}
use Rattle.attr_rules.specs.declared.kinds.Kind.{Kind}
use Rattle.attr_rules.specs.Rules.{Attribute, AttributeSet, attribute_named, declared_at, first_inherited, has_own_equations, is_target, number_of_attribute}
use Rattle.attr_rules.specs.Types.{parameter_kinds}
use Rattle.attr_scope.specs.Classes.{class_broken}
use Rattle.attr_heads.specs.Parameters.{all_parameters_broken, differ}
use Rattle.attr_heads.specs.Paths.{path_broken, reach_of}
use Rattle.aspect_items.specs.Expressions.{Name}
use Rattle.aspect_items.specs.Items.{Signature}
use Rattle.attr_scope.specs.Written.{Given}

abbrev pub is_own : Option Attr → Bool
is_own None = false
is_own (Some d) = has_own_equations d.sort

-- an attribute to which equations without a path give values
abbrev pub if_own : List Attribute → ℕ → Option ℕ
if_own attributes a = if is_own (declared_at attributes a) then Some a else None

-- it holds of whatever grammar the attributes are declared for
abbrev pub OfGrammar : AttributeSet → (List Class → Type 0) → Type 0
OfGrammar known holds = (g : List Class) → known.superclasses ≡ superclasses_of g → holds g

-- the attribute that a class has by a name, where equations without a path give it values
abbrev pub own_attribute : List Class → List Attribute → List ℕ → ℕ → Option ℕ
own_attribute g attributes name c = option_and_then (if_own attributes) (attribute_named (superclasses_of g) attributes (record { 0 = c }) name)

-- the attribute of an equation: one that its class has and that is synthesized, and with a path an inherited one of any class, which stands for all of its name
abbrev pub attribute_for : List Class → List Attribute → Option ℕ → Option Signature → List ℕ → Option ℕ
attribute_for g attributes c None name = option_and_then (own_attribute g attributes name) c
attribute_for g attributes c (Some p) name = first_inherited attributes name

-- the attribute of an equation without a path, where its class is known, which has it
abbrev pub own_attribute_of : List Class → AttributeSet → Option ClassId → Name → Option ℕ
own_attribute_of g known class n = attribute_for g known.attributes (option_map number_of class) None n.text

abbrev pub target : ℕ → Reach → ℕ → Target
target c r a = record { class = record { 0 = c }; reach = r; attribute = record { 0 = a } }

-- what an equation is for, by its class, its reach and its attribute, where these are known
abbrev pub target_by : Option ℕ → Option Reach → Option ℕ → Option Target
target_by None r a = None
target_by (Some c) None a = None
target_by (Some c) (Some r) None = None
target_by (Some c) (Some r) (Some a) = Some (target c r a)

-- the class of an equation
abbrev pub class_of : List Class → Given → Option ℕ
class_of g e = class_named g e.class.text

-- the attribute of an equation, where there is one
abbrev pub attribute_given : List Class → List Attribute → Given → Option ℕ
attribute_given g attributes e = attribute_for g attributes (class_of g e) e.path e.attribute.name.text

abbrev pub target_of : List Class → List Attribute → Given → Option Target
target_of g attributes e = target_by (class_of g e) (reach_of g attributes (class_of g e) e.path) (attribute_given g attributes e)

-- J5: no attribute of the name is inherited
abbrev pub uninherited_broken : List Attribute → Name → List Broken
uninherited_broken attributes n = broken_if (is_none (first_inherited attributes n.text)) (at n.place J5)

-- J5: the class has no such attribute, or with a path none is inherited
abbrev pub lacking_broken : List Class → List Attribute → Option Signature → Option ℕ → Name → List Broken
lacking_broken g attributes None None n = []
lacking_broken g attributes None (Some c) n = broken_if (is_none (own_attribute g attributes n.text c)) (at n.place J5)
lacking_broken g attributes (Some p) c n = uninherited_broken attributes n

-- the types of the parameters of an attribute, which are known
abbrev pub types_declared : Attr → List (Option Kind)
types_declared d = map Some (parameter_kinds d.params)

-- J15: the parameters are other ones than those of the attribute
abbrev pub differing_from : List Class → Signature → Option Attr → List Broken
differing_from g s None = []
differing_from g s (Some d) = broken_if (differ g (types_declared d) s.parameters) (at s.name.place J15)

-- the same of the attribute of this number, where there is one
abbrev pub differing_broken : List Class → List Attribute → Signature → Option ℕ → List Broken
differing_broken g attributes s a = differing_from g s (option_and_then (declared_at attributes) a)

-- J15 of an equation for an attribute, where that is known
abbrev pub other_parameters_broken : List Class → AttributeSet → Option AttrId → Signature → List Broken
other_parameters_broken g known attribute s = differing_broken g known.attributes s (option_map number_of_attribute attribute)

-- J2, J5, J15, what the path breaks, and what the parameters break
abbrev pub unknown_broken : List Class → List Attribute → Given → List Broken
unknown_broken g attributes e =
    class_broken g e.class
    ++ (path_broken g attributes (class_of g e) e.path
    ++ (all_parameters_broken g e.path e.attribute ++ (lacking_broken g attributes e.path (class_of g e) e.attribute.name ++ differing_broken g attributes e.attribute (attribute_given g attributes e))))

abbrev pub is_same : Target → Option Target → Bool
is_same t None = false
is_same t (Some u) = is_target t.class.0 t.reach t.attribute.0 u

-- one of the equations is for this
abbrev pub is_given : List Class → List Attribute → Target → List Given → Bool
is_given g attributes t list = list_any (λ d. is_same t (target_of g attributes d)) list

-- J6: an equation before is for the same class, reach and attribute
abbrev pub second_broken : List Class → List Attribute → List Given → Name → Option Target → List Broken
second_broken g attributes before n None = []
second_broken g attributes before n (Some t) = broken_if (is_given g attributes t before) (at n.place J6)

abbrev pub given_broken : List Class → List Attribute → List Given → Given → List Broken
given_broken g attributes before e = unknown_broken g attributes e ++ second_broken g attributes before e.attribute.name (target_of g attributes e)

-- what the heads of equations break
abbrev pub targets_broken : List Class → List Attribute → List Given → List Broken
targets_broken g attributes list = each_after (given_broken g attributes) [] list

-- that of an equation which breaks nothing; any other counts as for the first attribute of the first class
abbrev pub target_or_first : Option Target → Target
target_or_first None = target 0 Own 0
target_or_first (Some t) = t

abbrev pub target_given : List Class → List Attribute → Given → Target
target_given g attributes e = target_or_first (target_of g attributes e)

abbrev pub targets_of : List Class → List Attribute → List Given → List Target
targets_of g attributes list = map (target_given g attributes) list
