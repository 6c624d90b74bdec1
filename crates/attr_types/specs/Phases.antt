-- What aspects break over a grammar, phase by phase, and the rules that they make where they break nothing.
use Rattle.std.specs.Prelude.{ℕ, List, [], ◌∷◌, ◌++◌, Bool, true, if◌then◌else◌, Option, Some, None, map}
use Rattle.std.specs.List.{flat_map}
use Rattle.broken_rules.specs.declared.broken.Broken.{Broken}
use Rattle.ast_grammar.specs.declared.grammar.ClassId.{ClassId}
use Rattle.ast_grammar.specs.Grammar.{Class, superclasses_of}
use Rattle.attr_rules.specs.declared.dispatch.Target.{Target}
use Rattle.attr_rules.specs.declared.kinds.Attr.{Attr}
use Rattle.attr_rules.specs.declared.kinds.Collecting.{Collecting}
use Rattle.attr_rules.specs.declared.kinds.Kind.{Kind}
use Rattle.attr_rules.specs.declared.kinds.Kind.TheVariants as kinds
use Rattle.attr_rules.specs.Rules.{Attribute, Contribution, Equation, RuleSet, collecting_at, contributed, declared_at}
use Rattle.attr_rules.specs.Expression.{Expression, Truth}
use Rattle.attr_bodies.specs.Bodies.{operand_broken}
use Rattle.attr_bodies.specs.Created.{created_broken, created_said}
use Rattle.attr_types.specs.BothSides.{right_side}
use Rattle.expr_typing.specs.declared.standing.Stands.TheVariants.{Anywhere}
use Rattle.attr_coverage.specs.Completeness.{complete_broken, places_of, roots_of}
use Rattle.attr_heads.specs.Contributions.{aim_of, uses_broken}
use Rattle.attr_heads.specs.Created.{declares_higher_order}
use Rattle.attr_heads.specs.Heads.{attributes_of, heads_broken}
use Rattle.attr_heads.specs.Paths.{equation_names}
use Rattle.attr_scope.specs.Scope.{Scope}
use Rattle.attr_heads.specs.Targets.{target_given, targets_of}
use Rattle.expr_typing.specs.Typed.{body_of}
use Rattle.attr_scope.specs.Written.{Given, Head, contributions, declarations, givens}
use Rattle.aspect_items.specs.Expressions.{Expr}
use Rattle.aspect_items.specs.Items.{Contribution as WrittenContribution, Item}

-- where the right side of an equation stands, which is for this
abbrev pub scope_of : List Class → List Attribute → Given → Target → Scope
scope_of g attributes e t = record { grammar = g; known = record { superclasses = superclasses_of g; attributes = attributes }; this = t.class; variables = equation_names g attributes e.attribute e.path t.reach }

abbrev pub kind_or_truth : Option Attr → Kind
kind_or_truth None = kinds.Truth
kind_or_truth (Some d) = d.kind

-- the type that it has to fit
abbrev pub wanted_by : List Attribute → Target → Kind
wanted_by attributes t = kind_or_truth (declared_at attributes t.attribute.0)

-- the attribute of this target is higher-order
abbrev pub creates : List Attribute → Target → Bool
creates attributes t = declares_higher_order (declared_at attributes t.attribute.0)

-- what a right side breaks that has to fit a type: that of a higher-order attribute makes a tree
abbrev pub equated_broken : Bool → Scope → Kind → Expr → List Broken
equated_broken higher_order s wanted e = if higher_order then created_broken s wanted e else operand_broken s Anywhere wanted e

abbrev pub equation_broken : List Class → List Attribute → Given → List Broken
equation_broken g attributes e =
    equated_broken (creates attributes (target_given g attributes e)) (scope_of g attributes e (target_given g attributes e)) (wanted_by attributes (target_given g attributes e)) e.body

-- where the expressions of a contribution stand, which is read at nodes of this class: nothing has a name there
abbrev pub scope_at : List Class → List Attribute → ClassId → Scope
scope_at g attributes c = record { grammar = g; known = record { superclasses = superclasses_of g; attributes = attributes }; this = c; variables = [] }

abbrev pub contributed_as : Option Collecting → Kind → Kind
contributed_as None k = k
contributed_as (Some c) k = contributed c.method k

-- the type that a value has to fit which is contributed to the attribute of this number
abbrev pub wanted_from : List Attribute → ℕ → Kind
wanted_from attributes a = contributed_as (collecting_at attributes a) (kind_or_truth (declared_at attributes a))

-- what a condition breaks, where one is written
abbrev pub condition_broken : Scope → Option Expr → List Broken
condition_broken s None = []
condition_broken s (Some e) = operand_broken s Anywhere kinds.Truth e

-- what the expressions of a contribution break: a condition is a truth value, a receiver fits the class behind `to`, and a value what is contributed
abbrev pub expressions_broken : List Class → List Attribute → WrittenContribution → List Broken
expressions_broken g attributes c =
    condition_broken (scope_at g attributes (aim_of g attributes c).contributor) c.condition
    ++ (operand_broken (scope_at g attributes (aim_of g attributes c).contributor) Anywhere (kinds.Node (aim_of g attributes c).receiver) c.receiver
    ++ operand_broken (scope_at g attributes (aim_of g attributes c).contributor) Anywhere (wanted_from attributes (aim_of g attributes c).collection.0) c.value)

abbrev pub equations_broken : List Class → List Attribute → List Given → List Broken
equations_broken g attributes list = flat_map (equation_broken g attributes) list

abbrev pub offers_broken : List Class → List Attribute → List WrittenContribution → List Broken
offers_broken g attributes offered = flat_map (expressions_broken g attributes) offered

-- what expressions break: the right sides of equations, and those of contributions
abbrev pub bodies_broken : List Class → List Attribute → List Given → List WrittenContribution → List Broken
bodies_broken g attributes list offered = equations_broken g attributes list ++ offers_broken g attributes offered

-- the phases over some declarations, equations and contributions: declarations; what equations and contributions are for; completeness; expressions
abbrev pub phases_over : List Class → List Head → List Given → List WrittenContribution → List (List Broken)
phases_over g heads list offered =
    heads_broken g heads
    ∷ uses_broken g (attributes_of g heads) list offered
    ∷ complete_broken g (attributes_of g heads) (targets_of g (attributes_of g heads) list) (roots_of g list) (places_of heads)
    ∷ bodies_broken g (attributes_of g heads) list offered
    ∷ []

-- those of what some items declare and give
abbrev pub phases_of : List Class → List Item → List (List Broken)
phases_of g items = phases_over g (declarations items) (givens items) (contributions items)

-- what the right side of an equation says, which is for this
abbrev pub said_for : List Attribute → Target → Expression → Expression
said_for attributes t e = right_side attributes t.attribute.0 e

-- what a right side says
abbrev pub equated_said : Bool → Scope → Expr → Expression
equated_said higher_order s e = if higher_order then created_said s e else body_of s e

abbrev pub equation_of : List Class → List Attribute → Given → Equation
equation_of g attributes e = record {
  target = target_given g attributes e;
  body = said_for attributes (target_given g attributes e) (equated_said (creates attributes (target_given g attributes e)) (scope_of g attributes e (target_given g attributes e)) e.body);
}

-- what a condition says; one that isn't written is `true`
abbrev pub condition_said : Scope → Option Expr → Expression
condition_said s None = Truth true
condition_said s (Some e) = body_of s e

abbrev pub contribution_of : List Class → List Attribute → WrittenContribution → Contribution
contribution_of g attributes c = record {
  class = (aim_of g attributes c).contributor;
  target = (aim_of g attributes c).collection;
  condition = condition_said (scope_at g attributes (aim_of g attributes c).contributor) c.condition;
  receiver = body_of (scope_at g attributes (aim_of g attributes c).contributor) c.receiver;
  value = body_of (scope_at g attributes (aim_of g attributes c).contributor) c.value;
}

abbrev pub equations_of : List Class → List Attribute → List Given → List Equation
equations_of g attributes list = map (equation_of g attributes) list

abbrev pub contributions_of : List Class → List Attribute → List WrittenContribution → List Contribution
contributions_of g attributes offered = map (contribution_of g attributes) offered

-- attributes, equations and contributions are numbered in the order of the declarations, of the items with an equation, and of the contributions
abbrev pub rules_over : List Class → List Head → List Given → List WrittenContribution → RuleSet
rules_over g heads list offered = record {
  superclasses = superclasses_of g;
  attributes = attributes_of g heads;
  equations = equations_of g (attributes_of g heads) list;
  contributions = contributions_of g (attributes_of g heads) offered;
}

unfoldable pub rules_of : List Class → List Item → RuleSet
rules_of g items = rules_over g (declarations items) (givens items) (contributions items)
