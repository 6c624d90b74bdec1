-- Declarations, equations and contributions as the code has them: what they break over a grammar, and what they make.
use Rattle.std.specs.Prelude.{List, map}
use Rattle.std.specs.Borrow.{Bor}
use Rattle.broken_rules.specs.declared.broken.Broken.{Broken}
use Rattle.ast_grammar.specs.Grammar.{Class}
use Rattle.aspect_items.specs.declared.items.Contribution as kept_contribution
use Rattle.attr_rules.specs.Rules.{AttributeSet, Contribution, Equation, RuleSet}
use Rattle.attr_scope.specs.declared.written.Given as kept_given
use Rattle.attr_scope.specs.declared.written.Head as kept_head
use Rattle.attr_scope.specs.Seen.{seen_given, seen_head, seen_offer}
use Rattle.attr_types.specs.Phases as seen

abbrev pub phases : List Class → List kept_head.Head → List kept_given.Given → List (Bor kept_contribution.Contribution) → List (List Broken)
phases g heads list offered = seen.phases_over g (map seen_head heads) (map seen_given list) (map seen_offer offered)

abbrev pub rule_set : List Class → List kept_head.Head → List kept_given.Given → List (Bor kept_contribution.Contribution) → RuleSet
rule_set g heads list offered = seen.rules_over g (map seen_head heads) (map seen_given list) (map seen_offer offered)

-- with these attributes: the right sides of equations
abbrev pub equations_broken : List Class → AttributeSet → List kept_given.Given → List Broken
equations_broken g a list = seen.equations_broken g a.attributes (map seen_given list)

abbrev pub equations : List Class → AttributeSet → List kept_given.Given → List Equation
equations g a list = seen.equations_of g a.attributes (map seen_given list)

-- the expressions of contributions
abbrev pub offers_broken : List Class → AttributeSet → List (Bor kept_contribution.Contribution) → List Broken
offers_broken g a offered = seen.offers_broken g a.attributes (map seen_offer offered)

abbrev pub offers : List Class → AttributeSet → List (Bor kept_contribution.Contribution) → List Contribution
offers g a offered = seen.contributions_of g a.attributes (map seen_offer offered)

-- both
abbrev pub bodies_broken : List Class → AttributeSet → List kept_given.Given → List (Bor kept_contribution.Contribution) → List Broken
bodies_broken g a list offered = seen.bodies_broken g a.attributes (map seen_given list) (map seen_offer offered)
