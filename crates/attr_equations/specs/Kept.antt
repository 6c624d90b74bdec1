-- Rules as the code keeps them.
use Rattle.std.specs.Prelude.{ℕ, List, Option, map}
use Rattle.attr_equations.specs.declared.contributions.KeptContribution.{KeptContribution}
use Rattle.attr_equations.specs.declared.rules.KeptEquation.{KeptEquation}
use Rattle.attr_equations.specs.declared.rules.Rules.{Rules}
use Rattle.attr_equations.specs.KeptContributions.{contribution_in}
use Rattle.attr_equations.specs.KeptEquations.{equation_in}
use Rattle.ast_grammar.specs.declared.grammar.ClassId.{ClassId}
use Rattle.attr_rules.specs.declared.attributes.Attributes.{Attributes}
use Rattle.attr_rules.specs.Rules.{RuleSet, attribute_named}

-- the rules of these attributes, equations and contributions
abbrev pub rules_of : Attributes → List KeptEquation → List KeptContribution → RuleSet
rules_of a equations contributions = record { superclasses = a.superclasses; attributes = a.attributes; equations = map equation_in equations; contributions = map contribution_in contributions }

-- the rules that are kept
abbrev pub rules_in : Rules → RuleSet
rules_in r = rules_of r.attributes r.equations.items r.contributions.items

-- the number of the attribute of this name that the rules declare for the class or a superclass
abbrev pub attribute_found : RuleSet → ClassId → List ℕ → Option ℕ
attribute_found r class name = attribute_named r.superclasses r.attributes class name
