-- What equations bind, of what is kept of them.
use Rattle.std.specs.Prelude.{◌≡◌, List, ◌++◌, Option, map}
use Rattle.std.specs.Borrow.{Bor}
use Rattle.ast_grammar.specs.Grammar.{Class}
use Rattle.attr_rules.specs.declared.dispatch.Reach.{Reach}
use Rattle.attr_rules.specs.declared.kinds.Kind.{Kind}
use Rattle.attr_rules.specs.Rules.{AttributeSet}
use Rattle.aspect_items.specs.declared.items.Parameter as kept_parameter
use Rattle.aspect_items.specs.declared.items.Signature as kept_signature
use Rattle.aspect_items.specs.Items.{seen_parameter, seen_signature}
use Rattle.attr_scope.specs.declared.scope.Variable as kept_variable
use Rattle.attr_scope.specs.Scope.{Variable}
use Rattle.attr_scope.specs.Seen.{seen_variable}
use Rattle.attr_heads.specs.Parameters.{seen_path}
use Rattle.attr_heads.specs.Paths.{bound_by, equation_names}

-- what an equation may name, by its attribute's name with the parameters, and its path, if it has one
abbrev pub names_given : List Class → AttributeSet → kept_signature.Signature → Option (Bor kept_signature.Signature) → Reach → List Variable
names_given g known s p r = equation_names g known.attributes (seen_signature s) (seen_path p) r

-- what is of these types was bound behind some names, under the names of parameters
abbrev pub Binds : List kept_variable.Variable → List Kind → List kept_parameter.Parameter → List kept_variable.Variable → Type 0
Binds old ks ps new = map seen_variable new ≡ map seen_variable old ++ bound_by ks (map seen_parameter ps)
