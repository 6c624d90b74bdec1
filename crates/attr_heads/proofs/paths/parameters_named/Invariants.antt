use Rattle.aspect_items.specs.Items.{seen_parameter}
use Rattle.attr_heads.specs.Paths.{parameter_named}
use Rattle.attr_scope.specs.Seen.{seen_variable}
use Rattle.attr_scope.proofs.Gathering.{Makes}
use Rattle.attr_heads.proofs.paths.parameters_named.Given as goal

abbrev pub invariant-loop-parameter : goal.invariant-loop-parameter
invariant-loop-parameter l = Makes seen_variable (parameter_named l.grammar) seen_parameter l.parameters l.parameter-index l.list.items
