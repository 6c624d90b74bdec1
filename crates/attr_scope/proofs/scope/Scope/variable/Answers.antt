use Rattle.std.proofs.Common.{sym, ◌∙◌}
use Rattle.ast_grammar.proofs.Positions.{position-map}
use Rattle.attr_scope.specs.Scope.{is_named}
use Rattle.attr_scope.specs.Seen.{seen_variable}
use Rattle.attr_scope.proofs.scope.Scope.variable.Goals as goal

pub returns : goal.returns
returns c = c.place_of.ensures ∙ sym (position-map seen_variable (is_named c.args.name.now) c.args.self.now.variables.now)
