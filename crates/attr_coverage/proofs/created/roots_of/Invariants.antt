use Rattle.std.proofs.Common.{option_map}
use Rattle.ast_grammar.specs.Grammar.{number_of}
use Rattle.attr_coverage.specs.Completeness.{root_of}
use Rattle.attr_scope.proofs.Gathering.{Makes}
use Rattle.attr_scope.specs.Seen.{seen_given}
use Rattle.attr_coverage.proofs.created.roots_of.Given as goal

abbrev pub invariant-loop-equation : goal.invariant-loop-equation
invariant-loop-equation l = Makes (option_map number_of) (root_of l.grammar) seen_given l.equations l.equation-index l.list.items
