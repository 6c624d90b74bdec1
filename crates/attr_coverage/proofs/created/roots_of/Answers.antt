use Rattle.std.proofs.Common.{rules, option_map}
use Rattle.ast_grammar.specs.Grammar.{number_of}
use Rattle.attr_coverage.specs.Completeness.{root_of}
use Rattle.attr_scope.proofs.Gathering.{makes_all, makes_more, makes_start}
use Rattle.attr_scope.specs.Seen.{seen_given}
use Rattle.attr_coverage.proofs.created.roots_of.Goals as goal

pub loop-equation-init : goal.loop-equation-init
loop-equation-init c = search (rules, makes_start)

pub loop-equation-preserved : goal.loop-equation-preserved
loop-equation-preserved c = search (rules, makes_more)

pub returns : goal.returns
returns c = makes_all (option_map number_of) (root_of c.args.grammar.now) seen_given c.args.equations.now c.loop-equation.invariant c.loop-equation-test.false
