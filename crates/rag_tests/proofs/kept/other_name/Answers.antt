-- A class of the grammar has a line of superclasses.
use Rattle.std.proofs.Common.{arith}
use Rattle.ast_grammar.proofs.Inherited.{length-superclasses_of}
use Rattle.rag_tests.proofs.kept.other_name.Goals as goal

pub superclass-requires : goal.superclass-requires
superclass-requires c = omega (arith, length-superclasses_of c.args.grammar.now, c.has_class.ensures.0 c.if-not-has_class.false)

pub find_component-component-requires : goal.find_component-component-requires
find_component-component-requires c = omega (arith, length-superclasses_of c.args.grammar.now, c.has_class.ensures.0 c.if-not-has_class.false)
