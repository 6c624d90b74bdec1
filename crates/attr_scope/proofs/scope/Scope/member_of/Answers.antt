use Rattle.std.proofs.Common.{ap, length, arith}
use Rattle.ast_grammar.proofs.Inherited.{length-superclasses_of}
use Rattle.attr_scope.proofs.scope.Scope.member_of.Goals as goal

pub find-requires : goal.find-requires
find-requires c = omega (arith, length-superclasses_of c.args.self.now.grammar.now, ap length c.requires.superclasses)
