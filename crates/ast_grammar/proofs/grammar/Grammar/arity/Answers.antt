use Rattle.std.proofs.Common.{arith}
use Rattle.ast_grammar.proofs.Kept.{arity_kept, short_kept}
use Rattle.ast_grammar.proofs.grammar.Grammar.arity.Goals as goal

pub overflow_cast-result : goal.overflow_cast-result
overflow_cast-result c =
    omega (arith, c.len.ensures, short_kept c.self.inside.names c.self.inside.subclasses c.self.inside.classes.items c.self.invariant c.args.class.0 c.index.result.now c.self.view_is c.requires c.index.ensures)

pub returns-clause-number : goal.returns-clause-number
returns-clause-number c =
    let e = arity_kept c.self.inside.names c.self.inside.subclasses c.self.inside.classes.items c.self.invariant c.args.class.0 c.index.result.now c.self.view_is c.requires c.index.ensures in
    omega (arith, c.len.ensures, e)

pub returns-clause-short : goal.returns-clause-short
returns-clause-short c =
    omega (arith, c.len.ensures, short_kept c.self.inside.names c.self.inside.subclasses c.self.inside.classes.items c.self.invariant c.args.class.0 c.index.result.now c.self.view_is c.requires c.index.ensures)
