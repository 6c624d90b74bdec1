use Rattle.std.proofs.Common.{ℕ, ◌<◌, length, subst, arith}
use Rattle.equation_law.specs.Spans.{AreOfClasses}
use Rattle.equation_law.proofs.Spanned.{spans_more}
use Rattle.equation_law.proofs.spans.spans_of.Goals as goal

pub loop-class-preserved : goal.loop-class-preserved
loop-class-preserved c =
    let low : c.loop-class.class < length c.args.grammar.now = let test = c.loop-class-test.true in let many = c.classes-classes.ensures.number in omega (arith, test, many) in
    spans_more c.args.grammar.now c.args.tree.now c.loop-class.class c.loop-class.firsts.items c.loop-class.ends.items c.span_below-span.result.first c.span_below-span.result.end low c.loop-class.invariant (c.span_below-span.ensures c.args.tree.now (subst (λ (k : ℕ). AreOfClasses c.args.tree.now k c.in_ok-own.own.firsts.items c.in_ok-own.own.ends.items) c.classes-classes.ensures.number c.in_ok-own.ensures))
