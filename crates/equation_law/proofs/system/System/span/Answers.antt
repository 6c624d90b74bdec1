use Rattle.std.proofs.Common.{◌<◌, get_or, length, arith}
use Rattle.equation_law.specs.Systems.{program_of}
use Rattle.equation_law.proofs.Spanned.{below_low, item_at, span_low, spans_kept}
use Rattle.equation_law.proofs.system.System.span.Goals as goal

pub returns-then-number-len-clause-within : goal.returns-then-number-len-clause-within
returns-then-number-len-clause-within c =
    let kept = spans_kept c.args.self.now in
    let p = program_of c.args.self.now in
    let many = c.len.ensures in
    let inside : c.args.class.0 < length c.args.self.now.spans.ends.items = let test = c.if-number-len.true in omega (arith, test, many) in
    let low : c.args.class.0 < length p.grammar = let count = kept.ends_count in omega (arith, inside, count) in
    let end = item_at c.args.self.now.spans.ends.items c.args.class.0 c.index-end.result.now inside c.index-end.ensures in
    let within = span_low p.grammar p.tree c.args.class.0 (get_or c.args.self.now.spans.firsts.items c.args.class.0 0) (get_or c.args.self.now.spans.ends.items c.args.class.0 0) (kept.each c.args.class.0 low) in
    omega (arith, end, within)

pub returns-clause-all : goal.returns-clause-all
unfolding program_of
returns-clause-all c = λ n below.
    let p = program_of c.args.self.now in
    let low = below_low p.grammar p.tree c.args.class.0 n below in
    let many = c.len-end.ensures.number in
    (omega arith, omega (arith, low, many))
