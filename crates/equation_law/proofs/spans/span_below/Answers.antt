use Rattle.std.proofs.Common.{ℕ, ◌+◌, ◌<◌, length, sym, ◌∙◌, subst, arith}
use Rattle.equation_law.specs.declared.spans.Span.{Span}
use Rattle.equation_law.specs.Spans.{AreFrom, IsOfClass}
use Rattle.equation_law.proofs.Spanned.{BelowAmong, among_all, among_more, among_other, item_at}
use Rattle.equation_law.proofs.spans.span_below.Goals.{then-is_sub, else-is_sub}
use Rattle.equation_law.proofs.spans.span_below.Goals as goal

pub loop-number-preserved : goal.loop-number-preserved
loop-number-preserved c = λ tree own.
    let g = c.args.grammar.now in
    let n = c.loop-number.number in
    let low : n < length g = let test = c.loop-number-test.true in let many = c.classes-number-end.ensures.number in omega (arith, test, many) in
    elim c.if-is_sub.branch [
      | then-is_sub w ↦
          let one : Span = record { first = w.index-first.result.now; end = w.index-end.result.now } in
          let in_firsts : n < length c.args.own.now.firsts.items = let count = c.requires.firsts in omega (arith, low, count) in
          let in_ends : n < length c.args.own.now.ends.items = let count = c.requires.ends in omega (arith, low, count) in
          let first = item_at c.args.own.now.firsts.items n w.index-first.result.now in_firsts w.index-first.ensures in
          let end = item_at c.args.own.now.ends.items n w.index-end.result.now in_ends w.index-end.ensures in
          subst (λ (s : Span). AreFrom (BelowAmong g tree c.args.class (n + 1)) s.first s.end) (sym w.span-is)
          (among_more g tree c.args.class n c.loop-number.span one w.joined-span.result (sym c.is_sub.ensures.flag ∙ w.if-is_sub.true) (c.loop-number.invariant tree own)
          (subst (λ (y : ℕ × ℕ). AreFrom (IsOfClass tree n) y.0 y.1) (λ i. (sym first i, sym end i)) (own.each n low)) w.joined-span.ensures)
      | else-is_sub w ↦ subst (λ (s : Span). AreFrom (BelowAmong g tree c.args.class (n + 1)) s.first s.end) (sym w.span-is) (among_other g tree c.args.class n c.loop-number.span.first c.loop-number.span.end (sym c.is_sub.ensures.flag ∙ w.if-is_sub.false) (c.loop-number.invariant tree own))
    ]

pub returns : goal.returns
returns c = λ tree own.
    let end = c.loop-number-test.false in
    let many = c.classes-number-end.ensures.number in
    among_all c.args.grammar.now tree c.args.class c.loop-number.number c.loop-number.span.first c.loop-number.span.end (omega (arith, end, many)) c.requires.class (c.loop-number.invariant tree own)
