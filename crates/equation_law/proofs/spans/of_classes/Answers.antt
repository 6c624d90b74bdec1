use Rattle.std.proofs.Common.{ℕ, Vec, Global, ◌+◌, ◌<◌, length, sym, ◌∙◌, subst, arith}
use Rattle.equation_law.proofs.Spanned.{AreMet, item_at, met_all, met_class, met_other}
use Rattle.equation_law.proofs.spans.of_classes.Goals.{then-class-classes, else-class-classes}
use Rattle.equation_law.proofs.spans.of_classes.Goals as goal

pub loop-node-preserved : goal.loop-node-preserved
loop-node-preserved c =
    let tree = c.args.tree.now in
    let n = c.loop-node.node in
    let d = c.class_of-class.result in
    elim c.if-class-classes.branch [
      | then-class-classes w ↦
          let low : d.0 < c.args.classes = w.if-class-classes.true in
          let in_firsts : d.0 < length c.loop-node.firsts.items = let count = c.loop-node.invariant.firsts_count in omega (arith, low, count) in
          let in_ends : d.0 < length c.loop-node.ends.items = let count = c.loop-node.invariant.ends_count in omega (arith, low, count) in
          let first = item_at c.loop-node.firsts.items d.0 w.index.result.now in_firsts w.index.ensures in
          let end = item_at c.loop-node.ends.items d.0 w.index-then-class-classes.result.now in_ends w.index-then-class-classes.ensures in
          subst (λ (y : Vec ℕ Global × Vec ℕ Global). AreMet tree c.args.classes (n + 1) y.0.items y.1.items) (λ i. (sym w.firsts-is i, sym w.ends-is i))
          (met_class tree c.args.classes n c.loop-node.firsts.items c.loop-node.ends.items d w.first_with.result c.class_of-class.ensures low c.loop-node.invariant
          (λ none. w.first_with.ensures.none (end ∙ none)) (λ some. w.first_with.ensures.some (omega (arith, end, some)) ∙ first))
      | else-class-classes w ↦
          subst (λ (y : Vec ℕ Global × Vec ℕ Global). AreMet tree c.args.classes (n + 1) y.0.items y.1.items) (λ i. (sym w.firsts-is i, sym w.ends-is i))
          (met_other tree c.args.classes n c.loop-node.firsts.items c.loop-node.ends.items d c.class_of-class.ensures w.if-class-classes.false c.loop-node.invariant)
    ]

pub returns : goal.returns
returns c = let end = c.loop-node-test.false in let many = c.len-node-end.ensures.number in met_all c.args.tree.now c.args.classes c.loop-node.node c.loop-node.firsts.items c.loop-node.ends.items (omega (arith, end, many)) c.loop-node.invariant
