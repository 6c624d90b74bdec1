use Rattle.std.proofs.Common.{arith}
use Rattle.attr_rules.specs.declared.kinds.Attr.{Attr}
use Rattle.attr_equations.specs.Kept.{rules_in}
use Rattle.attr_rules.specs.Rules.{Attribute}
use Rattle.attr_rules.specs.Types.{truth_kind}
use Rattle.memo_cells.proofs.Gathered.{taken_part, whole}
use Rattle.memo_cells.proofs.truths.truths_of_attributes.Goals as goal

pub loop-number-preserved : goal.loop-number-preserved
loop-number-preserved c = taken_part (λ (x : Attribute). x.declared) (λ (d : Attr). truth_kind d.kind) (rules_in c.args.rules.now).attributes c.loop-number.number c.attr-declared.result.now c.loop-number.list.items c.push.new.list.items c.is_truth.result c.attr-declared.ensures c.loop-number.invariant c.in_ok-push.ensures c.is_truth.ensures

pub returns : goal.returns
returns c = whole (λ (x : Attribute). truth_kind x.declared.kind) (rules_in c.args.rules.now).attributes c.loop-number.number c.loop-number.list.items (omega (arith, c.attrs-number-end.ensures.number, c.loop-number-test.false)) c.loop-number.invariant
