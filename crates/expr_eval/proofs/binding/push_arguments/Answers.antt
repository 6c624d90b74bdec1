use Rattle.std.proofs.Common.{◌∙◌}
use Rattle.attr_rules.specs.Types.{parameter_kinds}
use Rattle.equation_law.specs.Codes.{codes_in}
use Rattle.expr_eval.proofs.Bound.{argument_more}
use Rattle.expr_eval.proofs.binding.push_arguments.Goals as goal

pub loop-kind-preserved : goal.loop-kind-preserved
loop-kind-preserved c = record {
  row = c.rest-given.ensures.row;
  all = λ n.
      argument_more n c.loop-kind.names.items c.push.new.names.items c.argument.result (parameter_kinds c.loop-kind.wanted) (parameter_kinds c.rest-wanted.result) (codes_in c.loop-kind.given) (codes_in c.rest-given.result) c.in-Some-Some.kind c.in-Some-Some.code
      c.in-Some-Some.ensures c.rest-wanted.ensures c.in-Some-Some.ensures' c.rest-given.ensures.codes c.in_ok-push.ensures (c.argument.ensures n)
      ∙ c.loop-kind.invariant.all n;
}
