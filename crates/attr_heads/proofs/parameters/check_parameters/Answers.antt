use Rattle.std.proofs.Common.{◌++◌, map, subst, sym, take}
use Rattle.names.specs.Among.{is_among}
use Rattle.names.specs.Known.{Knows}
use Rattle.aspect_items.specs.Items.{seen_parameter}
use Rattle.attr_heads.specs.Parameters.{parameter_broken, parameter_names}
use Rattle.attr_heads.proofs.ParametersNoted.{names_more}
use Rattle.attr_scope.proofs.Seen.{length-taken, notes_each_after_seen, taken}
use Rattle.attr_heads.proofs.parameters.check_parameters.Goals as goal

pub loop-count-preserved : goal.loop-count-preserved
loop-count-preserved c =
    let i = c.loop-count.count in
    let xs = c.args.parameters.now in
    let g = c.args.grammar.now in
    let outer = c.args.names.now in
    let before = take i (map seen_parameter xs) in
    let known = c.loop-count.invariant.known in
    record {
      noted = notes_each_after_seen seen_parameter xs i (parameter_broken g outer) c.index-parameters-count.is c.loop-count-test.true c.loop-count.invariant.noted
          (c.in_ok-check_parameter.ensures.noted outer before known (length-taken seen_parameter xs i c.loop-count-test.true));
      known = subst (λ zs. Knows c.check_parameter.new.names (is_among (outer ++ parameter_names zs))) (sym (taken seen_parameter xs i c.index-parameters-count.is c.loop-count-test.true))
          (names_more g outer before (seen_parameter c.index-parameters-count.result) c.in_ok-check_parameter.ensures.names known);
    }
