use Rattle.std.proofs.Common.{◌++◌, ap, map, ◌∙◌}
use Rattle.equation_law.specs.Codes.{arguments_by, codes_in, single_by}
use Rattle.equation_law.specs.Systems.{program_of}
use Rattle.equation_law.specs.Values.{argument_value}
use Rattle.inherited_walk.specs.Sites.{outer_values}
use Rattle.expr_eval.proofs.binding.names_of.Goals as goal

pub returns : goal.returns
returns c n =
    let site = c.args.site.now in
    let p = program_of c.args.system.now in
    c.in_ok-push_bound.ensures n ∙ ap (λ xs. xs ++ outer_values p n c.reach_of.result site.outer) (c.in_ok-push_arguments.ensures n)
    ∙ (λ i. map (single_by n) (c.new-names.ensures.items i) ++ map argument_value (arguments_by n (c.parameters.ensures i) (codes_in site.inner)) ++ outer_values p n (c.reach_of.ensures i) site.outer)
