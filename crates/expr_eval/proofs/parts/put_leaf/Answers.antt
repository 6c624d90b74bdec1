use Rattle.std.proofs.Common.{[], ap, refl, sym, ◌∙◌}
use Rattle.attr_rules.specs.declared.expression.TExpr.{TExpr}
use Rattle.attr_rules.specs.Expression.{expression_of}
use Rattle.equation_law.specs.Codes.{Naming, source_names}
use Rattle.equation_law.specs.Program.{text_of}
use Rattle.equation_law.specs.Systems.{program_of}
use Rattle.equation_law.proofs.Codes.{sources_named}
use Rattle.expr_eval.specs.Evaluating.{place_in, world_in}
use Rattle.expr_eval.specs.Parts.{leaf_value}
use Rattle.expr_eval.proofs.Plain.{named_plain, plain_coded}
use Rattle.expr_eval.proofs.parts.put_leaf.Goals as goal

any_names : Naming
any_names = source_names (λ k. [])

pub returns-in-Variable : goal.returns-in-Variable
returns-in-Variable c =
    let system = c.args.context.now.system.now in (
      λ n is. c.variable.ensures n ∙ ap (λ (e : TExpr). leaf_value (world_in system) (place_in c.args.context.now n) (expression_of e)) (sym c.in-Variable.is),
      plain_coded (program_of system) any_names _ _ (c.variable.ensures any_names) (named_plain any_names c.args.context.now.names.now c.in-Variable.number),
    )

pub returns-in-Source : goal.returns-in-Source
returns-in-Source c =
    let system = c.args.context.now.system.now in
    let p = program_of system in
    let n = source_names (text_of p) in (
      λ n is. c.source.ensures n is ∙ ap (λ (e : TExpr). leaf_value (world_in system) (place_in c.args.context.now n) (expression_of e)) (sym c.in-Source.is),
      plain_coded p n c.source.result _ (c.source.ensures n (sources_named p)) refl,
    )
