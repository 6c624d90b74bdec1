use Rattle.std.proofs.Common.{rules, ap, sym, ◌∙◌}
use Rattle.std.proofs.lemmas.Int.{to_z-of_z, wraps}
use mir.Syntax.{w32}
use Rattle.attr_rules.specs.declared.expression.TExpr.{TExpr}
use Rattle.attr_rules.specs.Expression.{expression_of}
use Rattle.equation_law.specs.Codes.{value_by}
use Rattle.equation_law.specs.Values.{Int}
use Rattle.expr_eval.specs.Evaluating.{world_in}
use Rattle.expr_eval.specs.Parts.{made_of_one}
use Rattle.expr_eval.proofs.parts.make_of_one.Goals as goal

pub returns-in-Size-clause-value : goal.returns-in-Size-clause-value
returns-in-Size-clause-value c n is =
    let s = c.args.context.now.system.now in
    ap Int (to_z-of_z w32 c.size.result (record { sfits = c.size.type_inv }) ∙ c.size.ensures s c.requires n is) ∙ sym (ap (λ (e : TExpr). made_of_one (world_in s) (expression_of e) (value_by n c.args.part.now)) c.in-Size.is)

pub returns-in-Negate-clause-value : goal.returns-in-Negate-clause-value
returns-in-Negate-clause-value c = search (rules, wraps)
