use Rattle.std.proofs.Common.{ap, subst, sym, ◌∙◌}
use Rattle.attr_rules.specs.declared.expression.TExpr.{TExpr}
use Rattle.attr_rules.specs.Expression.{expression_of}
use Rattle.equation_law.specs.Codes.{AreElements, source_names, value_by}
use Rattle.equation_law.specs.Program.{text_of}
use Rattle.equation_law.specs.Systems.{program_of}
use Rattle.equation_law.specs.Values.{set_operate}
use Rattle.equation_law.proofs.Codes.{sources_named}
use Rattle.expr_eval.specs.Evaluating.{world_in}
use Rattle.expr_eval.specs.Parts.{made_of_two}
use Rattle.expr_eval.proofs.Plain.{operate_plain, plain_coded}
use Rattle.expr_eval.proofs.parts.make_of_two.Goals as goal

pub returns-in_ok-first-in-Sets-clause-value : goal.returns-in_ok-first-in-Sets-clause-value
returns-in_ok-first-in-Sets-clause-value c n is =
    let s = c.args.context.now.system.now in
    let p = program_of s in
    let left = c.replace-left.ensures.value in
    let right = c.replace-right.ensures.value in
    c.in_ok-first-in-Sets.ensures.value s (subst (AreElements p) (sym left) c.requires.first) (subst (AreElements p) (sym right) c.requires.second) n is
    ∙ (λ i. set_operate c.in-Sets.operator c.in-Sets.kind (value_by n (left i)) (value_by n (right i)))
    ∙ sym (ap (λ (e : TExpr). made_of_two (world_in s) (expression_of e) (value_by n c.args.first.now) (value_by n c.args.second.now)) c.in-Sets.is)

pub returns-in_ok-first-in-Sets-clause-coded : goal.returns-in_ok-first-in-Sets-clause-coded
returns-in_ok-first-in-Sets-clause-coded c =
    let system = c.args.context.now.system.now in
    c.in_ok-first-in-Sets.ensures.elements system (subst (AreElements (program_of system)) (sym c.replace-left.ensures.value) c.requires.first) (subst (AreElements (program_of system)) (sym c.replace-right.ensures.value) c.requires.second)

pub returns-in-Binary-clause-coded : goal.returns-in-Binary-clause-coded
returns-in-Binary-clause-coded c =
    let p = program_of c.args.context.now.system.now in
    let n = source_names (text_of p) in
    plain_coded p n c.operate.result _ (c.operate.ensures n (sources_named p)) (operate_plain c.in-Binary.operator (value_by n c.args.first.now) (value_by n c.args.second.now))
