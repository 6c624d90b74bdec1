use Rattle.std.proofs.Common.{refl, ap, ◌∙◌}
use Rattle.equation_law.specs.Systems.{program_of}
use Rattle.set_values.proofs.TextCodes.{first_text_by}
use Rattle.expr_eval.specs.Saved.{begun}
use Rattle.expr_eval.proofs.evaluation.at_first.Goals as goal

pub returns-clause-first : goal.returns-clause-first
returns-clause-first g c =
    let system = c.args.context.now.system.now in
    record {
      room = c.in_ok-names.ensures;
      next = refl;
      so_far = λ n is. c.begun-so_far.ensures.value n (first_text_by system is) ∙ ap begun c.making_of.ensures;
      coded = c.begun-so_far.ensures.coded (program_of system);
    }
