use Rattle.std.proofs.Common.{[]}
use Rattle.equation_law.specs.Codes.{Naming, single_by, source_names}
use Rattle.expr_eval.proofs.Plain.{plain_coded, single_plain}
use Rattle.expr_eval.proofs.evaluation.put_element.Goals as goal

any_names : Naming
any_names = source_names (λ k. [])

pub returns-clause-coded : goal.returns-clause-coded
returns-clause-coded c p = plain_coded p any_names c.from.result (single_by any_names c.args.element) (c.from.ensures any_names) (single_plain any_names c.args.element)
