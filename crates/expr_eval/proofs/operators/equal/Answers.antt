use Rattle.std.proofs.Common.{ℕ, List, [], get_or, ap, sym, ◌∙◌}
use Rattle.std.specs.Str.{bytes_eq}
use Rattle.equation_law.specs.Codes.{reference_by, value_by}
use Rattle.equation_law.specs.Meaning.{equal}
use Rattle.equation_law.specs.Names.{same_reference}
use Rattle.equation_law.specs.Systems.{program_of}
use Rattle.set_values.proofs.TextCodes.{first_text_by}
use Rattle.expr_eval.proofs.operators.equal.Goals as goal

-- the texts of the pool are those of the program
pub returns-in-Text : goal.returns-in-Text
returns-in-Text c n is =
    c.same_text.ensures ∙ ap (λ (pool : List (List ℕ)). bytes_eq (get_or pool c.in-Text.number.0 []) (get_or pool c.text.result.0 [])) c.pool.ensures
    ∙ ap (λ (f : ℕ → List ℕ). bytes_eq (f c.in-Text.number.0) (f c.text.result.0)) (sym is.texts)
    ∙ ap (bytes_eq (n.text c.in-Text.number.0)) (c.text.ensures n (first_text_by c.args.system.now is)) ∙ ap (λ v. equal (value_by n v) (value_by n c.args.right.now)) (sym c.in-Text.is)

pub returns-in-Node : goal.returns-in-Node
returns-in-Node c n is =
    c.same_node.ensures (program_of c.args.system.now) n is ∙ ap (same_reference (reference_by n.node c.in-Node.node.0)) (c.node.ensures n) ∙ ap (λ v. equal (value_by n v) (value_by n c.args.right.now)) (sym c.in-Node.is)
