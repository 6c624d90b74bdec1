use Rattle.std.proofs.Common.{ℕ, List, ap, ◌∙◌}
use Rattle.solutions.specs.Asking.{Gives}
use Rattle.tree_arena.specs.Nodes.{Node, token_in}
use Rattle.equation_law.specs.Equations.{decoded}
use Rattle.equation_law.specs.Meaning.{token_at}
use Rattle.equation_law.specs.Program.{text_of}
use Rattle.equation_law.specs.Systems.{program_of}
use Rattle.set_values.proofs.TextCodes.{first_text_by}
use Rattle.expr_eval.specs.Evaluating.{world_in}
use Rattle.expr_eval.proofs.Accessed.{on_node, on_null, source_within, token_by}
use Rattle.expr_eval.proofs.accessors.token.Goals as goal

pub returns-in-None-clause-value : goal.returns-in-None-clause-value
returns-in-None-clause-value c n is =
    ap Gives (c.default_of.ensures.value n (first_text_by c.args.system.now is)) ∙ on_null is (token_at (world_in c.args.system.now) c.args.kind c.args.k.0) c.args.receiver.0 c.in-None.ensures

pub returns-in-Some-clause-value : goal.returns-in-Some-clause-value
returns-in-Some-clause-value c n is =
    let p = program_of c.args.system.now in
    ap Gives (c.decoded.ensures.value n (first_text_by c.args.system.now is))
    ∙ ap (λ (texts : ℕ → List ℕ). Gives (decoded texts c.args.kind c.code_at.result)) is.texts
    ∙ ap (λ o. Gives (decoded (text_of p) c.args.kind o)) (c.code_at.ensures ∙ ap (λ (nodes : List Node). token_in nodes c.in-Some.node c.args.k.0) c.tree.ensures)
    ∙ token_by is c.args.kind c.in-Some.node c.args.k.0 (source_within c.in-Some.node c.args.receiver.0 c.requires c.in-Some.ensures)
    ∙ on_node is (token_at (world_in c.args.system.now) c.args.kind c.args.k.0) c.in-Some.node c.args.receiver.0 c.in-Some.ensures

pub returns-in-None-clause-coded : goal.returns-in-None-clause-coded
returns-in-None-clause-coded c = c.default_of.ensures.elements
