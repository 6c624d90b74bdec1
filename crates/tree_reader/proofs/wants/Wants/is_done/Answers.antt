use Rattle.std.proofs.Common.{ℕ, nat_le, ◌∙◌, ap, sym}
use Rattle.ast_grammar.specs.Grammar.{components_of}
use Rattle.tree_reader.specs.Steps.{is_done, seen_wants}
use Rattle.tree_reader.proofs.Wanting.{done_dropped}
use Rattle.tree_reader.proofs.wants.Wants.is_done.Goals as goal

pub returns-in-Components : goal.returns-in-Components
returns-in-Components c =
    ap (λ (n : ℕ). nat_le n c.in-Components.k) c.arity_of.ensures.number
    ∙ done_dropped (components_of c.args.grammar.now c.in-Components.class.0) c.in-Components.k
    ∙ sym (ap (λ w. is_done (seen_wants c.args.grammar.now w)) c.in-Components.is)
