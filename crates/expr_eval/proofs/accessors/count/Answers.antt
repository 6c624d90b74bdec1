use Rattle.std.proofs.Common.{ℕ, ℤ, pos, ap, ◌∙◌, of_z, to_z}
use Rattle.std.specs.Int.{int_wrap}
use Rattle.std.proofs.lemmas.Int.{of_z-to_z}
use mir.Syntax.{w32}
use Rattle.equation_law.specs.Meaning.{count_at}
use Rattle.equation_law.proofs.Codes.{signed}
use Rattle.expr_eval.specs.Evaluating.{world_in}
use Rattle.expr_eval.proofs.Accessed.{on_node}
use Rattle.expr_eval.proofs.accessors.count.Goals as goal

pub returns-in-Some : goal.returns-in-Some
returns-in-Some c n is =
    let number = c.count_at.result in
    ap (λ (z : ℤ). to_z w32 (of_z w32 z)) c.cast_signed.ensures ∙ ap (to_z w32) (of_z-to_z w32 number c.count_at.type_inv) ∙ signed number c.count_at.type_inv
    ∙ ap (λ (m : ℕ). int_wrap w32 (pos m)) (c.count_at.ensures n is)
    ∙ on_node is (count_at (world_in c.args.system.now) c.args.k.0) c.in-Some.node c.args.receiver.0 c.in-Some.ensures
