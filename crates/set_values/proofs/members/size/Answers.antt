use Rattle.std.proofs.Common.{ℕ, pos, ap, ◌∙◌}
use Rattle.std.specs.Int.{int_wrap}
use Rattle.std.proofs.lemmas.Int.{to_z-of_z}
use mir.Syntax.{w32}
use Rattle.set_values.proofs.members.size.Goals as goal

pub returns : goal.returns
returns c = λ system good n h.
    to_z-of_z w32 c.wrapped.result (record { sfits = c.wrapped.type_inv }) ∙ c.wrapped.ensures ∙ ap (λ (k : ℕ). int_wrap w32 (pos k)) (c.count.ensures system good n h)
