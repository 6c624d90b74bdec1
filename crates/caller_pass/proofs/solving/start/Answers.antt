use Rattle.std.proofs.Common.{sym, subst}
use Rattle.circular_eval.specs.declared.local.Local.{Local}
use Rattle.circular_eval.specs.Local.{IsLocal}
use Rattle.caller_pass.proofs.solving.start.Goals as goal

pub returns-in-Ok-clause-local : goal.returns-in-Ok-clause-local
returns-in-Ok-clause-local c = λ p names f v instance coded known is_circular. subst (λ (l : Local). IsLocal p names f v l) (sym c.in-Ok.ensures.ok) (c.in_ok-local.ensures.local p names f v instance coded known is_circular)
