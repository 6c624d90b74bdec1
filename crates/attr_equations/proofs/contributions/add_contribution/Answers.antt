use Rattle.std.proofs.Common.{subst, sym, arith}
use Rattle.std.proofs.lemmas.Result.{on_ok_weaker}
use Rattle.attr_equations.specs.KeptContributions.{AreNumbered}
use Rattle.attr_equations.proofs.Numbering.{numbered_more}
use Rattle.attr_equations.proofs.contributions.add_contribution.Goals as goal

pub returns-clause-numbered : goal.returns-clause-numbered
returns-clause-numbered c =
    on_ok_weaker c.push.result
    (λ pushed. subst (AreNumbered c.args.equations) (sym pushed) (numbered_more c.args.equations _ c.args.list.now.items c.numbered.result c.requires (omega (arith, c.len.ensures)) (omega (arith, c.if-first.false)) c.numbered.ensures.numbers))
    c.push.ensures
