use Rattle.std.proofs.Common.{arith}
use Rattle.attr_rules.proofs.LeftOut.{left_out}
use Rattle.attr_rules.proofs.kinds.Params.rest.Goals as goal

pub returns : goal.returns
returns c =
    let p = c.args.self.now in
    left_out p.count c.saturating_sub.result p.first p.second p.third _ (λ l. omega (arith, l, c.saturating_sub.ensures, c.min.ensures)) (λ l. omega (arith, l, c.saturating_sub.ensures, c.min.ensures)) (λ l. omega (arith, l, c.saturating_sub.ensures, c.min.ensures))
