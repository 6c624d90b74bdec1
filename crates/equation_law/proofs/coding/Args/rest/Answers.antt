use Rattle.std.proofs.Common.{arith}
use Rattle.attr_rules.proofs.LeftOut.{left_out}
use Rattle.equation_law.proofs.coding.Args.rest.Goals as goal

pub returns-clause-codes : goal.returns-clause-codes
returns-clause-codes c =
    let xs = c.args.self in
    let few = c.requires.few in
    left_out xs.count c.saturating_sub.result xs.first xs.second xs.third 0 (λ l. omega (arith, l, c.saturating_sub.ensures)) (λ l. omega (arith, l, c.saturating_sub.ensures)) (λ l. omega (arith, l, few, c.saturating_sub.ensures))
