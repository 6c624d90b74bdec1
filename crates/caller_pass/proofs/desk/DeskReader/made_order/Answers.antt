use Rattle.std.proofs.Common.{subst}
use Rattle.memo_cells.specs.Working.{Held, IsOwn}
use Rattle.caller_pass.proofs.Desks.{desk_order}
use Rattle.caller_pass.proofs.desk.DeskReader.made_order.Goals as goal

pub returns : goal.returns
returns c = desk_order c.args.self.now (subst (λ (d : Held). IsOwn d) c.self.view_is c.self.invariant.0.0) c.args.a c.args.b c.cmp.result c.cmp.ensures
