use Rattle.std.proofs.Common.{ap, ◌∙◌}
use Rattle.caller_pass.specs.Packing.{all_unpacked}
use Rattle.caller_pass.proofs.Stacks.{pushed}
use Rattle.caller_pass.proofs.waiting.Waiting.push.Goals as goal

pub returns : goal.returns
returns c =
    ap all_unpacked c.in-Ok.ensures.entries ∙ pushed c.self.inside.waiters.entries c.args.self.now c.self.view_is c.args.i c.in_ok-packed.packed c.args.waiter c.in_ok-packed.ensures.same c.requires
