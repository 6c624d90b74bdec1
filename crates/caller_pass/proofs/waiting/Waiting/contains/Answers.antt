use Rattle.std.proofs.Common.{ap, ◌∙◌}
use Rattle.std.proofs.lemmas.Map.Made.{is_some-lookup}
use Rattle.equation_law.specs.contracts.coding.InstancePartialEq.TheImpl as equality
use Rattle.caller_pass.specs.Waiting.{waits}
use Rattle.caller_pass.proofs.Stacks.{waits_unpacked}
use Rattle.caller_pass.proofs.waiting.Waiting.contains.Goals as goal

pub returns : goal.returns
returns c = c.contains_key.ensures ∙ is_some-lookup (equality.ghosts.eq c.args.i) c.self.inside.waiters.entries ∙ waits_unpacked c.self.inside.waiters.entries c.args.i ∙ ap (λ es. waits es c.args.i) c.self.view_is
