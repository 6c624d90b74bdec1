use Rattle.caller_pass.proofs.Asked.{round_loop}
use Rattle.caller_pass.proofs.asking.round.Goals as goal

pub returns-then-stands_before : goal.returns-then-stands_before
returns-then-stands_before c = λ p names f v i ends. round_loop p names i c.args.on c.args.chain ends (c.stands_before.ensures c.if-stands_before.true)
