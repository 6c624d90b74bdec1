use Rattle.ll_parser.proofs.Coding.{goes_by, none_by}
use Rattle.ll_parser.proofs.parser.step.Goals as goal

pub returns-in-Ok-extend_from_slice : goal.returns-in-Ok-extend_from_slice
returns-in-Ok-extend_from_slice c = goes_by c.args.stack.now.items c.in-Some.body.now c.in-Nonterminal.is c.choice.ensures c.in-Some.ensures c.in-Ok-extend_from_slice.ensures.items

pub returns-in-None : goal.returns-in-None
returns-in-None c = none_by c.in-Nonterminal.is c.choice.ensures c.in-None.ensures
