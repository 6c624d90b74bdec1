use Rattle.std.proofs.Common.{rules}
use Rattle.std.proofs.lemmas.Int.{wraps}
use Rattle.equation_law.proofs.Codes.{signed}
use Rattle.expr_eval.proofs.binding.integer.Goals as goal

pub returns : goal.returns
returns c = let e = signed c.args.code c.ranges.code.fits in search (rules, wraps)
