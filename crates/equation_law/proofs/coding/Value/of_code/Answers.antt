use Rattle.std.proofs.Common.{rules}
use Rattle.std.proofs.lemmas.Int.{wraps}
use Rattle.equation_law.proofs.Codes.{signed}
use Rattle.equation_law.proofs.coding.Value.of_code.Goals as goal

pub returns-in-Int : goal.returns-in-Int
returns-in-Int c = let e = signed c.args.code c.ranges.code.fits in search (rules, wraps)
