use Rattle.std.proofs.Common.{arith}
use Rattle.attr_coverage.proofs.covering.Found.follow_root.Goals as goal

pub add-requires : goal.add-requires
add-requires c = let within = c.is_open_root.ensures.within c.if-is_open_root.true in let long = c.requires in omega arith
