use Rattle.std.proofs.Common.{◌≡◌, take, None}
use Rattle.broken_rules.specs.Notes.{each_from}
use Rattle.broken_rules.specs.Order.{first_of}
use Rattle.ast_rules.specs.Members.{class_broken}
use Rattle.ast_rules.specs.Written.{seen_rules}
use Rattle.ast_rules.proofs.members.check_members.Given as goal

-- the classes so far break nothing
abbrev pub invariant-loop-i : goal.invariant-loop-i
invariant-loop-i l = first_of (each_from (class_broken (seen_rules l.rules) l.superclasses) 0 (take l.i (seen_rules l.rules))) ≡ None
