use Rattle.std.proofs.Common.{take}
use Rattle.broken_rules.specs.Notes.{Notes, each_from}
use Rattle.ast_rules.specs.Superclasses.{own_broken}
use Rattle.ast_rules.specs.Written.{seen_rules}
use Rattle.ast_rules.proofs.loops.check_superclasses.Given as goal

abbrev pub invariant-loop-i : goal.invariant-loop-i
invariant-loop-i l = Notes (each_from (own_broken l.superclasses) 0 (take l.i (seen_rules l.rules))) l.initial.earliest l.earliest
