use Rattle.std.proofs.Common.{take, map, []}
use Rattle.broken_rules.specs.Notes.{Notes, each_after}
use Rattle.names.specs.Among.{is_among}
use Rattle.ast_rules.specs.Members.{Adds, names_of_components, member_broken}
use Rattle.ast_rules.specs.Written.{seen_component}
use Rattle.ast_rules.proofs.members.check_own.Given as goal

abbrev pub invariant-loop-i : goal.invariant-loop-i
invariant-loop-i l = record {
  names : Adds l.fn.names (names_of_components (take l.i (map seen_component l.components))) l.names;
  noted : Notes (each_after (member_broken (is_among l.fn.names) l.count) [] (take l.i (map seen_component l.components))) l.fn.earliest l.earliest;
}
