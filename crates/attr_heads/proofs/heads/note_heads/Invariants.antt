use Rattle.std.proofs.Common.{[], map, take}
use Rattle.broken_rules.specs.Notes.{Notes, each_after}
use Rattle.attr_heads.specs.DeclaredNames.{Tells}
use Rattle.attr_heads.specs.Heads.{head_broken}
use Rattle.attr_heads.specs.FirstInherited.{TellsFirst}
use Rattle.attr_scope.specs.Seen.{seen_head}
use Rattle.attr_heads.proofs.heads.note_heads.Given as goal

abbrev pub invariant-loop-count : goal.invariant-loop-count
invariant-loop-count l = record {
  noted : Notes (each_after (head_broken l.grammar) [] (take l.count (map seen_head l.heads))) l.initial.faults l.faults;
  told : Tells l.grammar (take l.count (map seen_head l.heads)) l.declared;
  first : TellsFirst (take l.count (map seen_head l.heads)) l.inheriting.heads;
}
