-- The names so far are of instances.
use Rattle.std.proofs.Common.{All, map, take}
use Rattle.equation_law.specs.Checked.{IsInstance}
use Rattle.equation_law.specs.Program.{text_of}
use Rattle.equation_law.specs.Systems.{program_of}
use Rattle.plain_rounds.specs.Named.{name_in}
use Rattle.plain_rounds.proofs.instances.NameList.are_of.Given as goal

abbrev pub invariant-loop-name : goal.invariant-loop-name
invariant-loop-name l = All (IsInstance (program_of l.system)) (map (name_in (text_of (program_of l.system))) (take l.name-index l.self.names.items))
