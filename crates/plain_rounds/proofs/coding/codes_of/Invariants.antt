-- The names so far have their codes.
use Rattle.std.proofs.Common.{◌≡◌, map, take}
use Rattle.equation_law.specs.Program.{text_of}
use Rattle.equation_law.specs.Systems.{program_of}
use Rattle.made_trees.specs.Makers.{AreTrees}
use Rattle.plain_rounds.specs.Named.{name_in}
use Rattle.plain_rounds.proofs.Coded.{AreEachNamed}
use Rattle.plain_rounds.proofs.coding.codes_of.Given as goal

abbrev pub invariant-loop-name : goal.invariant-loop-name
invariant-loop-name l = record {
  same : l.makers.system ≡ l.system;
  trees : AreTrees l.makers;
  codes : AreEachNamed (program_of l.system) l.makers.makers (map (name_in (text_of (program_of l.system))) (take l.name-index l.names)) l.codes.items;
}
