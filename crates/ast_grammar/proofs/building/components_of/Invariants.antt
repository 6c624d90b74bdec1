use Rattle.std.proofs.Common.{◌≡◌, map, take}
use Rattle.std.specs.List.{flat_map}
use Rattle.ast_grammar.specs.Building.{items_of, own_at}
use Rattle.ast_grammar.proofs.building.components_of.Given as goal

abbrev pub invariant-loop-number : goal.invariant-loop-number
invariant-loop-number l = l.components.items ≡ flat_map (own_at (map items_of l.own)) (take l.number-index l.number-items)
