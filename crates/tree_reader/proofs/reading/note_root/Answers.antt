use Rattle.tree_reader.proofs.Root.{root_noted}
use Rattle.tree_reader.proofs.reading.note_root.Goals as goal

pub returns-in-Some : goal.returns-in-Some
returns-in-Some c =
    λ w writes. root_noted c.args.grammar.now c.args.tokens.now c.in-Some.name.now w c.find_class-class.result c.first_class.result c.in-Some.ensures.value writes c.find_class-class.ensures.number
    c.first_class.ensures c.is_apart.ensures c.place_of.ensures c.note_if.ensures
