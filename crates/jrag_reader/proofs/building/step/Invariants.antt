use Rattle.jrag_reader.proofs.building.step.Given as goal

abbrev pub ghost-shift : goal.ghost-shift
ghost-shift g a = g.texts
