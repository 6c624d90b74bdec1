use Rattle.jrag_reader.proofs.reading.parts_of.Given as goal

abbrev pub ghost-build : goal.ghost-build
ghost-build g a = g.texts
