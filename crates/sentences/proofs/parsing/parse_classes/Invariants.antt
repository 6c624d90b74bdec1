use Rattle.sentences.proofs.parsing.parse_classes.Given as goal

abbrev pub ghost-parse : goal.ghost-parse
ghost-parse g a = g.L.Language.claims
