-- Words that ask for nothing have the usage text as their answer.
use Rattle.std.proofs.Common.{map}
use Rattle.run_io.specs.Words.{text_of_word}
use Rattle.query_runner.proofs.Preparing.{usage_answer}
use Rattle.query_runner.proofs.running.prepare.Goals as goal

pub returns-in-None-clause-answer : goal.returns-in-None-clause-answer
returns-in-None-clause-answer g c = usage_answer (map text_of_word c.args.words.now) (g.S.Shelf.files c.args.shelf.now) c.in-None.ensures
