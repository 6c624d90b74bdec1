use Rattle.equation_law.proofs.Grown.{grows_itself}
use Rattle.rag_tests.proofs.forms.NothingReader.settled.Goals as goal

pub returns : goal.returns
returns c = record { kept = λ p sound. grows_itself sound; answer = λ p sound coded known n is w has. has }
