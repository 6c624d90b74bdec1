use Rattle.rag_io.proofs.Quoted.{one_text, some_text, quoted_text}
use Rattle.rag_io.proofs.laws.one_unquoting.Goals as goal

pub returns-clause-some : goal.returns-clause-some
returns-clause-some c = λ text is. some_text is

pub returns-clause-one : goal.returns-clause-one
returns-clause-one c = λ text bytes others a b. one_text a b

pub returns-clause-found : goal.returns-clause-found
returns-clause-found c = λ ts i t are at is. quoted_text i t are at is
