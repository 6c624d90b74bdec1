use Rattle.rag_io.proofs.Numbers.{same_number}
use Rattle.rag_io.proofs.laws.one_number.Goals as goal

pub returns : goal.returns
returns c = λ texts pooled m n a b at_m at_n. same_number texts m n a b pooled at_m at_n
