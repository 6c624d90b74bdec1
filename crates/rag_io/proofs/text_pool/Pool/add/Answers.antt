use Rattle.rag_io.specs.Pool.{texts_of}
use Rattle.rag_io.proofs.Numbers.{IsAdded, put_last}
use Rattle.rag_io.proofs.text_pool.Pool.add.Goals as goal

-- the text was new, and stands last
added : (c : goal.In_ok-put_last) → IsAdded (texts_of c.put_last.new.texts) c.args.text.now c.len-number.result
added c =
    put_last _ c.self.view_is c.self.invariant c.in_default.ensures.value c.len-number.ensures.value c.if-number-eq-MOST_TEXTS.false c.in_ok-put_last.ensures.added

pub invariant_of-self-2 : goal.invariant_of-self-2
invariant_of-self-2 c = (added c).pooled

pub returns-clause-number : goal.returns-clause-number
returns-clause-number c = (added c).numbered

pub returns-clause-text : goal.returns-clause-text
returns-clause-text c = (added c).at

pub returns-clause-pool : goal.returns-clause-pool
returns-clause-pool c = (added c).pooled
