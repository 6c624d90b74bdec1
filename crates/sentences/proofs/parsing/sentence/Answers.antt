use Rattle.std.proofs.Common.{ℕ, ◌+◌, List, drop, sym, subst}
use Rattle.std.proofs.lemmas.List.{take-append-drop}
use Rattle.ll_parser.specs.Grammar.{Production, Derives, start, IsFault}
use Rattle.sentences.proofs.parsing.sentence.Goals as goal

-- tokens with a fault are no sentence
faulty : {P : List Production} {n : ℕ} {ts : List ℕ} {i : ℕ} {es : List ℕ} → IsFault P n ts i → Derives P (start n) ts es → ⊥
faulty {P} {n} {ts} {i} {es} fault runs = fault.here (drop (i + 1) ts) es (subst (λ (us : List ℕ). Derives P (start n) us es) (sym (take-append-drop (i + 1) ts)) runs)

pub returns-in-Err-At : goal.returns-in-Err-At
returns-in-Err-At g c = λ events runs. faulty (rw c.in-Err-At.field-0-is at c.in-Err-At.ensures).0 runs
