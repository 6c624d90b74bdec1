-- What one phase gives, and what a reader of several says, from what each gave.
use Rattle.std.proofs.Common.{◌≡◌, List, [], ◌∷◌, Option, Some, None, sym, subst}
use Rattle.std.specs.Prelude.{Result, Ok, Err}
use Rattle.std.specs.Result.{IsErrAnd}
use Rattle.broken_rules.specs.declared.broken.Broken.{Broken}
use Rattle.broken_rules.specs.declared.broken.ReadFault.{ReadFault}
use Rattle.broken_rules.specs.declared.broken.ReadFault.TheVariants as faults
use Rattle.broken_rules.specs.Answers.{clean, Stops, Ends, answer_of, Refuses, Says}
use Rattle.broken_rules.specs.Order.{first_of}
use Rattle.broken_rules.proofs.Answering.{passes_if, breaks_if}

-- a phase's answer, by what it noted
pub ends_with : (bs : List Broken) (o : Option Broken) (r : Result (Unit {0}) ReadFault) → r ≡ answer_of o → first_of bs ≡ o → Ends bs r
ends_with bs None r is h = subst (Ends bs) (sym is) h
ends_with bs (Some b) r is h = subst (Ends bs) (sym is) h

-- what `?` passes on of one phase
pub ends_passed : {T : Type 0} (bs : List Broken) (r : Result T ReadFault) (e : ReadFault) → IsErrAnd r (λ x. x ≡ e) → Stops bs e → Ends bs r
ends_passed bs (Ok x) e h g = absurd h
ends_passed bs (Err x) e h g = subst (Stops bs) (sym h) g

-- a phase stopped
pub refuses_here : (bs : List Broken) (rest : List (List Broken)) (e : ReadFault) → Stops bs e → Refuses (bs ∷ rest) e
refuses_here bs rest (faults.Broken b) h = breaks_if h
refuses_here bs rest faults.Memory h = tt

-- a phase passed, and the rest refuses
pub refuses_later : (bs : List Broken) (rest : List (List Broken)) (e : ReadFault) → first_of bs ≡ None → Refuses rest e → Refuses (bs ∷ rest) e
refuses_later bs rest (faults.Broken b) h g = passes_if h g
refuses_later bs rest faults.Memory h g = tt

-- what `?` passes on of several
pub says_passed : {T : Type 0} (phases : List (List Broken)) (r : Result T ReadFault) (e : ReadFault) → IsErrAnd r (λ x. x ≡ e) → Refuses phases e → Says phases r
says_passed phases (Ok x) e h g = absurd h
says_passed phases (Err x) e h g = subst (Refuses phases) (sym h) g

-- the last phase
pub says_last : {T : Type 0} (bs : List Broken) (r : Result T ReadFault) → Ends bs r → Says (bs ∷ []) r
says_last bs (Ok x) h = passes_if h clean
says_last bs (Err e) h = refuses_here bs [] e h

-- a phase passed, and the rest says
pub says_then : {T : Type 0} (bs : List Broken) (rest : List (List Broken)) (r : Result T ReadFault) → first_of bs ≡ None → Says rest r → Says (bs ∷ rest) r
says_then bs rest (Ok x) h g = passes_if h g
says_then bs rest (Err e) h g = refuses_later bs rest e h g
