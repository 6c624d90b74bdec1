-- The answer to several phases, and that there is one.
use Rattle.std.proofs.Common.{◌≡◌, List, [], ◌∷◌, Option, Some, None, refl, sym, ap, subst}
use Rattle.broken_rules.specs.declared.broken.Broken.{Broken}
use Rattle.broken_rules.specs.Answers.{Answers, clean, passes, breaks, first_broken, or_else}
use Rattle.broken_rules.specs.Notes.{Notes}
use Rattle.broken_rules.specs.Order.{first_of}
use Rattle.broken_rules.proofs.Noting.{ends_of}
use Rattle.broken_rules.proofs.Order.{first_is, none_is, same_place}

pub passes_if : {fs : List Broken} {rest : List (List Broken)} {r : Option Broken} → first_of fs ≡ None → Answers rest r → Answers (fs ∷ rest) r
passes_if {fs} {rest} {r} h a = subst (λ gs. Answers (gs ∷ rest) r) (sym (none_is fs h)) (passes a)

pub breaks_if : {fs : List Broken} {rest : List (List Broken)} {f : Broken} → first_of fs ≡ Some f → Answers (fs ∷ rest) (Some f)
breaks_if {fs} {rest} {f} h = breaks (first_is fs f h)

answered_by : (fs : List Broken) (rest : List (List Broken)) (o : Option Broken) → first_of fs ≡ o → Answers rest (first_broken rest) → Answers (fs ∷ rest) (or_else o (first_broken rest))
answered_by fs rest None e a = passes_if e a
answered_by fs rest (Some f) e a = breaks_if e

one_phase_of : (fs : List Broken) (r : Option Broken) → first_of fs ≡ r → Answers (fs ∷ []) r
one_phase_of fs None h = passes_if h clean
one_phase_of fs (Some f) h = breaks_if h

-- the answer to one phase, by what was noted
pub one_phase : (fs : List Broken) {old new r : Option Broken} → old ≡ None → Notes fs old new → r ≡ new → Answers (fs ∷ []) r
one_phase fs {old} {new} {r} e h is = one_phase_of fs r (ends_of e h is)

-- what `first_broken` computes is the answer
pub answered : (phases : List (List Broken)) → Answers phases (first_broken phases)
answered [] = clean
answered (fs ∷ rest) = answered_by fs rest (first_of fs) refl (answered rest)

-- and there is one answer
pub one_answer : {phases : List (List Broken)} {p q : Option Broken} → Answers phases p → Answers phases q → p ≡ q
one_answer clean clean = refl
one_answer (passes a) (passes b) = one_answer a b
one_answer (passes a) (breaks h) = absurd h.has
one_answer (breaks h) (passes b) = absurd h.has
one_answer (breaks {b = f} h) (breaks {b = g} k) = ap Some (same_place f g (k.least f h.has) (h.least g k.has))
