-- What notes come to, and the steps of the loops that note.
use Rattle.std.proofs.Common.{◌≡◌, ℕ, ◌+◌, ◌<◌, ◌≤◌, List, [], ◌∷◌, ◌++◌, length, get_or, take, Bool, Option, None, sym, ◌∙◌, ap, subst, add-zero, append_assoc, arith}
use Rattle.std.proofs.lemmas.List.{take_more, append-nil, take_all, length-take-le}
use Rattle.std.proofs.lemmas.List.Concat.{flat_map-append}
use Rattle.std.specs.List.{flat_map}
use Rattle.broken_rules.specs.declared.broken.Broken.{Broken}
use Rattle.broken_rules.specs.Notes.{Notes, broken_if, each_after, each_from}
use Rattle.broken_rules.specs.Order.{sooner, first_of}
use Rattle.broken_rules.proofs.Order.{sooner_none, sooner_assoc, first_of-append}

pub notes_none : {a : Option Broken} → Notes [] a a
notes_none {a} = record { is = sym (sooner_none a) }

pub notes_then : {fs gs : List Broken} {a b c : Option Broken} → Notes fs a b → Notes gs b c → Notes (fs ++ gs) a c
notes_then {fs} {gs} {a} {b} {c} h k =
    record { is = k.is ∙ ap (λ x. sooner x (first_of gs)) h.is ∙ sooner_assoc a (first_of fs) (first_of gs) ∙ ap (sooner a) (sym (first_of-append fs gs)) }

-- a test in the code that is the rule's test
pub notes_if : (b d : Bool) (f : Broken) {a c : Option Broken} → b ≡ d → Notes (broken_if b f) a c → Notes (broken_if d f) a c
notes_if b d f {a} {c} e h = subst (λ z. Notes (broken_if z f) a c) e h

-- Loops. Each is given the invariant, and what the turn at the index i notes for its item x.
take_at : {X : Type 0} (xs : List X) (i : ℕ) (x : X) → i < length xs → x ≡ get_or xs i x → take (i + 1) xs ≡ take i xs ++ x ∷ []
take_at xs i x lt e = take_more xs i x lt ∙ ap (λ y. take i xs ++ y ∷ []) (sym e)

flat_map_more : {X : Type 0} (f : X → List Broken) (xs : List X) (x : X) → flat_map f (xs ++ x ∷ []) ≡ flat_map f xs ++ f x
flat_map_more f xs x = flat_map-append f xs (x ∷ []) ∙ ap (λ zs. flat_map f xs ++ zs) (append-nil (f x))

pub notes_each : {X : Type 0} (f : X → List Broken) (xs : List X) (i : ℕ) {x : X} {a b c : Option Broken}
    → x ≡ get_or xs i x → i < length xs → Notes (flat_map f (take i xs)) a b → Notes (f x) b c → Notes (flat_map f (take (i + 1) xs)) a c
notes_each f xs i {x} {a} {b} {c} e lt h k = subst (λ zs. Notes zs a c) (sym (ap (flat_map f) (take_at xs i x lt e) ∙ flat_map_more f (take i xs) x)) (notes_then h k)

-- at the end, where the loop went over a copy xs of ys
pub notes_all : {X : Type 0} (f : X → List Broken) (ys : List X) (xs : List X) (i : ℕ) {a b : Option Broken} → xs ≡ ys → Notes (flat_map f (take i xs)) a b → length xs ≤ i → Notes (flat_map f ys) a b
notes_all f ys xs i {a} {b} e h le = rw (← e) (subst (λ zs. Notes (flat_map f zs) a b) (take_all i xs le) h)

pub each_after_snoc : {X : Type 0} (f : List X → X → List Broken) (before xs : List X) (x : X) → each_after f before (xs ++ x ∷ []) ≡ each_after f before xs ++ f (before ++ xs) x
each_after_snoc f before [] x = append-nil (f before x) ∙ ap (λ zs. f zs x) (sym (append-nil before))
each_after_snoc f before (y ∷ xs) x =
    ap (λ zs. f before y ++ zs) (each_after_snoc f (before ++ y ∷ []) xs x)
    ∙ sym (append_assoc (f before y) (each_after f (before ++ y ∷ []) xs) (f ((before ++ y ∷ []) ++ xs) x))
    ∙ ap (λ zs. (f before y ++ each_after f (before ++ y ∷ []) xs) ++ f zs x) (append_assoc before (y ∷ []) xs)

pub notes_each_after : {X : Type 0} (f : List X → X → List Broken) (xs : List X) (i : ℕ) {x : X} {a b c : Option Broken}
    → x ≡ get_or xs i x → i < length xs → Notes (each_after f [] (take i xs)) a b → Notes (f (take i xs) x) b c → Notes (each_after f [] (take (i + 1) xs)) a c
notes_each_after f xs i {x} {a} {b} {c} e lt h k = subst (λ zs. Notes zs a c) (sym (ap (each_after f []) (take_at xs i x lt e) ∙ each_after_snoc f [] (take i xs) x)) (notes_then h k)

pub notes_all_after : {X : Type 0} (f : List X → X → List Broken) (ys : List X) (xs : List X) (i : ℕ) {a b : Option Broken} → xs ≡ ys → Notes (each_after f [] (take i xs)) a b → length xs ≤ i → Notes (each_after f [] ys) a b
notes_all_after f ys xs i {a} {b} e h le = rw (← e) (subst (λ zs. Notes (each_after f [] zs) a b) (take_all i xs le) h)

each_from_snoc : {X : Type 0} (f : ℕ → X → List Broken) (i : ℕ) (xs : List X) (x : X) → each_from f i (xs ++ x ∷ []) ≡ each_from f i xs ++ f (i + length xs) x
each_from_snoc f i [] x = append-nil (f i x) ∙ ap (λ n. f n x) (sym (add-zero i))
each_from_snoc f i (y ∷ xs) x =
    let shifted : (i + 1) + length xs ≡ i + length (y ∷ xs) = omega arith in
    ap (λ zs. f i y ++ zs) (each_from_snoc f (i + 1) xs x)
    ∙ sym (append_assoc (f i y) (each_from f (i + 1) xs) (f ((i + 1) + length xs) x))
    ∙ ap (λ n. (f i y ++ each_from f (i + 1) xs) ++ f n x) shifted

pub notes_each_from : {X : Type 0} (f : ℕ → X → List Broken) (xs : List X) (i : ℕ) {x : X} {a b c : Option Broken}
    → x ≡ get_or xs i x → i < length xs → Notes (each_from f 0 (take i xs)) a b → Notes (f i x) b c → Notes (each_from f 0 (take (i + 1) xs)) a c
notes_each_from f xs i {x} {a} {b} {c} e lt h k =
    let here : 0 + length (take i xs) ≡ i = omega (arith, length-take-le i xs (omega arith)) in
    subst (λ zs. Notes zs a c) (sym (ap (each_from f 0) (take_at xs i x lt e) ∙ each_from_snoc f 0 (take i xs) x)) (notes_then h (subst (λ n. Notes (f n x) b c) (sym here) k))

pub notes_all_from : {X : Type 0} (f : ℕ → X → List Broken) (ys : List X) (xs : List X) (i : ℕ) {a b : Option Broken} → xs ≡ ys → Notes (each_from f 0 (take i xs)) a b → length xs ≤ i → Notes (each_from f 0 ys) a b
notes_all_from f ys xs i {a} {b} e h le = rw (← e) (subst (λ zs. Notes (each_from f 0 zs) a b) (take_all i xs le) h)

-- what one phase's notes come to
pub ends_of : {fs : List Broken} {old new r : Option Broken} → old ≡ None → Notes fs old new → r ≡ new → first_of fs ≡ r
ends_of {fs} {old} {new} {r} e h is = sym (is ∙ h.is ∙ ap (λ o. sooner o (first_of fs)) e)

pub ruleset notes = (notes_none, notes_then, notes_if, notes_each, notes_all, notes_each_after, notes_all_after, notes_each_from, notes_all_from)
