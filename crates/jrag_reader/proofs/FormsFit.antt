-- The forms of aspects and expressions all fit the printed grammar: the tests compute.
use Rattle.std.proofs.Common.{◌≡◌, ℕ, ◌==◌, Bool, true, false, ◌&&◌, List, [], ◌∷◌, ◌++◌, reverse, if◌then◌else◌, refl, sym, subst, inl, inr, ◌⊎◌}
use Rattle.std.proofs.lemmas.Bool.{eqb-true, and_parts}
use Rattle.jrag_reader.specs.Forms.{Form, forms, forms_of_expressions, forms_of_items, forms_of_details, forms_of_optionals}
use Rattle.jrag_reader.specs.Saying.{IsAmong, here, there}
use Rattle.jrag_reader.proofs.Tables.{form_fits}

abbrev pub action_fits : ℕ → Form → Bool
action_fits action f = form_fits action (reverse f.parts) f.whole

abbrev all_fit : ℕ → List Form → Bool
all_fit action [] = true
all_fit action (f ∷ fs) = action_fits action f && all_fit action fs

among_fit : (action : ℕ) (f : Form) (fs : List Form) → all_fit action fs ≡ true → IsAmong f fs → action_fits action f ≡ true
among_fit action f [] e i = elim i [ ]
among_fit action f (g ∷ gs) e here = (and_parts (action_fits action f) (all_fit action gs) e).0
among_fit action f (g ∷ gs) e (there i) = among_fit action f gs (and_parts (action_fits action g) (all_fit action gs) e).1 i

-- the forms of one action, or else those of others
by_action : (action : ℕ) (f : Form) (c : ℕ) (fs gs : List Form) → all_fit c fs ≡ true → (IsAmong f gs → action_fits action f ≡ true)
    → IsAmong f (if action == c then fs else gs) → action_fits action f ≡ true
by_action action f c fs gs e later i = elim (action == c) as (λ t. (action == c) ≡ t → IsAmong f (if t then fs else gs) → action_fits action f ≡ true) [
  | true ↦ λ h j. among_fit action f fs (subst (λ (z : ℕ). all_fit z fs ≡ true) (sym (eqb-true action c h)) e) j
  | false ↦ λ h j. later j
] refl i

by_none : (action : ℕ) (f : Form) → IsAmong f [] → action_fits action f ≡ true
by_none action f i = elim i [ ]

expressions_fit : (a : ℕ) (f : Form) → IsAmong f (forms_of_expressions a) → action_fits a f ≡ true
expressions_fit a f =
    by_action a f 3 _ _ refl (
    by_action a f 4 _ _ refl (
    by_action a f 5 _ _ refl (
    by_action a f 6 _ _ refl (
    by_action a f 10 _ _ refl (
    by_action a f 11 _ _ refl (
    by_action a f 12 _ _ refl (
    by_action a f 13 _ _ refl (
    by_action a f 14 _ _ refl (
    by_action a f 15 _ _ refl (
    by_action a f 16 _ _ refl (
    by_action a f 17 _ _ refl (
    by_action a f 18 _ _ refl (
    by_action a f 19 _ _ refl (
    by_action a f 20 _ _ refl (
    by_action a f 21 _ _ refl (
    by_action a f 22 _ _ refl (
    by_action a f 23 _ _ refl (
    by_action a f 24 _ _ refl (
    by_action a f 25 _ _ refl (by_none a f))))))))))))))))))))

items_fit : (a : ℕ) (f : Form) → IsAmong f (forms_of_items a) → action_fits a f ≡ true
items_fit a f =
    by_action a f 26 _ _ refl (
    by_action a f 27 _ _ refl (
    by_action a f 28 _ _ refl (
    by_action a f 29 _ _ refl (
    by_action a f 30 _ _ refl (
    by_action a f 31 _ _ refl (
    by_action a f 32 _ _ refl (
    by_action a f 33 _ _ refl (
    by_action a f 34 _ _ refl (by_none a f)))))))))

details_fit : (a : ℕ) (f : Form) → IsAmong f (forms_of_details a) → action_fits a f ≡ true
details_fit a f =
    by_action a f 7 _ _ refl (
    by_action a f 8 _ _ refl (
    by_action a f 9 _ _ refl (
    by_action a f 35 _ _ refl (
    by_action a f 36 _ _ refl (
    by_action a f 37 _ _ refl (
    by_action a f 38 _ _ refl (
    by_action a f 39 _ _ refl (
    by_action a f 40 _ _ refl (
    by_action a f 41 _ _ refl (
    by_action a f 42 _ _ refl (
    by_action a f 43 _ _ refl (
    by_action a f 44 _ _ refl (
    by_action a f 45 _ _ refl (
    by_action a f 46 _ _ refl (by_none a f)))))))))))))))

optionals_fit : (a : ℕ) (f : Form) → IsAmong f (forms_of_optionals a) → action_fits a f ≡ true
optionals_fit a f =
    by_action a f 47 _ _ refl (
    by_action a f 48 _ _ refl (
    by_action a f 49 _ _ refl (
    by_action a f 50 _ _ refl (
    by_action a f 51 _ _ refl (
    by_action a f 52 _ _ refl (
    by_action a f 53 _ _ refl (
    by_action a f 54 _ _ refl (
    by_action a f 55 _ _ refl (
    by_action a f 56 _ _ refl (by_none a f))))))))))

among_either : (f : Form) (fs gs : List Form) → IsAmong f (fs ++ gs) → IsAmong f fs ⊎ IsAmong f gs
among_either f [] gs i = inr i
among_either f (g ∷ fs) gs here = inl here
among_either f (g ∷ fs) gs (there i) = elim (among_either f fs gs i) [ inl a ↦ inl (there a) | inr b ↦ inr b ]

pub forms_fit : (a : ℕ) (f : Form) → IsAmong f (forms a) → action_fits a f ≡ true
forms_fit a f i = elim (among_either f (forms_of_expressions a) _ i) [
  | inl j ↦ expressions_fit a f j
  | inr j ↦ elim (among_either f (forms_of_items a) _ j) [
    | inl k ↦ items_fit a f k
    | inr k ↦ elim (among_either f (forms_of_details a) (forms_of_optionals a) k) [ inl l ↦ details_fit a f l | inr l ↦ optionals_fit a f l ]
  ]
]
