-- Parts with a comma between two, as they are put on the stack from the last on.
use Rattle.std.proofs.Common.{◌≡◌, ◌≢◌, ℕ, zero, suc, ◌+◌, ◌-◌, ◌<◌, ◌≤◌, ◌==◌, Bool, true, false, List, [], ◌∷◌, ◌++◌, Some, length, map, drop, slice_get, refl, sym, ap, subst, ◌∙◌, arith}
use Rattle.std.proofs.lemmas.Bool.Decides.{nat_tests}
use Rattle.tree_writer.specs.declared.parts.Part.{Part}
use Rattle.tree_writer.specs.declared.parts.Part.TheVariants.{Node, Argument, Comma}
use Rattle.tree_arena.specs.Terms.{Forest}
use Rattle.tree_writer.specs.Parts.{AreShown, arguments_from, comma_unless, listed, node_part}
use Rattle.tree_writer.proofs.Still.{shown_still}

-- one more part in front of others, with a comma behind it unless it is the last
listed_more : (p : Part) (parts rest front new : List Part) (last : Bool) → (last ≡ true → parts ≡ []) → (last ≡ false → parts ≡ [] → ⊥)
    → front ≡ listed parts ++ rest → new ≡ p ∷ comma_unless last front → new ≡ listed (p ∷ parts) ++ rest
listed_more p [] rest front new true ends goes e f = f ∙ ap (λ ps. p ∷ ps) e
listed_more p [] rest front new false ends goes e f = absurd (goes refl refl)
listed_more p (q ∷ parts) rest front new true ends goes e f = let no : q ∷ parts ≡ [] = ends refl in cc
listed_more p (q ∷ parts) rest front new false ends goes e f = f ∙ ap (λ ps. p ∷ Comma ∷ ps) e

-- one more argument of a node in front of those behind it
pub arguments_more : (n i k count : ℕ) (rest front new : List Part) → suc i ≡ k → k ≤ count → front ≡ listed (arguments_from n k (count - k)) ++ rest
    → new ≡ Argument n i ∷ comma_unless (i + 1 == count) front → new ≡ listed (arguments_from n i (count - i)) ++ rest
arguments_more n i k count rest front new next l e f =
    listed_more (Argument n i) (arguments_from n k (count - k)) rest front new (i + 1 == count) ends goes e f
    ∙ ap (λ ps. listed (Argument n i ∷ ps) ++ rest) (ap (λ j. arguments_from n j (count - k)) (sym next))
    ∙ ap (λ d. listed (arguments_from n i d) ++ rest) one_more
  where
    one_more : suc (count - k) ≡ count - i
    one_more = omega (arith, next, l)

    none : (d : ℕ) → d ≡ 0 → arguments_from n k d ≡ []
    none zero e = refl
    none (suc d) e = absurd (omega (arith, e))

    some : (d : ℕ) → 0 < d → arguments_from n k d ≡ [] → ⊥
    some zero l e = omega (arith, l)
    some (suc d) l e = cc

    ends : (i + 1 == count) ≡ true → arguments_from n k (count - k) ≡ []
    ends t = let same : i + 1 ≡ count = grind (arith, nat_tests) in none (count - k) (omega (arith, same, next))

    goes : (i + 1 == count) ≡ false → arguments_from n k (count - k) ≡ [] → ⊥
    goes t = let other : i + 1 ≢ count = grind (arith, nat_tests) in some (count - k) (omega (arith, other, next, l))

-- no argument stands behind the last
pub arguments_none : (n count : ℕ) (rest : List Part) → listed (arguments_from n count (count - count)) ++ rest ≡ rest
arguments_none n count rest = let none : count - count ≡ 0 = omega arith in ap (λ d. listed (arguments_from n count d) ++ rest) none

-- the elements from a place on
drop_at : {X : Type 0} (xs : List X) (i : ℕ) (x : X) → slice_get xs i ≡ Some x → drop i xs ≡ x ∷ drop (suc i) xs
drop_at [] i x e = cc
drop_at (y ∷ xs) zero x e = cc
drop_at (y ∷ xs) (suc i) x e = drop_at xs i x e

drop_none : {X : Type 0} (xs : List X) (i : ℕ) → length xs ≤ i → drop i xs ≡ []
drop_none [] zero l = refl
drop_none [] (suc i) l = refl
drop_none (x ∷ xs) zero l = absurd (omega (arith, l))
drop_none (x ∷ xs) (suc i) l = drop_none xs i (omega (arith, l))

get_there : {X : Type 0} (xs : List X) (i : ℕ) → i < length xs → (x : X) × (slice_get xs i ≡ Some x)
get_there [] i l = absurd (omega (arith, l))
get_there (x ∷ xs) zero l = (x, refl)
get_there (x ∷ xs) (suc i) l = get_there xs i (omega (arith, l))

-- what was put on the stack of the trees that hang at a component, from the i-th on
abbrev pub PutsFrom : (ℕ → Forest → Type 0) → List Forest → ℕ → List Part → List Part → Type 0
PutsFrom later trees i old new = (ms : List ℕ) × AreShown later ms (drop i trees) × (new ≡ listed (map node_part ms) ++ old)

-- at first there is nothing
pub puts_none : (later : ℕ → Forest → Type 0) (trees : List Forest) (count : ℕ) (old : List Part) → count ≡ length trees → PutsFrom later trees count old old
puts_none later trees count old many = ([], subst (AreShown later []) (sym (drop_none trees count (omega (arith, many)))) tt, refl)

-- one more node in front of those behind it
pub puts_more : {shows later : ℕ → Forest → Type 0} → ((m : ℕ) (tree : Forest) → shows m tree → later m tree) → (trees : List Forest) (i k m count : ℕ) (old front new : List Part)
    → suc i ≡ k → count ≡ length trees → k ≤ count → ((tree : Forest) → slice_get trees i ≡ Some tree → later m tree)
    → PutsFrom shows trees k old front → new ≡ Node m ∷ comma_unless (i + 1 == count) front → PutsFrom later trees i old new
puts_more {shows} {later} still trees i k m count old front new next many l shown (ms, are, e) f = (
  m ∷ ms,
  subst (AreShown later (m ∷ ms)) (sym (drop_at trees i there.0 there.1 ∙ ap (λ j. there.0 ∷ drop j trees) next)) (shown there.0 there.1, shown_still still ms (drop k trees) are),
  listed_more (Node m) (map node_part ms) old front new (i + 1 == count) ends goes e f,
)
  where
    there : (tree : Forest) × (slice_get trees i ≡ Some tree)
    there = get_there trees i (omega (arith, next, many, l))

    none_left : (ms : List ℕ) (later : List Forest) → AreShown shows ms later → later ≡ [] → map node_part ms ≡ []
    none_left [] later h e = refl
    none_left (m ∷ ms) [] h e = absurd h
    none_left (m ∷ ms) (tree ∷ trees) h e = cc

    some_left : (ms : List ℕ) (tree : Forest) (later : List Forest) → AreShown shows ms (tree ∷ later) → map node_part ms ≡ [] → ⊥
    some_left [] tree later h e = h
    some_left (m ∷ ms) tree later h e = cc

    ends : (i + 1 == count) ≡ true → map node_part ms ≡ []
    ends t = let same : i + 1 ≡ count = grind (arith, nat_tests) in none_left ms (drop k trees) are (drop_none trees k (omega (arith, same, next, many)))

    goes : (i + 1 == count) ≡ false → map node_part ms ≡ [] → ⊥
    goes t e =
        let other : i + 1 ≢ count = grind (arith, nat_tests) in
        let more = get_there trees k (omega (arith, other, next, many, l)) in
        some_left ms more.0 (drop (suc k) trees) (subst (AreShown shows ms) (drop_at trees k more.0 more.1) are) e
