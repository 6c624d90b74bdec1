-- How far a rule has been read: level 0 is maybe nothing of it, 1 at least a token, 2 also its name, 3 also the name of a component.
-- A test on the productions of a grammar tells that each action comes at a level that it needs.
-- Actions and nonterminals have the numbers of the grammar `ast`.
use Rattle.std.proofs.Common.{◌≡◌, ℕ, zero, suc, ◌≤◌, ◌==◌, max, Bool, true, false, ◌&&◌, nat_le, if◌then◌else◌, List, [], ◌∷◌, ◌++◌, Some, subst, arith}
use Rattle.std.proofs.lemmas.Bool.{and_parts, and_from, leb-true, le-leb}
use Rattle.std.specs.List.{list_all}
use Rattle.ll_parser.specs.declared.symbols.Symbol.{Symbol}
use Rattle.ll_parser.specs.declared.symbols.Symbol.TheVariants.{Terminal, Nonterminal, Action}
use Rattle.ll_parser.specs.Grammar.{Production, nth}
use Rattle.ll_parser.specs.Table.{member, number}

abbrev pub actions : List ℕ
actions = 1 ∷ 2 ∷ 3 ∷ 4 ∷ 5 ∷ 6 ∷ 7 ∷ 8 ∷ 9 ∷ 10 ∷ 11 ∷ []

-- the level that an action needs
abbrev pub needed : ℕ → ℕ
needed a = number (0 ∷ 0 ∷ 0 ∷ 1 ∷ 0 ∷ 2 ∷ 0 ∷ 3 ∷ 3 ∷ 3 ∷ 3 ∷ 2 ∷ []) a

-- the level behind an action
abbrev pub level_after : ℕ → ℕ → ℕ
level_after l a = if a == 3 then 2 else if a == 5 then 3 else if a == 11 then 0 else l

-- the levels before and behind each nonterminal
abbrev pub level_before : ℕ → ℕ
level_before n = number (0 ∷ 0 ∷ 0 ∷ 0 ∷ 2 ∷ 2 ∷ 2 ∷ 2 ∷ 3 ∷ 3 ∷ 3 ∷ 3 ∷ []) n

abbrev pub level_behind : ℕ → ℕ
level_behind n = number (0 ∷ 0 ∷ 0 ∷ 0 ∷ 2 ∷ 2 ∷ 2 ∷ 2 ∷ 2 ∷ 2 ∷ 2 ∷ 2 ∷ []) n

-- Symbols lead from a level to another: none needs more than is there.
abbrev pub leads : ℕ → ℕ → List Symbol → Bool
leads to l [] = nat_le to l
leads to l (Terminal c ∷ s) = leads to (max l 1) s
leads to l (Action a ∷ s) = (member a actions && nat_le (needed a) l) && leads to (level_after l a) s
leads to l (Nonterminal n ∷ s) = nat_le (level_before n) l && leads to (level_behind n) s

-- behind an action a higher level is left, where a higher one was before
after_higher : (l k a : ℕ) → l ≤ k → level_after l a ≤ level_after k a
after_higher l k a le = by_tests (a == 3) (a == 5) (a == 11)
  where
    by_tests : (named worded ended : Bool)
        → (if named then 2 else if worded then 3 else if ended then 0 else l) ≤ (if named then 2 else if worded then 3 else if ended then 0 else k)
    by_tests true worded ended = omega arith
    by_tests false true ended = omega arith
    by_tests false false true = omega arith
    by_tests false false false = le

-- from a higher level symbols lead as far
higher : (to l k : ℕ) (s : List Symbol) → l ≤ k → leads to l s ≡ true → leads to k s ≡ true
higher to l k [] le e = let least : to ≤ l = leb-true to l e in le-leb to k (omega arith)
higher to l k (Terminal c ∷ s) le e = higher to (max l 1) (max k 1) s (omega arith) e
higher to l k (Action a ∷ s) le e =
    let parts = and_parts _ _ e in
    let can = and_parts _ _ parts.0 in
    let least : needed a ≤ l = leb-true (needed a) l can.1 in
    and_from _ _ (and_from _ _ can.0 (le-leb (needed a) k (omega arith))) (higher to (level_after l a) (level_after k a) s (after_higher l k a le) parts.1)
higher to l k (Nonterminal n ∷ s) le e =
    let parts = and_parts _ _ e in
    let least : level_before n ≤ l = leb-true (level_before n) l parts.0 in
    and_from _ _ (le-leb (level_before n) k (omega arith)) parts.1

-- symbols and more symbols lead from level to level
joined : (to at l : ℕ) (xs s : List Symbol) → leads at l xs ≡ true → leads to at s ≡ true → leads to l (xs ++ s) ≡ true
joined to at l [] s e f = higher to at l s (leb-true at l e) f
joined to at l (Terminal c ∷ xs) s e f = joined to at (max l 1) xs s e f
joined to at l (Action a ∷ xs) s e f =
    let parts = and_parts _ _ e in
    and_from _ _ parts.0 (joined to at (level_after l a) xs s parts.1 f)
joined to at l (Nonterminal n ∷ xs) s e f =
    let parts = and_parts _ _ e in
    and_from _ _ parts.0 (joined to at (level_behind n) xs s parts.1 f)

-- a production leads from the level before its nonterminal to the one behind it
abbrev pub row_leads : Production → Bool
row_leads r = leads (level_behind r.of) (level_before r.of) r.body

row_at : (rows : List Production) (p : ℕ) (r : Production) → list_all row_leads rows ≡ true → nth rows p ≡ Some r → row_leads r ≡ true
row_at [] p r e h = absurd (cc)
row_at (x ∷ rows) zero r e h = let same : x ≡ r = cc in subst (λ y. row_leads y ≡ true) same (and_parts _ _ e).0
row_at (x ∷ rows) (suc p) r e h = row_at rows p r (and_parts (row_leads x) _ e).1 h

-- where each production does, its body may stand in the place of its nonterminal
pub opened : (to l : ℕ) (rows : List Production) (p : ℕ) (r : Production) {n : ℕ} (s : List Symbol) → list_all row_leads rows ≡ true → nth rows p ≡ Some r → r.of ≡ n
    → leads to l (Nonterminal n ∷ s) ≡ true → leads to l (r.body ++ s) ≡ true
opened to l rows p r {n} s fit h is e =
    let parts = and_parts _ _ e in
    let row : leads (level_behind n) (level_before n) r.body ≡ true = subst (λ m. leads (level_behind m) (level_before m) r.body ≡ true) is (row_at rows p r fit h) in
    joined to (level_behind n) l r.body s (higher (level_behind n) (level_before n) l r.body (leb-true (level_before n) l parts.0) row) parts.1
