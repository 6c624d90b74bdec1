-- The trees of terms by their numbers.
use Rattle.std.proofs.Common.{◌≡◌, ℕ, zero, suc, ◌+◌, ◌-◌, ◌<◌, ◌≤◌, ◌==◌, Bool, true, false, nat_lt, if◌then◌else◌, List, ◌∷◌, Some, slice_get, refl, ap, subst, ◌∙◌, arith}
use Rattle.std.proofs.lemmas.Bool.{eqb-true, le-ltb, lt-ltb, ltb-false, ltb-true}
use Rattle.ast_grammar.specs.declared.grammar.ClassId.{ClassId}
use Rattle.ast_grammar.specs.Grammar.{Class}
use Rattle.tree_arena.specs.Terms.{Forest, Empty, Tree, IsTerm, root, below_of, roots_at, size, tree_at}
use Rattle.tree_arena.specs.Accessors.{HasRoot, IsOneTree, alone}

-- a tree in front of the number of those below a tree is one of these
inside : (c : ClassId) (k : ℕ) (tokens : List ℕ) (below beside : Forest) (m : ℕ) → m < size below
    → tree_at (Tree c k tokens below beside) (suc m) ≡ tree_at below m
inside c k tokens below beside m l = ap (λ b. if b then tree_at below m else tree_at beside (m - size below)) (lt-ltb m (size below) l)

-- and one behind it stands beside the tree
outside : (c : ClassId) (k : ℕ) (tokens : List ℕ) (below beside : Forest) (m n : ℕ) → size below + n ≡ m
    → tree_at (Tree c k tokens below beside) (suc m) ≡ tree_at beside n
outside c k tokens below beside m n e =
    let number : m - size below ≡ n = omega (arith, e) in
    ap (λ b. if b then tree_at below m else tree_at beside (m - size below)) (le-ltb m (size below) (omega (arith, e))) ∙ ap (tree_at beside) number

-- a number in front of the number of nodes has a tree
pub tree_there : (f : Forest) (n : ℕ) → n < size f → (sub : Forest) × (tree_at f n ≡ Some sub)
tree_there Empty n l = absurd (omega (arith, l))
tree_there (Tree c k tokens below beside) zero l = (Tree c k tokens below Empty, refl)
tree_there (Tree c k tokens below beside) (suc m) l =
    elim (nat_lt m (size below)) as (λ b. nat_lt m (size below) ≡ b → (sub : Forest) × ((if b then tree_at below m else tree_at beside (m - size below)) ≡ Some sub)) [
      | true ↦ λ t. tree_there below m (ltb-true m (size below) t)
      | false ↦ λ t. tree_there beside (m - size below) (let past = ltb-false m (size below) t in omega (arith, l, past))
    ] refl

-- the trees below a tree are in front of the end of all
pub tree_fits : (f : Forest) (n : ℕ) (sub : Forest) → tree_at f n ≡ Some sub → n + size sub ≤ size f
tree_fits Empty n sub e = cc
tree_fits (Tree c k tokens below beside) zero sub e = let same : size (Tree c k tokens below Empty) ≡ size sub = cc in omega (arith, same)
tree_fits (Tree c k tokens below beside) (suc m) sub e =
    elim (nat_lt m (size below)) as (λ b. nat_lt m (size below) ≡ b → (if b then tree_at below m else tree_at beside (m - size below)) ≡ Some sub
    → suc m + size sub ≤ suc (size below + size beside)) [
      | true ↦ λ t h. let r = tree_fits below m sub h in omega (arith, r)
      | false ↦ λ t h. let past = ltb-false m (size below) t in let r = tree_fits beside (m - size below) sub h in omega (arith, r, past)
    ] refl e

-- it is one tree
pub tree_alone : (f : Forest) (n : ℕ) (sub : Forest) → tree_at f n ≡ Some sub → IsOneTree sub
tree_alone Empty n sub e = cc
tree_alone (Tree c k tokens below beside) zero sub e = let same : Tree c k tokens below Empty ≡ sub = cc in subst IsOneTree same alone
tree_alone (Tree c k tokens below beside) (suc m) sub e =
    elim (nat_lt m (size below)) as (λ b. (if b then tree_at below m else tree_at beside (m - size below)) ≡ Some sub → IsOneTree sub) [
      | true ↦ λ h. tree_alone below m sub h
      | false ↦ λ h. tree_alone beside (m - size below) sub h
    ] e

pub tree_within : (f : Forest) (n : ℕ) (sub : Forest) → tree_at f n ≡ Some sub → n < size f
tree_within f n sub e = some sub (tree_alone f n sub e) (tree_fits f n sub e)
  where
    some : (sub : Forest) → IsOneTree sub → n + size sub ≤ size f → n < size f
    some _ alone l = omega (arith, l)

-- the trees below a tree follow it
pub trees_follow : (f : Forest) (n : ℕ) (sub : Forest) (d m : ℕ) → tree_at f n ≡ Some sub → d < size (below_of sub) → suc n + d ≡ m
    → tree_at f m ≡ tree_at (below_of sub) d
trees_follow Empty n sub d m e l a = cc
trees_follow f n sub d zero e l a = absurd (omega (arith, a))
trees_follow (Tree c k tokens below beside) zero sub d (suc m) e l a =
    let same : Tree c k tokens below Empty ≡ sub = cc in
    let trees : below ≡ below_of sub = ap below_of same in
    let number : m ≡ d = omega (arith, a) in
    inside c k tokens below beside m (omega (arith, l, number, ap size trees)) ∙ ap (tree_at below) number ∙ ap (λ t. tree_at t d) trees
trees_follow (Tree c k tokens below beside) (suc n) sub d (suc m) e l a =
    elim (nat_lt n (size below)) as (λ b. nat_lt n (size below) ≡ b → (if b then tree_at below n else tree_at beside (n - size below)) ≡ Some sub
    → tree_at (Tree c k tokens below beside) (suc m) ≡ tree_at (below_of sub) d) [
      | true ↦ λ t h.
          let fits = tree_fits below n sub h in
          let lower = below_fits sub in
          inside c k tokens below beside m (omega (arith, fits, lower, l, a)) ∙ trees_follow below n sub d m h l (omega (arith, a))
      | false ↦ λ t h.
          let past = ltb-false n (size below) t in
          outside c k tokens below beside m (m - size below) (omega (arith, past, a))
          ∙ trees_follow beside (n - size below) sub d (m - size below) h l (omega (arith, a, past))
    ] refl e
  where
    below_fits : (sub : Forest) → d < size (below_of sub) → suc (size (below_of sub)) ≤ size sub
    below_fits Empty l = absurd (omega (arith, l))
    below_fits (Tree c k tokens below beside) l = omega arith

-- the roots of trees side by side are trees among them
pub roots_are : (f : Forest) (i k r m : ℕ) → slice_get (roots_at i f k) r ≡ Some m → HasRoot f i k m
roots_are Empty i k r m e = cc
roots_are (Tree c j tokens below beside) i k r m e = cases (λ s h. roots_are beside (suc i + size below) k s m h) r (j == k) refl e
  where
    later : HasRoot beside (suc i + size below) k m → HasRoot (Tree c j tokens below beside) i k m
    later h = record {
      place = suc (size below + h.place);
      at = omega (arith, h.at);
      there = omega (arith, h.there);
      class = h.class;
      tokens = h.tokens;
      below = h.below;
      tree = outside c j tokens below beside (size below + h.place) h.place refl ∙ h.tree;
    }

    cases : ((s : ℕ) → slice_get (roots_at (suc i + size below) beside k) s ≡ Some m → HasRoot beside (suc i + size below) k m) → (r : ℕ) (b : Bool)
        → (j == k) ≡ b
        → slice_get (if b then i ∷ roots_at (suc i + size below) beside k else roots_at (suc i + size below) beside k) r ≡ Some m
        → HasRoot (Tree c j tokens below beside) i k m
    cases more zero true t h =
        let number : i ≡ m = cc in
        let component : j ≡ k = eqb-true j k t in
        record {
          place = 0;
          at = omega (arith, number);
          there = omega arith;
          class = c;
          tokens = tokens;
          below = below;
          tree = ap (λ a. Some (Tree c a tokens below Empty)) component;
        }
    cases more (suc r) true t h = later (more r h)
    cases more r false t h = later (more r h)

-- a term of a grammar is one tree
pub term_alone : (g : List Class) (texts : ℕ) (term : Forest) → IsTerm g texts term → IsOneTree term
term_alone g texts _ (root fits hangs) = alone
