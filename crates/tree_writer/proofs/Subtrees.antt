-- What hangs at the components of a node of a grammar.
use Rattle.std.proofs.Common.{◌≡◌, ℕ, zero, suc, ◌+◌, ◌-◌, ◌<◌, ◌==◌, nat_lt, true, false, if◌then◌else◌, List, [], ◌∷◌, Option, Some, None, All, length, slice_get, refl, sym, ap, subst, ◌∙◌, arith}
use Rattle.std.specs.Option.{option_map}
use Rattle.std.proofs.lemmas.Bool.{cond-true, cond-false, eq-eqb}
use Rattle.std.proofs.lemmas.Bool.Decides.{nat_tests}
use Rattle.std.proofs.lemmas.List.Elements.{All-cons, All-nil}
use Rattle.std.proofs.lemmas.Option.{slice_get_within}
use Rattle.ast_grammar.specs.declared.grammar.ClassId.{ClassId}
use Rattle.ast_grammar.specs.declared.grammar.Shape.{Shape}
use Rattle.ast_grammar.specs.declared.grammar.Shape.TheVariants as shapes
use Rattle.ast_grammar.specs.Grammar.{Class, Component, abstract_in}
use Rattle.tree_arena.specs.Terms.{Forest, Empty, Tree, Hangs, over, token, one, none, element, IsCode, IsTerm, MayHaveNone, MayHaveOne, root, size, tree_at}
use Rattle.tree_writer.specs.Showing.{IsSubtree, subtree, trees_at}

-- a class of the grammar
pub class_within : (g : List Class) (n : ℕ) → option_map abstract_in (slice_get g n) ≡ Some false → n < length g
class_within g n e = there (slice_get g n) refl e
  where
    there : (o : Option Class) → slice_get g n ≡ o → option_map abstract_in o ≡ Some false → n < length g
    there None is e = cc
    there (Some c) is e = slice_get_within g n c is

module _ (k : ℕ) (c : ClassId) (tokens : List ℕ) (below beside : Forest) where
  -- a tree at its component
  pub tree_here : trees_at k (Tree c k tokens below beside) ≡ Tree c k tokens below Empty ∷ trees_at k beside
  tree_here = cond-true (k == k) (Tree c k tokens below Empty ∷ trees_at k beside) (trees_at k beside) (eq-eqb k k refl)

  -- and at another one
  pub tree_elsewhere : (j : ℕ) → (k == j) ≡ false → trees_at j (Tree c k tokens below beside) ≡ trees_at j beside
  tree_elsewhere j apart = cond-false (k == j) (Tree c k tokens below Empty ∷ trees_at j beside) (trees_at j beside) apart

-- before the first component nothing hangs
pub none_before : {g : List Class} {n : ℕ} {xs : List Component} {j : ℕ} {trees : Forest} {codes : List ℕ} → Hangs g n xs j trees codes → (k : ℕ) → k < j
    → trees_at k trees ≡ []
none_before over k l = refl
none_before (token code rest) k l = none_before rest k (omega (arith, l))
none_before (one {k = j} {c = c} {tokens = tokens} {below = below} {beside = beside} may fits inner rest) k l =
    tree_elsewhere j c tokens below beside k (let apart : (j == k) ≡ false = grind (arith, nat_tests) in apart) ∙ none_before rest k (omega (arith, l))
none_before (none may rest) k l = none_before rest k (omega (arith, l))
none_before (element {k = j} {c = c} {tokens = tokens} {below = below} {beside = beside} is fits inner rest) k l =
    tree_elsewhere j c tokens below beside k (let apart : (j == k) ≡ false = grind (arith, nat_tests) in apart) ∙ none_before rest k l

-- each tree that hangs there is one of the grammar
pub all_grown : {g : List Class} {n : ℕ} {xs : List Component} {j : ℕ} {trees : Forest} {codes : List ℕ} → Hangs g n xs j trees codes → (k : ℕ)
    → All (IsSubtree g n) (trees_at k trees)
all_grown {g} {n} over k = All-nil (IsSubtree g n)
all_grown (token code rest) k = all_grown rest k
all_grown {g} {n} (one {k = j} {c = c} {tokens = tokens} {below = below} {beside = beside} may fits inner rest) k =
    let later = all_grown rest k in
    elim (j == k) as (λ b. All (IsSubtree g n) (if b then Tree c j tokens below Empty ∷ trees_at k beside else trees_at k beside)) [
      | true ↦ All-cons (IsSubtree g n) (Tree c j tokens below Empty) (trees_at k beside) (subtree fits.concrete inner) later
      | false ↦ later
    ]
all_grown (none may rest) k = all_grown rest k
all_grown {g} {n} (element {k = j} {c = c} {tokens = tokens} {below = below} {beside = beside} is fits inner rest) k =
    let later = all_grown rest k in
    elim (j == k) as (λ b. All (IsSubtree g n) (if b then Tree c j tokens below Empty ∷ trees_at k beside else trees_at k beside)) [
      | true ↦ All-cons (IsSubtree g n) (Tree c j tokens below Empty) (trees_at k beside) (subtree fits.concrete inner) later
      | false ↦ later
    ]

-- a token stands at a component of this shape
abbrev pub IsTokenShape : Shape → Type 0
IsTokenShape shapes.Child = ⊥
IsTokenShape shapes.List = ⊥
IsTokenShape shapes.Optional = ⊥
IsTokenShape shapes.Text = Unit {0}
IsTokenShape shapes.Int = Unit {0}
IsTokenShape shapes.Truth = Unit {0}

token_alone : (s : Shape) → MayHaveOne s → IsTokenShape s → ⊥
token_alone shapes.Child may is = is
token_alone shapes.List may is = is
token_alone shapes.Optional may is = is
token_alone shapes.Text may is = may
token_alone shapes.Int may is = may
token_alone shapes.Truth may is = may

abbrev shape_in : Component → Shape
shape_in x = x.shape

-- nothing hangs at a token
pub token_bare : {g : List Class} {n : ℕ} {xs : List Component} {j : ℕ} {trees : Forest} {codes : List ℕ} → Hangs g n xs j trees codes → (i k : ℕ) (x : Component)
    → j + i ≡ k → slice_get xs i ≡ Some x → IsTokenShape x.shape → trees_at k trees ≡ []
token_bare over i k x e at is = cc
token_bare (token code rest) zero k x e at is = none_before rest k (omega (arith, e))
token_bare (token code rest) (suc i) k x e at is = token_bare rest i k x (omega (arith, e)) at is
token_bare (one {x = y} may fits inner rest) zero k x e at is =
    let same : y ≡ x = cc in
    absurd (token_alone x.shape (subst MayHaveOne (ap shape_in same) may) is)
token_bare (one {k = j} {c = c} {tokens = tokens} {below = below} {beside = beside} may fits inner rest) (suc i) k x e at is =
    tree_elsewhere j c tokens below beside k (let apart : (j == k) ≡ false = grind (arith, nat_tests) in apart) ∙ token_bare rest i k x (omega (arith, e)) at is
token_bare (none may rest) zero k x e at is = none_before rest k (omega (arith, e))
token_bare (none may rest) (suc i) k x e at is = token_bare rest i k x (omega (arith, e)) at is
token_bare (element {x = y} list fits inner rest) zero k x e at is =
    let same : y ≡ x = cc in
    absurd (subst IsTokenShape (ap shape_in (sym same) ∙ list) is)
token_bare (element {k = j} {c = c} {tokens = tokens} {below = below} {beside = beside} list fits inner rest) (suc i) k x e at is =
    tree_elsewhere j c tokens below beside k (let apart : (j == k) ≡ false = grind (arith, nat_tests) in apart) ∙ token_bare rest (suc i) k x e at is

-- One tree hangs at a component.
pub record HangsAlone (k : ℕ) (trees : Forest) : Type 0 where
  pub tree : Forest
  pub alone : trees_at k trees ≡ tree ∷ []

-- so at a child
pub child_alone : {g : List Class} {n : ℕ} {xs : List Component} {j : ℕ} {trees : Forest} {codes : List ℕ} → Hangs g n xs j trees codes → (i k : ℕ) (x : Component)
    → j + i ≡ k → slice_get xs i ≡ Some x → x.shape ≡ shapes.Child → HangsAlone k trees
child_alone over i k x e at is = cc
child_alone {n = n} (token {x = y} {v = v} code rest) zero k x e at is =
    let same : y ≡ x = cc in
    absurd (subst (λ s. IsCode n s v) (ap shape_in same ∙ is) code)
child_alone (token code rest) (suc i) k x e at is = child_alone rest i k x (omega (arith, e)) at is
child_alone (one {k = j} {c = c} {tokens = tokens} {below = below} {beside = beside} may fits inner rest) zero k x e at is =
    let place : j ≡ k = omega (arith, e) in
    record {
      tree = Tree c j tokens below Empty;
      alone = ap (λ m. trees_at m (Tree c j tokens below beside)) (sym place) ∙ tree_here j c tokens below beside
          ∙ ap (λ ts. Tree c j tokens below Empty ∷ ts) (none_before rest j (omega arith));
    }
child_alone (one {k = j} {c = c} {tokens = tokens} {below = below} {beside = beside} may fits inner rest) (suc i) k x e at is =
    let later = child_alone rest i k x (omega (arith, e)) at is in
    record {
      tree = later.tree;
      alone = tree_elsewhere j c tokens below beside k (let apart : (j == k) ≡ false = grind (arith, nat_tests) in apart) ∙ later.alone;
    }
child_alone (none {x = y} may rest) zero k x e at is =
    let same : y ≡ x = cc in
    absurd (subst MayHaveNone (ap shape_in same ∙ is) may)
child_alone (none may rest) (suc i) k x e at is = child_alone rest i k x (omega (arith, e)) at is
child_alone (element {x = y} list fits inner rest) zero k x e at is =
    let same : y ≡ x = cc in
    let never : shapes.List ≡ shapes.Child = sym list ∙ ap shape_in same ∙ is in
    cc
child_alone (element {k = j} {c = c} {tokens = tokens} {below = below} {beside = beside} list fits inner rest) (suc i) k x e at is =
    let later = child_alone rest (suc i) k x e at is in
    record {
      tree = later.tree;
      alone = tree_elsewhere j c tokens below beside k (let apart : (j == k) ≡ false = grind (arith, nat_tests) in apart) ∙ later.alone;
    }

-- there is a code for each component
pub hung_codes : {g : List Class} {texts : ℕ} {xs : List Component} {k : ℕ} {trees : Forest} {codes : List ℕ} → Hangs g texts xs k trees codes → length codes ≡ length xs
hung_codes over = refl
hung_codes (token code rest) = ap suc (hung_codes rest)
hung_codes (one may fits inner rest) = ap suc (hung_codes rest)
hung_codes (none may rest) = ap suc (hung_codes rest)
hung_codes (element is fits inner rest) = hung_codes rest

-- the code of a text is that of a text of the pool
pub hung_text : {g : List Class} {texts : ℕ} {xs : List Component} {j : ℕ} {trees : Forest} {codes : List ℕ} → Hangs g texts xs j trees codes → (k : ℕ) (x : Component) (v : ℕ)
    → slice_get xs k ≡ Some x → x.shape ≡ shapes.Text → slice_get codes k ≡ Some v → v < texts
hung_text over k x v at is e = cc
hung_text {texts} (token {x = y} {v = w} code rest) zero x v at is e =
    let same : y ≡ x = cc in
    let number : w ≡ v = cc in
    subst (λ n. n < texts) number (subst (λ s. IsCode texts s w) (ap shape_in same ∙ is) code)
hung_text (token code rest) (suc k) x v at is e = hung_text rest k x v at is e
hung_text (one {x = y} may fits inner rest) zero x v at is e =
    let same : y ≡ x = cc in
    absurd (subst MayHaveOne (ap shape_in same ∙ is) may)
hung_text (one may fits inner rest) (suc k) x v at is e = hung_text rest k x v at is e
hung_text (none {x = y} may rest) zero x v at is e =
    let same : y ≡ x = cc in
    absurd (subst MayHaveNone (ap shape_in same ∙ is) may)
hung_text (none may rest) (suc k) x v at is e = hung_text rest k x v at is e
hung_text (element same fits inner rest) k x v at is e = hung_text rest k x v at is e

-- the root, one of the trees below it or one of those beside it
next_grown : (g : List Class) (texts : ℕ) (c : ClassId) (k : ℕ) (tokens : List ℕ) (below beside sub : Forest) → IsSubtree g texts (Tree c k tokens below Empty)
    → ((n : ℕ) → tree_at below n ≡ Some sub → IsSubtree g texts sub) → ((n : ℕ) → tree_at beside n ≡ Some sub → IsSubtree g texts sub)
    → (n : ℕ) → tree_at (Tree c k tokens below beside) n ≡ Some sub → IsSubtree g texts sub
next_grown g texts c k tokens below beside sub here inner outer zero e =
    let same : Tree c k tokens below Empty ≡ sub = cc in
    subst (IsSubtree g texts) same here
next_grown g texts c k tokens below beside sub here inner outer (suc n) e =
    elim (nat_lt n (size below)) as (λ b. (if b then tree_at below n else tree_at beside (n - size below)) ≡ Some sub → IsSubtree g texts sub) [
      | true ↦ inner n
      | false ↦ outer (n - size below)
    ] e

-- each subtree of trees of a grammar is one of the grammar
hung_grown : {g : List Class} {texts : ℕ} {xs : List Component} {k : ℕ} {trees : Forest} {codes : List ℕ} → Hangs g texts xs k trees codes → (n : ℕ) (sub : Forest)
    → tree_at trees n ≡ Some sub → IsSubtree g texts sub
hung_grown over n sub e = cc
hung_grown (token code rest) n sub e = hung_grown rest n sub e
hung_grown {g} {texts} (one {k} {c} {tokens} {below} {beside} may fits inner rest) n sub e =
    next_grown g texts c k tokens below beside sub (subtree fits.concrete inner) (λ m f. hung_grown inner m sub f) (λ m f. hung_grown rest m sub f) n e
hung_grown (none may rest) n sub e = hung_grown rest n sub e
hung_grown {g} {texts} (element {k} {c} {tokens} {below} {beside} is fits inner rest) n sub e =
    next_grown g texts c k tokens below beside sub (subtree fits.concrete inner) (λ m f. hung_grown inner m sub f) (λ m f. hung_grown rest m sub f) n e

pub term_grown : {g : List Class} {texts : ℕ} {term : Forest} → IsTerm g texts term → (n : ℕ) (sub : Forest) → tree_at term n ≡ Some sub → IsSubtree g texts sub
term_grown {g} {texts} (root {c} {tokens} {below} fits inner) n sub e =
    next_grown g texts c 0 tokens below Empty sub (subtree fits.concrete inner) (λ m f. hung_grown inner m sub f) (λ m f. cc) n e
