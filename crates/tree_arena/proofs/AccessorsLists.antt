-- What the words of the accessors say of lists of nodes that are made of others.
use Rattle.std.proofs.Common.{◌≡◌, ◌≢◌, ℕ, zero, suc, ◌+◌, ◌<◌, ◌≤◌, ◌==◌, ◌&&◌, Bool, true, false, nat_le, if◌then◌else◌, List, [], ◌∷◌, ◌++◌, Some, length, slice_get, take, refl, sym, ap, ◌∙◌, arith}
use Rattle.std.proofs.lemmas.Bool.Decides.{nat_tests}
use Rattle.tree_arena.specs.Nodes.{Node, below_from, behind, hanging_from, tokens_at}

-- each of the nodes hangs at such a node
abbrev pub Parents : (ℕ → Type 0) → List Node → Type 0
Parents P [] = Unit {0}
Parents P (x ∷ xs) = P x.parent × Parents P xs

-- the first of them, if there is one, hangs in front of number n
abbrev pub Stops : ℕ → List Node → Type 0
Stops n [] = Unit {0}
Stops n (x ∷ xs) = x.parent < n

pub parents_both : (P : ℕ → Type 0) (xs ys : List Node) → Parents P xs → Parents P ys → Parents P (xs ++ ys)
parents_both P [] ys p q = q
parents_both P (x ∷ xs) ys p q = (p.0, parents_both P xs ys p.1 q)

pub parents_weaker : (P Q : ℕ → Type 0) → ((n : ℕ) → P n → Q n) → (xs : List Node) → Parents P xs → Parents Q xs
parents_weaker P Q w [] p = tt
parents_weaker P Q w (x ∷ xs) p = (w x.parent p.0, parents_weaker P Q w xs p.1)

pub stops_both : (n : ℕ) (xs ys : List Node) → Stops n xs → Stops n ys → Stops n (xs ++ ys)
stops_both n [] ys s t = t
stops_both n (x ∷ xs) ys s t = s

-- the node behind some others
pub get_at : (xs ys : List Node) (x : Node) (n : ℕ) → length xs ≡ n → slice_get (xs ++ x ∷ ys) n ≡ Some x
get_at [] ys x zero e = refl
get_at [] ys x (suc n) e = absurd (omega arith)
get_at (y ∷ xs) ys x zero e = absurd (omega arith)
get_at (y ∷ xs) ys x (suc n) e = get_at xs ys x n (omega arith)

pub tokens_there : (xs ys : List Node) (x : Node) (n : ℕ) → length xs ≡ n → tokens_at (xs ++ x ∷ ys) n ≡ x.tokens
tokens_there [] ys x zero e = refl
tokens_there [] ys x (suc n) e = absurd (omega arith)
tokens_there (y ∷ xs) ys x zero e = absurd (omega arith)
tokens_there (y ∷ xs) ys x (suc n) e = tokens_there xs ys x n (omega arith)

pub behind_there : (xs ys : List Node) (x : Node) (n : ℕ) → length xs ≡ n → behind (suc n) (xs ++ x ∷ ys) ≡ ys
behind_there [] ys x zero e = refl
behind_there [] ys x (suc n) e = absurd (omega arith)
behind_there (y ∷ xs) ys x zero e = absurd (omega arith)
behind_there (y ∷ xs) ys x (suc n) e = behind_there xs ys x n (omega arith)

-- those that hang at number n or behind it, up to one that doesn't
pub below_all : (n : ℕ) (xs ys : List Node) → Parents (λ p. n ≤ p) xs → Stops n ys → below_from n (xs ++ ys) ≡ length xs
below_all n [] [] p s = refl
below_all n [] (y ∷ ys) p s = let past : nat_le n y.parent ≡ false = grind (arith, nat_tests) in ap (λ b. if b then suc (below_from n ys) else 0) past
below_all n (x ∷ xs) ys p s =
    let l : n ≤ x.parent = p.0 in
    let there : nat_le n x.parent ≡ true = grind (arith, nat_tests) in
    ap (λ b. if b then suc (below_from n (xs ++ ys)) else 0) there ∙ ap suc (below_all n xs ys p.1 s)

module _ (n k : ℕ) where
  -- a node hangs at component k of node n
  abbrev hangs : Node → Bool
  hangs x = (x.parent == n) && (x.component == k)

  pub hanging_both : (i j : ℕ) (xs ys : List Node) → i + length xs ≡ j → hanging_from i (xs ++ ys) n k ≡ hanging_from i xs n k ++ hanging_from j ys n k
  hanging_both i j [] ys e = let same : i ≡ j = omega (arith, e) in ap (λ a. hanging_from a ys n k) same
  hanging_both i j (x ∷ xs) ys e =
      let rest : hanging_from (suc i) (xs ++ ys) n k ≡ hanging_from (suc i) xs n k ++ hanging_from j ys n k = hanging_both (suc i) j xs ys (omega (arith, e)) in
      elim (hangs x) as (λ b. (if b then i ∷ hanging_from (suc i) (xs ++ ys) n k else hanging_from (suc i) (xs ++ ys) n k)
      ≡ (if b then i ∷ hanging_from (suc i) xs n k else hanging_from (suc i) xs n k) ++ hanging_from j ys n k) [
        | true ↦ ap (λ l. i ∷ l) rest
        | false ↦ rest
      ]

  -- of nodes that hang elsewhere there is none
  pub hanging_none : (i : ℕ) (xs : List Node) → Parents (λ p. p ≢ n) xs → hanging_from i xs n k ≡ []
  hanging_none i [] p = refl
  hanging_none i (x ∷ xs) p =
      let off : x.parent ≢ n = p.0 in
      let fails : hangs x ≡ false = grind (arith, nat_tests) in
      ap (λ b. if b then i ∷ hanging_from (suc i) xs n k else hanging_from (suc i) xs n k) fails ∙ hanging_none (suc i) xs p.1

  -- The node of number m is the r-th of those that hang there, the first node having the number i.
  pub record IsHung (i r m : ℕ) (xs : List Node) : Type 0 where
    pub place : ℕ
    pub node : Node
    pub at : i + place ≡ m
    pub is : slice_get xs place ≡ Some node
    pub parent : node.parent ≡ n
    pub component : node.component ≡ k
    pub index : length (hanging_from i (take place xs) n k) ≡ r

  pub hung : (i r m : ℕ) (xs : List Node) → slice_get (hanging_from i xs n k) r ≡ Some m → IsHung i r m xs
  hung i r m [] e = cc
  hung i r m (x ∷ xs) e = cases (λ s f. hung (suc i) s m xs f) r (hangs x) refl e
    where
      there : hangs x ≡ true → (x.parent ≡ n) × (x.component ≡ k)
      there t = grind (arith, nat_tests)

      cases : ((s : ℕ) → slice_get (hanging_from (suc i) xs n k) s ≡ Some m → IsHung (suc i) s m xs) → (r : ℕ) (b : Bool) → hangs x ≡ b
          → slice_get (if b then i ∷ hanging_from (suc i) xs n k else hanging_from (suc i) xs n k) r ≡ Some m → IsHung i r m (x ∷ xs)
      cases later zero true t f = record {
        place = 0;
        node = x;
        at = let same : i ≡ m = cc in omega arith;
        is = refl;
        parent = (there t).0;
        component = (there t).1;
        index = refl;
      }
      cases later (suc r) true t f =
          let h = later r f in
          let l = hanging_from (suc i) (take h.place xs) n k in
          record {
            place = suc h.place;
            node = h.node;
            at = omega (arith, h.at);
            is = h.is;
            parent = h.parent;
            component = h.component;
            index = ap (λ b. length (if b then i ∷ l else l)) t ∙ ap suc h.index;
          }
      cases later r false t f =
          let h = later r f in
          let l = hanging_from (suc i) (take h.place xs) n k in
          record {
            place = suc h.place;
            node = h.node;
            at = omega (arith, h.at);
            is = h.is;
            parent = h.parent;
            component = h.component;
            index = ap (λ b. length (if b then i ∷ l else l)) t ∙ h.index;
          }

  -- and the other way round
  pub hung_there : (i r m d : ℕ) (x : Node) (xs : List Node) → i + d ≡ m → slice_get xs d ≡ Some x → x.parent ≡ n → x.component ≡ k
      → length (hanging_from i (take d xs) n k) ≡ r → slice_get (hanging_from i xs n k) r ≡ Some m
  hung_there i r m d x [] a e p c l = cc
  hung_there i r m zero x (y ∷ ys) a e p c l =
      let same : y ≡ x = cc in
      let parent : y.parent ≡ n = ap (λ (z : Node). z.parent) same ∙ p in
      let component : y.component ≡ k = ap (λ (z : Node). z.component) same ∙ c in
      let here : hangs y ≡ true = grind (arith, nat_tests) in
      let number : i ≡ m = omega (arith, a) in
      ap (λ j. slice_get (hanging_from i (y ∷ ys) n k) j) (sym l)
      ∙ ap (λ b. slice_get (if b then i ∷ hanging_from (suc i) ys n k else hanging_from (suc i) ys n k) 0) here ∙ ap Some number
  hung_there i r m (suc d) x (y ∷ ys) a e p c l = cases (λ s f. hung_there (suc i) s m d x ys (omega (arith, a)) e p c f) r (hangs y) l
    where
      cases : ((s : ℕ) → length (hanging_from (suc i) (take d ys) n k) ≡ s → slice_get (hanging_from (suc i) ys n k) s ≡ Some m) → (r : ℕ) (b : Bool)
          → length (if b then i ∷ hanging_from (suc i) (take d ys) n k else hanging_from (suc i) (take d ys) n k) ≡ r
          → slice_get (if b then i ∷ hanging_from (suc i) ys n k else hanging_from (suc i) ys n k) r ≡ Some m
      cases later zero true f = absurd (omega arith)
      cases later (suc r) true f = later r (omega arith)
      cases later r false f = later r f
