-- The nodes of trees in preorder, and where one of them stands.
use Rattle.std.proofs.Common.{◌≡◌, ◌≢◌, ℕ, zero, suc, ◌+◌, ◌-◌, ◌<◌, ◌≤◌, ◌==◌, ◌&&◌, true, false, nat_lt, if◌then◌else◌, List, [], ◌∷◌, ◌++◌, Some, length, refl, sym, ap, ◌∙◌, arith, append_assoc}
use Rattle.std.proofs.lemmas.Bool.{eq-eqb, ltb-false, ltb-true}
use Rattle.std.proofs.lemmas.List.{length-append}
use Rattle.ast_grammar.specs.declared.grammar.ClassId.{ClassId}
use Rattle.tree_arena.specs.Nodes.{Node, hanging_from}
use Rattle.tree_arena.specs.Terms.{Forest, Empty, Tree, nodes_from, roots_at, size, tree_at}
use Rattle.tree_arena.proofs.AccessorsLists.{Parents, Stops, hanging_both, hanging_none, parents_both, stops_both}

-- a node of these parts
abbrev pub node_at : ClassId → ℕ → ℕ → List ℕ → Node
node_at c p k tokens = record { class = c; parent = p; component = k; tokens = tokens }

pub length_nodes : (f : Forest) (p i : ℕ) → length (nodes_from p i f) ≡ size f
length_nodes Empty p i = refl
length_nodes (Tree c k tokens below beside) p i =
    let first = length_nodes below i (suc i) in
    let second = length_nodes beside p (suc i + size below) in
    ap suc (length-append (nodes_from i (suc i) below) (nodes_from p (suc i + size below) beside)
    ∙ ap (λ n. n + length (nodes_from p (suc i + size below) beside)) first ∙ ap (λ n. size below + n) second)

-- a node hangs where its trees hang, or at one of their nodes
pub parents : (f : Forest) (p i : ℕ) (P : ℕ → Type 0) → P p → ((n : ℕ) → i ≤ n → n < i + size f → P n) → Parents P (nodes_from p i f)
parents Empty p i P h all = tt
parents (Tree c k tokens below beside) p i P h all = (
  h,
  parents_both P (nodes_from i (suc i) below) (nodes_from p (suc i + size below) beside)
      (parents below i (suc i) P (all i (omega arith) (omega arith)) (λ n a b. all n (omega (arith, a)) (omega (arith, b))))
      (parents beside p (suc i + size below) P h (λ n a b. all n (omega (arith, a)) (omega (arith, b)))),
)

pub stops_nodes : (f : Forest) (p i m : ℕ) → p < m → Stops m (nodes_from p i f)
stops_nodes Empty p i m l = tt
stops_nodes (Tree c k tokens below beside) p i m l = l

-- of the nodes of trees, those that hang where the trees do are their roots
pub roots : (f : Forest) (p i k : ℕ) → p < i → hanging_from i (nodes_from p i f) p k ≡ roots_at i f k
roots Empty p i k l = refl
roots (Tree c j tokens below beside) p i k l =
    let inner = nodes_from i (suc i) below in
    let outer = nodes_from p (suc i + size below) beside in
    let many = length_nodes below i (suc i) in
    let off : Parents (λ q. q ≢ p) inner = parents below i (suc i) (λ q. q ≢ p) (omega arith) (λ q a b. omega (arith, a)) in
    let rest : hanging_from (suc i) (inner ++ outer) p k ≡ roots_at (suc i + size below) beside k =
    hanging_both p k (suc i) (suc i + size below) inner outer (omega (arith, many))
    ∙ ap (λ l. l ++ hanging_from (suc i + size below) outer p k) (hanging_none p k (suc i) inner off)
    ∙ roots beside p (suc i + size below) k (omega arith)
    in
    ap (λ b. if b && (j == k) then i ∷ hanging_from (suc i) (inner ++ outer) p k else hanging_from (suc i) (inner ++ outer) p k) (eq-eqb p p refl)
    ∙ ap (λ l. if j == k then i ∷ l else l) rest

-- Among these nodes, of which the first has the number i, number n is this one, and behind it come those of the trees below it. In front of
-- it and behind them no node hangs at it.
pub record Splits (nodes : List Node) (i n : ℕ) (c : ClassId) (k : ℕ) (tokens : List ℕ) (below : Forest) : Type 0 where
  pub front : List Node
  pub back : List Node
  pub parent : ℕ
  pub are : nodes ≡ front ++ node_at c parent k tokens ∷ (nodes_from n (suc n) below ++ back)
  pub at : i + length front ≡ n
  pub higher : parent < n
  pub before : Parents (λ q. q < n) front
  pub behind : Parents (λ q. q ≢ n) back
  pub stops : Stops n back

module _ (n : ℕ) (c : ClassId) (k : ℕ) (tokens : List ℕ) (below : Forest) where
  -- a node and the trees below it, in front of the trees beside it
  here : (d : ClassId) (j p i : ℕ) (codes : List ℕ) (trees beside : Forest) → p < i → i ≡ n → Tree d j codes trees Empty ≡ Tree c k tokens below Empty
      → Splits (nodes_from p i (Tree d j codes trees beside)) i n c k tokens below
  here d j p i codes trees beside l e same =
      let class : d ≡ c = cc in
      let component : j ≡ k = cc in
      let codes_same : codes ≡ tokens = cc in
      let trees_same : trees ≡ below = cc in
      record {
        front = [];
        back = nodes_from p (suc i + size trees) beside;
        parent = p;
        are = (λ t. node_at (class t) p (component t) (codes_same t) ∷ (nodes_from (e t) (suc (e t)) (trees_same t) ++ nodes_from p (suc i + size trees) beside));
        at = omega (arith, e);
        higher = omega (arith, e);
        before = tt;
        behind = parents beside p (suc i + size trees) (λ q. q ≢ n) (omega (arith, e)) (λ q a b. omega (arith, a, e));
        stops = stops_nodes beside p (suc i + size trees) n (omega (arith, e));
      }

  -- the trees below a node, with others beside it
  deeper : (x : Node) (p i : ℕ) (nodes : List Node) (beside : Forest) (j : ℕ) → x.parent < i → p < i → i < n → n < j → Splits nodes (suc i) n c k tokens below
      → Splits (x ∷ (nodes ++ nodes_from p j beside)) i n c k tokens below
  deeper x p i nodes beside j h l m o s =
      let rest = nodes_from p j beside in
      let inner = nodes_from n (suc n) below in
      record {
        front = x ∷ s.front;
        back = s.back ++ rest;
        parent = s.parent;
        are = ap (λ xs. x ∷ (xs ++ rest)) s.are
            ∙ ap (λ xs. x ∷ xs) (append_assoc s.front (node_at c s.parent k tokens ∷ (inner ++ s.back)) rest
            ∙ ap (λ xs. s.front ++ node_at c s.parent k tokens ∷ xs) (append_assoc inner s.back rest));
        at = omega (arith, s.at);
        higher = s.higher;
        before = (omega (arith, h), s.before);
        behind = parents_both (λ q. q ≢ n) s.back rest s.behind (parents beside p j (λ q. q ≢ n) (omega arith) (λ q a b. omega (arith, a)));
        stops = stops_both n s.back rest s.stops (stops_nodes beside p j n (omega arith));
      }

  -- trees beside others
  further : (xs ys : List Node) (i j : ℕ) → Parents (λ q. q < n) xs → i + length xs ≡ j → Splits ys j n c k tokens below
      → Splits (xs ++ ys) i n c k tokens below
  further xs ys i j p e s = record {
    front = xs ++ s.front;
    back = s.back;
    parent = s.parent;
    are = ap (λ zs. xs ++ zs) s.are ∙ sym (append_assoc xs s.front _);
    at = omega (arith, s.at, length-append xs s.front);
    higher = s.higher;
    before = parents_both (λ q. q < n) xs s.front p s.before;
    behind = s.behind;
    stops = s.stops;
  }

  -- the nodes of trees at the tree of a number
  pub splits : (f : Forest) (p i m : ℕ) (beside : Forest) → p < i → i + m ≡ n → tree_at f m ≡ Some (Tree c k tokens below beside)
      → Splits (nodes_from p i f) i n c k tokens below
  splits Empty p i m beside l a e = cc
  splits (Tree d j codes trees others) p i zero beside l a e =
      let whole : Tree d j codes trees Empty ≡ Tree c k tokens below beside = cc in
      let alone : beside ≡ Empty = cc in
      here d j p i codes trees others l (omega (arith, a)) (whole ∙ ap (Tree c k tokens below) alone)
  splits (Tree d j codes trees others) p i (suc m) beside l a e =
      elim (nat_lt m (size trees)) as (λ t. nat_lt m (size trees) ≡ t
      → (if t then tree_at trees m else tree_at others (m - size trees)) ≡ Some (Tree c k tokens below beside)
      → Splits (nodes_from p i (Tree d j codes trees others)) i n c k tokens below) [
        | true ↦ λ w f.
            let in_it : m < size trees = ltb-true m (size trees) w in
            deeper (node_at d p j codes) p i (nodes_from i (suc i) trees) others (suc i + size trees) l l (omega (arith, a)) (omega (arith, a, in_it))
            (splits trees i (suc i) m beside (omega arith) (omega (arith, a)) f)
        | false ↦ λ w f.
            let past : size trees ≤ m = ltb-false m (size trees) w in
            let many = length_nodes trees i (suc i) in
            further (node_at d p j codes ∷ nodes_from i (suc i) trees) (nodes_from p (suc i + size trees) others) i (suc i + size trees)
            (omega (arith, a), parents trees i (suc i) (λ q. q < n) (omega (arith, a)) (λ q v w. omega (arith, w, a, past))) (omega (arith, many))
            (splits others p (suc i + size trees) (m - size trees) beside (omega arith) (omega (arith, a, past)) f)
      ] refl e
