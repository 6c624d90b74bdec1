-- The texts of trees at the components at which they hang.
use Rattle.std.proofs.Common.{◌≡◌, ℕ, suc, ◌<◌, ◌≤◌, List, [], ◌∷◌, ◌++◌, true, false, ◌==◌, if◌then◌else◌, codes, map, slice_get, refl, sym, ap, ◌∙◌, arith}
use Rattle.std.proofs.lemmas.Bool.{cond-true, cond-false, eq-eqb}
use Rattle.std.proofs.lemmas.Bool.Decides.{nat_tests}
use Rattle.std.proofs.lemmas.List.{append-nil}
use Rattle.ast_grammar.specs.declared.grammar.ClassId.{ClassId}
use Rattle.ast_grammar.specs.Grammar.{Class, Component, components_of}
use Rattle.tree_arena.specs.Terms.{Forest, Empty, Tree, Hangs}
use Rattle.tree_writer.specs.Canonical.{Piece, arguments_text, joined, name_in, pieces_of, texts_at, tree_text}
use Rattle.tree_writer.specs.Showing.{trees_at}
use Rattle.tree_writer.proofs.Subtrees.{none_before}

-- the same texts stand at component k and behind it
pub record Agrees (pieces others : List Piece) (k : ℕ) : Type 0 where
  pub same : (j : ℕ) → k ≤ j → texts_at j pieces ≡ texts_at j others

-- the same pieces
pub agrees_all : (pieces : List Piece) (k : ℕ) → Agrees pieces pieces k
agrees_all pieces k = record { same = λ j le. refl }

-- behind the next component too
pub agrees_later : {pieces others : List Piece} {k : ℕ} → Agrees pieces others k → Agrees pieces others (suc k)
agrees_later a = record { same = λ j le. a.same j (omega arith) }

-- one after another
pub agrees_then : {pieces others further : List Piece} {k : ℕ} → Agrees pieces others k → Agrees others further k → Agrees pieces further k
agrees_then a b = record { same = λ j le. a.same j le ∙ b.same j le }

module _ (k : ℕ) (text : List ℕ) (pieces : List Piece) where
  -- a piece at its component
  pub text_here : texts_at k (record { component = k; text = text } ∷ pieces) ≡ text ∷ texts_at k pieces
  text_here = cond-true (k == k) (text ∷ texts_at k pieces) (texts_at k pieces) (eq-eqb k k refl)

  -- and at another one
  text_elsewhere : (j : ℕ) → (k == j) ≡ false → texts_at j (record { component = k; text = text } ∷ pieces) ≡ texts_at j pieces
  text_elsewhere j apart = cond-false (k == j) (text ∷ texts_at j pieces) (texts_at j pieces) apart

  -- behind its component a piece is not there
  pub agrees_behind : Agrees (record { component = k; text = text } ∷ pieces) pieces (suc k)
  agrees_behind = record { same = λ j le. text_elsewhere j (let apart : (k == j) ≡ false = grind (arith, nat_tests) in apart) }

module _ (g : List Class) (pool : List (List ℕ)) where
  -- the text of a node, with those below it
  abbrev pub node_text : ClassId → List ℕ → Forest → List ℕ
  node_text c tokens below =
      name_in (slice_get g c.0) ++ (codes "(" ++ (joined (arguments_text pool (pieces_of g pool below) 0 (components_of g c.0) tokens) ++ codes ")"))

  -- of a tree without those beside it this is all
  pub alone_text : (c : ClassId) (k : ℕ) (tokens : List ℕ) (below : Forest) → tree_text g pool (Tree c k tokens below Empty) ≡ node_text c tokens below
  alone_text c k tokens below = append-nil (node_text c tokens below)

  -- the pieces at a component are the texts of the trees there
  pub pieces_at : (k : ℕ) (trees : Forest) → texts_at k (pieces_of g pool trees) ≡ map (tree_text g pool) (trees_at k trees)
  pieces_at k Empty = refl
  pieces_at k (Tree c j tokens below beside) =
      let text = node_text c tokens below in
      elim (j == k) as (λ b. (if b then text ∷ texts_at k (pieces_of g pool beside) else texts_at k (pieces_of g pool beside))
      ≡ map (tree_text g pool) (if b then Tree c j tokens below Empty ∷ trees_at k beside else trees_at k beside)) [
        | true ↦ ap (λ ts. text ∷ ts) (pieces_at k beside) ∙ ap (λ t. t ∷ map (tree_text g pool) (trees_at k beside)) (sym (alone_text c j tokens below))
        | false ↦ pieces_at k beside
      ]

  -- before the first component nothing hangs
  pub nothing_before : {n : ℕ} {xs : List Component} {k : ℕ} {trees : Forest} {tokens : List ℕ} → Hangs g n xs k trees tokens → (j : ℕ) → j < k
      → texts_at j (pieces_of g pool trees) ≡ []
  nothing_before {trees = trees} hangs j lt = pieces_at j trees ∙ ap (map (tree_text g pool)) (none_before hangs j lt)
