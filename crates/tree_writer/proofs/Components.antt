-- What stands at one component of a node, with the arguments behind it.
use Rattle.std.proofs.Common.{◌≡◌, ℕ, suc, List, [], ◌∷◌, ◌++◌, Bool, true, false, not, codes, slice_get, refl, ap, append-nil}
use Rattle.broken_rules.specs.declared.rule.Rule.TheVariants.{N4}
use Rattle.broken_rules.specs.Notes.{at, broken_if}
use Rattle.rag_io.specs.declared.token.Place.{Place}
use Rattle.rag_io.specs.Tokens.{moved}
use Rattle.ast_grammar.specs.declared.grammar.ClassId.{ClassId}
use Rattle.ast_grammar.specs.declared.grammar.Shape.{Shape}
use Rattle.ast_grammar.specs.declared.grammar.Shape.TheVariants as shapes
use Rattle.ast_grammar.specs.Grammar.{Class, Component, is_sub}
use Rattle.tree_arena.specs.Terms.{Forest, Empty, Tree, MayHaveNone, MayHaveOne}
use Rattle.tree_syntax.specs.Written.{Start, Argument, Behind, Written, Nothing, Node, Brackets, Valued, AreNodes}
use Rattle.tree_reader.specs.Grown.{beside_each}
use Rattle.tree_reader.specs.Wants.{Components, Elements, NoMore, Perhaps}
use Rattle.tree_writer.specs.Canonical.{argument_text, further, joined, name_in}
use Rattle.tree_writer.proofs.Leaves.{IsLeaf}
use Rattle.tree_writer.proofs.Meanings.{Means, MeansAll, means_brackets, means_nothing, means_value}
use Rattle.tree_writer.proofs.Pieces.{node_text}
use Rattle.tree_writer.proofs.ReadPieces.{reads_none, reads_over, reads_some, reads_brackets}
use Rattle.tree_writer.proofs.Told.{Told, told_as, told_none, IsInner, node_read}

-- Nodes alone, which are read as the elements of a list.
pub record AreElements (g : List Class) (pool : List (List ℕ)) (wanted : ClassId) (k : ℕ) (w : Written) (trees : Forest) : Type 0 where
  pub nodes : AreNodes w
  pub means : Means g pool (Elements wanted) true k w trees

-- no elements
pub no_elements : (g : List Class) (pool : List (List ℕ)) (wanted : ClassId) (k : ℕ) → AreElements g pool wanted k Nothing Empty
no_elements g pool wanted k = record { nodes = tt; means = means_nothing g pool (Elements wanted) true k }

module _ (g : List Class) (pool : List (List ℕ)) (name : List ℕ) (number : ℕ) (wanted : ClassId) (xs : List Component) (k : ℕ) where
  -- the component, by its shape
  abbrev pub of_shape : Shape → Component
  of_shape s = record { name = name; number = number; shape = s; class = wanted }

  -- an element of a list, with those behind it
  pub element_told : (c : ClassId) (tokens : List ℕ) (below trees : Forest) (texts : List (List ℕ)) → IsInner g pool c tokens below → is_sub g c.0 wanted.0 ≡ true
      → ((p : Place) → Told pool (λ w. AreElements g pool wanted k w trees) Behind p (further texts))
      → (p : Place) → Told pool (λ w. AreElements g pool wanted k w (Tree c k tokens below trees)) Argument p (node_text g pool c tokens below ++ further texts)
  element_told c tokens below trees texts inner fits rest p =
      let n = node_read g pool c tokens below inner (Elements wanted) true k trees texts (λ q. (rest q).written)
      (λ q. ap (λ (t : Bool). broken_if (not t) (at q N4)) fits)
      (λ q. (rest q).reads) (λ q. (rest q).holds.means) p in
      record {
        written = Node (name_in (slice_get g c.0)) p n.arguments (rest n.place).written;
        holds = record { nodes = (rest n.place).holds.nodes; means = n.means };
        reads = n.reads;
      }

  module _ (trees : Forest) (later : List ℕ) (texts : List (List ℕ))
      (rest : (p : Place) → Told pool (λ w. MeansAll g pool xs (suc k) w trees later) Behind p (further texts)) where
    -- the value of a token
    pub token_told : (s : Shape) (code : ℕ) (here : List (List ℕ)) → IsLeaf pool s code
        → (p : Place) → Told pool (λ w. MeansAll g pool (of_shape s ∷ xs) k w trees (code ∷ later)) Argument p (argument_text pool s code here ++ further texts)
    token_told s code here l p =
        let r = l.reads here p texts (λ q. (rest q).written) (λ q. (rest q).reads) in
        let t = rest r.0 in
        record {
          written = Valued l.leaf p t.written;
          holds = record {
            means = means_value g pool (Components (of_shape s ∷ xs)) k l.leaf p t.written trees (l.clean p) t.holds.means;
            counted = ap suc t.holds.counted;
            coded = λ i. l.coded i ∷ t.holds.coded i;
          };
          reads = r.1;
        }

    -- a list
    pub list_told : (inner : Forest) (here : List (List ℕ)) → ((p : Place) → Told pool (λ w. AreElements g pool wanted k w inner) Start p (joined here))
        → (p : Place) → Told pool (λ w. MeansAll g pool (of_shape shapes.List ∷ xs) k w (beside_each inner trees) (0 ∷ later)) Argument p
        (argument_text pool shapes.List 0 here ++ further texts)
    list_told inner here nodes p =
        let n = nodes (moved p (codes "[")) in
        let t = rest (moved (moved (moved p (codes "[")) (joined here)) (codes "]")) in
        record {
          written = Brackets p n.written t.written;
          holds = record {
            means = means_brackets g pool (Components (of_shape shapes.List ∷ xs)) k p n.written t.written inner trees refl n.holds.means t.holds.means;
            counted = ap suc t.holds.counted;
            coded = ap (λ (cs : List ℕ). 0 ∷ cs) t.holds.coded;
          };
          reads = reads_brackets pool p texts t.written (joined here) n.holds.nodes n.reads t.reads;
        }

    -- an optional without a node
    optional_none : (p : Place)
        → Told pool (λ w. MeansAll g pool (of_shape shapes.Optional ∷ xs) k w trees (0 ∷ later)) Argument p
        (argument_text pool shapes.Optional 0 [] ++ further texts)
    optional_none p =
        let t = rest (moved (moved (moved p (codes "[")) []) (codes "]")) in
        record {
          written = Brackets p Nothing t.written;
          holds = record {
            means = means_brackets g pool (Components (of_shape shapes.Optional ∷ xs)) k p Nothing t.written Empty trees refl
                (means_nothing g pool (Perhaps wanted) true k) t.holds.means;
            counted = ap suc t.holds.counted;
            coded = ap (λ (cs : List ℕ). 0 ∷ cs) t.holds.coded;
          };
          reads = reads_brackets pool p texts t.written [] tt (reads_none pool (moved p (codes "["))) t.reads;
        }

    -- nothing hangs here
    pub none_told : (s : Shape) → MayHaveNone s
        → (p : Place) → Told pool (λ w. MeansAll g pool (of_shape s ∷ xs) k w trees (0 ∷ later)) Argument p (argument_text pool s 0 [] ++ further texts)
    none_told shapes.Child may p = absurd may
    none_told shapes.List may p = list_told Empty [] (told_none pool (no_elements g pool wanted k) true) p
    none_told shapes.Optional may p = optional_none p
    none_told shapes.Text may p = absurd may
    none_told shapes.Int may p = absurd may
    none_told shapes.Truth may p = absurd may

    module _ (c : ClassId) (tokens : List ℕ) (below : Forest) (inner : IsInner g pool c tokens below) (fits : is_sub g c.0 wanted.0 ≡ true) where
      -- a child
      child_told : (p : Place) → Told pool (λ w. MeansAll g pool (of_shape shapes.Child ∷ xs) k w (Tree c k tokens below trees) (0 ∷ later)) Argument p
          (argument_text pool shapes.Child 0 (node_text g pool c tokens below ∷ []) ++ further texts)
      child_told p =
          let n = node_read g pool c tokens below inner (Components (of_shape shapes.Child ∷ xs)) false k trees texts (λ q. (rest q).written)
          (λ q. ap (λ (t : Bool). broken_if (not t) (at q N4)) fits) (λ q. (rest q).reads) (λ q. (rest q).holds.means) p in
          let t = rest n.place in
          told_as (ap (λ (bytes : List ℕ). bytes ++ further texts) (append-nil (node_text g pool c tokens below)))
          (record {
            written = Node (name_in (slice_get g c.0)) p n.arguments t.written;
            holds = record { means = n.means; counted = ap suc t.holds.counted; coded = ap (λ (cs : List ℕ). 0 ∷ cs) t.holds.coded };
            reads = n.reads;
          })

      -- an optional with a node
      optional_one : (p : Place) → Told pool (λ w. MeansAll g pool (of_shape shapes.Optional ∷ xs) k w (Tree c k tokens below trees) (0 ∷ later)) Argument p
          (argument_text pool shapes.Optional 0 (node_text g pool c tokens below ∷ []) ++ further texts)
      optional_one p =
          let here : List ℕ = node_text g pool c tokens below ++ further [] in
          let n = node_read g pool c tokens below inner (Perhaps wanted) true k Empty [] (λ q. Nothing)
          (λ q. ap (λ (t : Bool). broken_if (not t) (at q N4)) fits) (reads_over pool) (λ q. means_nothing g pool NoMore true k) (moved p (codes "[")) in
          let t = rest (moved (moved (moved p (codes "[")) here) (codes "]")) in
          let node : Written = Node (name_in (slice_get g c.0)) (moved p (codes "[")) n.arguments Nothing in
          record {
            written = Brackets p node t.written;
            holds = record {
              means = means_brackets g pool (Components (of_shape shapes.Optional ∷ xs)) k p node t.written
                  (Tree c k tokens below Empty) trees refl n.means t.holds.means;
              counted = ap suc t.holds.counted;
              coded = ap (λ (cs : List ℕ). 0 ∷ cs) t.holds.coded;
            };
            reads = reads_brackets pool p texts t.written here tt (reads_some pool n.reads) t.reads;
          }

      -- one tree hangs here
      pub one_told : (s : Shape) → MayHaveOne s → (p : Place)
          → Told pool (λ w. MeansAll g pool (of_shape s ∷ xs) k w (Tree c k tokens below trees) (0 ∷ later)) Argument p
          (argument_text pool s 0 (node_text g pool c tokens below ∷ []) ++ further texts)
      one_told shapes.Child may p = child_told p
      one_told shapes.List may p = absurd may
      one_told shapes.Optional may p = optional_one p
      one_told shapes.Text may p = absurd may
      one_told shapes.Int may p = absurd may
      one_told shapes.Truth may p = absurd may
