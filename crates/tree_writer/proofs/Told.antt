-- Texts that write what has some meaning.
use Rattle.std.proofs.Common.{◌≡◌, ℕ, suc, List, [], ◌∷◌, ◌++◌, Bool, true, false, codes, if◌then◌else◌, Some, slice_get, sym, subst}
use Rattle.rag_io.specs.declared.token.Place.{Place}
use Rattle.rag_io.specs.Tokens.{moved}
use Rattle.ast_grammar.specs.declared.grammar.ClassId.{ClassId}
use Rattle.ast_grammar.specs.Grammar.{Class, components_of}
use Rattle.tree_arena.specs.Terms.{Forest, Tree}
use Rattle.tree_syntax.specs.Written.{Mode, Start, Argument, Behind, Written, Nothing, Node}
use Rattle.tree_reader.specs.Breaking.{node_misplaced}
use Rattle.tree_reader.specs.Wants.{Wants, next_of, wanted_by}
use Rattle.tree_writer.specs.Canonical.{arguments_text, further, joined, name_in, pieces_of}
use Rattle.tree_writer.proofs.Classes.{IsFound}
use Rattle.tree_writer.proofs.Meanings.{Means, MeansAll, means_node}
use Rattle.tree_writer.proofs.Pieces.{node_text}
use Rattle.tree_writer.proofs.ReadPieces.{Reads, reads_none, reads_over, reads_some, reads_comma, reads_node}

-- Some text at a place writes what passes.
pub record Told (pool : List (List ℕ)) (P : Written → Type 0) (m : Mode) (p : Place) (text : List ℕ) : Type 0 where
  pub written : Written
  pub holds : P written
  pub reads : Reads pool m p text written

-- the same text, told otherwise
pub told_as : {pool : List (List ℕ)} {P : Written → Type 0} {m : Mode} {p : Place} {text other : List ℕ} → text ≡ other → Told pool P m p other
    → Told pool P m p text
told_as {pool} {P} {m} {p} e t = subst (λ (bytes : List ℕ). Told pool P m p bytes) (sym e) t

-- the first arguments, or further ones
abbrev pub mode_of : Bool → Mode
mode_of true = Start
mode_of false = Behind

abbrev pub side : Bool → List (List ℕ) → List ℕ
side true texts = joined texts
side false texts = further texts

module _ (pool : List (List ℕ)) where
  -- none is left
  pub told_none : {P : Written → Type 0} → P Nothing → (first : Bool) (p : Place) → Told pool P (mode_of first) p (side first [])
  told_none holds true p = record { written = Nothing; holds = holds; reads = reads_none pool p }
  told_none holds false p = record { written = Nothing; holds = holds; reads = reads_over pool p }

  -- an argument with those behind it
  pub told_some : {P : Written → Type 0} (text : List ℕ) (texts : List (List ℕ)) → ((p : Place) → Told pool P Argument p (text ++ further texts))
      → (first : Bool) (p : Place)
      → Told pool P (mode_of first) p (side first (text ∷ texts))
  told_some text texts told true p = let t = told p in record { written = t.written; holds = t.holds; reads = reads_some pool t.reads }
  told_some text texts told false p =
      let t = told (moved (moved p (codes ",")) (codes " ")) in
      record { written = t.written; holds = t.holds; reads = reads_comma pool t.reads }

-- A node that is read, with what is written behind it.
pub record NodeRead (g : List Class) (pool : List (List ℕ)) (wants : Wants) (bracketed : Bool) (k : ℕ) (c : ClassId) (tokens : List ℕ) (below trees : Forest)
    (texts : List (List ℕ)) (behind : Place → Written) (p : Place) : Type 0 where
  pub arguments : Written
  pub place : Place
  pub reads : Reads pool Argument p (node_text g pool c tokens below ++ further texts) (Node (name_in (slice_get g c.0)) p arguments (behind place))
  pub means : Means g pool wants bracketed k (Node (name_in (slice_get g c.0)) p arguments (behind place)) (Tree c k tokens below trees)

module _ (g : List Class) (pool : List (List ℕ)) (c : ClassId) (tokens : List ℕ) (below : Forest) where
  -- the text of its arguments
  abbrev inner_text : List ℕ
  inner_text = joined (arguments_text pool (pieces_of g pool below) 0 (components_of g c.0) tokens)

  -- what is known of a node, wherever it stands
  pub record IsInner : Type 0 where
    pub found : IsFound g c
    pub told : (p : Place) → Told pool (λ w. MeansAll g pool (components_of g c.0) 0 w below tokens) Start p inner_text

  -- a node is read, with what stands behind it
  pub node_read : IsInner → (wants : Wants) (bracketed : Bool) (k : ℕ) (trees : Forest) (texts : List (List ℕ)) (behind : Place → Written)
      → ((p : Place) → node_misplaced g (wanted_by wants) (Some c.0) p ≡ [])
      → ((p : Place) → Reads pool Behind p (further texts) (behind p))
      → ((p : Place) → Means g pool (next_of wants) bracketed (if bracketed then k else suc k) (behind p) trees)
      → (p : Place) → NodeRead g pool wants bracketed k c tokens below trees texts behind p
  node_read inner wants bracketed k trees texts behind fits reads means p =
      let name : List ℕ = name_in (slice_get g c.0) in
      let a = inner.told (moved (moved p name) (codes "(")) in
      let q : Place = moved (moved (moved (moved p name) (codes "(")) inner_text) (codes ")") in
      record {
        arguments = a.written;
        place = q;
        reads = reads_node pool p texts (behind q) name inner_text inner.found.word a.reads (reads q);
        means = means_node g pool wants bracketed k c name p a.written (behind q) tokens below trees inner.found.named inner.found.concrete (fits p) a.holds
            (means q);
      }
