-- The text of a tree is read again to the same tree.
use Rattle.std.proofs.Common.{◌≡◌, ℕ, ◌≤◌, List, [], ◌∷◌, ◌++◌, Bool, true, false, not, All, Option, Some, None, length, slice_get, refl, sym, ap, subst, ◌∙◌, arith}
use Rattle.std.specs.Option.{option_map}
use Rattle.std.proofs.lemmas.List.{append-nil}
use Rattle.broken_rules.specs.declared.broken.Broken.{Broken}
use Rattle.broken_rules.specs.declared.rule.Rule.TheVariants.{N6, N7}
use Rattle.broken_rules.specs.Answers.{Answers, clean, passes}
use Rattle.broken_rules.specs.Notes.{at, broken_if}
use Rattle.rag_io.specs.declared.token.TokenKind.TheVariants.{End}
use Rattle.rag_io.specs.Lexemes.{white}
use Rattle.rag_io.specs.Pool.{ArePooled}
use Rattle.rag_io.specs.Tokens.{Lexed, IsTokens, at_end, blank, first_place, moved}
use Rattle.ast_grammar.specs.declared.grammar.ClassId.{ClassId}
use Rattle.ast_grammar.specs.Grammar.{Class, IsGrammar, abstract_in, components_of, is_sub}
use Rattle.tree_arena.proofs.AccessorsPreorder.{length_nodes}
use Rattle.tree_arena.specs.Nodes.{most_nodes}
use Rattle.tree_arena.specs.Terms.{Forest, Empty, Tree, Hangs, IsTerm, root, first_class, nodes_of}
use Rattle.tree_syntax.specs.Written.{Written, Writes, Nothing, Node}
use Rattle.token_texts.specs.Texts.{pooled_texts, texts_broken}
use Rattle.tree_reader.specs.Breaking.{arguments_broken, is_apart, root_broken, tree_broken}
use Rattle.tree_reader.specs.Grown.{tree_written}
use Rattle.tree_reader.specs.Wants.{Unknown}
use Rattle.rag_io.specs.Words.{IsWord}
use Rattle.tree_writer.specs.Again.{IsReadAgain, IsReadBack, IsWritable, as_whole}
use Rattle.tree_writer.specs.Canonical.{canonical, further, name_in}
use Rattle.tree_writer.specs.Showing.{IsSubtree, subtree}
use Rattle.tree_writer.proofs.Classes.{IsFound, Suits}
use Rattle.tree_writer.proofs.Meanings.{means_nothing}
use Rattle.tree_writer.proofs.ReadPieces.{reads_over}
use Rattle.tree_writer.proofs.Told.{IsInner, NodeRead, node_read}
use Rattle.tree_writer.proofs.Pieces.{node_text}
use Rattle.tree_writer.proofs.Trees.{hung, inner_of}

module _ (g : List Class) (pool : List (List ℕ)) (c : ClassId) (tokens : List ℕ) (below : Forest)
    (n : NodeRead g pool Unknown false 0 c tokens below Empty [] (λ q. Nothing) first_place) where
  -- the tree, what its text writes, and the text's tokens
  abbrev whole : Forest
  whole = Tree c 0 tokens below Empty

  abbrev whole_written : Written
  whole_written = Node (name_in (slice_get g c.0)) first_place n.arguments Nothing

  abbrev last_token : Lexed
  last_token = record { kind = End; text = []; place = moved (moved first_place (node_text g pool c tokens below ++ further [])) (10 ∷ []) }

  abbrev all_tokens : List Lexed
  all_tokens = n.reads.tokens (last_token ∷ [])

  -- they break nothing, but that the root may be of another class
  nothing_broken : length (nodes_of whole) ≤ most_nodes → tree_broken g pool all_tokens whole_written ≡ root_broken g whole_written
  nothing_broken few =
      let texts : texts_broken N7 pool all_tokens ≡ [] = n.reads.clean (last_token ∷ []) in
      let arguments : arguments_broken g Unknown 0 whole_written ≡ [] = n.means.clean 0 (omega (arith, length_nodes whole 0 0)) in
      (λ i. texts i ++ (root_broken g whole_written ++ arguments i)) ∙ append-nil (root_broken g whole_written)

  -- the tokens of the text, and what they are
  tokens_there : IsTokens first_place (canonical g pool whole) all_tokens
  tokens_there = n.reads.scanned.scan (10 ∷ []) (last_token ∷ []) refl (blank (10 ∷ []) [] refl (white 10 [] refl) (at_end refl))

  tokens_write : Writes all_tokens whole_written
  tokens_write = record { end = last_token; ends = refl; node = tt; spells = n.reads.spells (last_token ∷ []) }

  nodes_are : nodes_of whole ≡ nodes_of (tree_written g (pooled_texts pool all_tokens) whole_written)
  nodes_are = ap nodes_of (sym n.means.grown) ∙ ap (λ (texts : List (List ℕ)). nodes_of (tree_written g texts whole_written)) (sym (n.reads.pooled (last_token ∷ [])))

  -- the tree is read again, wherever it hangs
  subtree_again : (k : ℕ) → length (nodes_of whole) ≤ most_nodes → IsReadBack g pool (Tree c k tokens below Empty)
  subtree_again k few = record {
    tokens = all_tokens;
    scanned = tokens_there;
    written = whole_written;
    writes = tokens_write;
    clean = nothing_broken few;
    are = nodes_are;
    pooled = n.reads.pooled (last_token ∷ []);
  }

  -- a whole tree breaks nothing at all
  whole_again : IsFound g c → is_sub g c.0 0 ≡ true → length (nodes_of whole) ≤ most_nodes → IsReadAgain g pool whole
  whole_again found fits few =
      let at_root : root_broken g whole_written ≡ [] =
      ap (λ (class : Option ℕ). broken_if (is_apart g class first_class) (at first_place N6)) found.named
      ∙ ap (λ (t : Bool). broken_if (not t) (at first_place N6)) fits in
      record {
        tokens = all_tokens;
        scanned = tokens_there;
        said = record {
          written = whole_written;
          writes = tokens_write;
          clean = subst (λ (bs : List Broken). Answers (bs ∷ []) None) (sym (nothing_broken few ∙ at_root)) (passes clean);
          are = nodes_are;
        };
        pooled = n.reads.pooled (last_token ∷ []);
      }

module _ (g : List Class) (pool : List (List ℕ)) (grammar : IsGrammar g) (words : All (λ (c : Class). IsWord c.name) g) (pooled : ArePooled pool)
    (writable : All IsWritable pool) where
  suits : Suits g pool
  suits = record { distinct = grammar.distinct; words = words; pooled = pooled; writable = writable }

  -- the node at the root of a tree
  node_of : (c : ClassId) (tokens : List ℕ) (below : Forest) → option_map abstract_in (slice_get g c.0) ≡ Some false
      → Hangs g (length pool) (components_of g c.0) 0 below tokens → IsInner g pool c tokens below
  node_of c tokens below concrete inside = inner_of g pool suits c tokens below concrete (hung g pool suits inside)

  read_node : (c : ClassId) (tokens : List ℕ) (below : Forest) → IsInner g pool c tokens below
      → NodeRead g pool Unknown false 0 c tokens below Empty [] (λ q. Nothing) first_place
  read_node c tokens below inner =
      node_read g pool c tokens below inner Unknown false 0 Empty [] (λ q. Nothing) (λ q. refl) (reads_over pool) (λ q. means_nothing g pool Unknown false 1) first_place

  -- the canonical text of a tree
  pub read_again : (term : Forest) → IsTerm g (length pool) term → length (nodes_of term) ≤ most_nodes → IsReadAgain g pool term
  read_again _ (root {c} {tokens} {below} fits inside) few =
      let inner = node_of c tokens below fits.concrete inside in
      whole_again g pool c tokens below (read_node c tokens below inner) inner.found fits.below few

  -- the text of a subtree
  pub read_back : (tree : Forest) → IsSubtree g (length pool) tree → length (nodes_of (as_whole tree)) ≤ most_nodes → IsReadBack g pool tree
  read_back _ (subtree {c} {k} {tokens} {below} concrete inside) few = subtree_again g pool c tokens below (read_node c tokens below (node_of c tokens below concrete inside)) k few
