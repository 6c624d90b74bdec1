-- What the reader of a tree knows from its steps.
use Rattle.std.proofs.Common.{◌≡◌, ℕ, List, [], ◌∷◌, length, map, Option, Some, None, refl, ap, sym, subst, ◌∙◌}
use Rattle.std.proofs.lemmas.List.Elements.{All-weaker}
use Rattle.std.specs.Prelude.{Result, Ok, Err}
use Rattle.std.specs.Result.{IsErrAnd}
use Rattle.broken_rules.proofs.Answering.{one_phase}
use Rattle.broken_rules.proofs.Noting.{ends_of, notes_then}
use Rattle.broken_rules.proofs.Order.{none_is}
use Rattle.broken_rules.specs.Answers.{Answers, answer_of}
use Rattle.broken_rules.specs.Notes.{Notes}
use Rattle.broken_rules.specs.declared.broken.Broken.{Broken}
use Rattle.broken_rules.specs.declared.broken.ReadFault.{ReadFault}
use Rattle.broken_rules.specs.declared.broken.ReadFault.TheVariants as faults
use Rattle.broken_rules.specs.declared.rule.Rule.TheVariants.{N7}
use Rattle.rag_io.specs.Tokens.{Lexed}
use Rattle.ast_grammar.specs.Grammar.{Class, IsClass, IsGrammar}
use Rattle.tree_arena.specs.Nodes as arena
use Rattle.tree_arena.specs.Nodes.{most_nodes}
use Rattle.tree_arena.specs.Terms.{HasFew, IsTree, IsTreeOf, nodes_of}
use Rattle.tree_syntax.specs.Reading.{IsText}
use Rattle.tree_syntax.specs.Written.{Written, Writes}
use Rattle.token_texts.specs.Texts.{pooled_texts, text_code, texts_broken}
use Rattle.tree_reader.specs.Breaking.{root_broken, tree_broken}
use Rattle.tree_reader.specs.Grown.{tree_written}
use Rattle.tree_reader.specs.Laying.{IsLaid, seen_laid}
use Rattle.tree_reader.specs.Reading.{ReadsTree, SaysTree, checked}
use Rattle.tree_arena.specs.declared.tree.FirstNode.{FirstNode}
use Rattle.tree_reader.proofs.Said.{clean_tree}

-- All was noted that the tokens break, which write this, and the nodes of its tree were laid.
pub record IsRead (g : List Class) (pool : List (List ℕ)) (ts : List Lexed) (w : Written) (broken : Option Broken) (nodes : List FirstNode) : Type 0 where
  pub writes : Writes ts w
  pub noted : Notes (tree_broken g pool ts w) None broken
  pub nodes_are : map seen_laid nodes ≡ nodes_of (tree_written g (pooled_texts pool ts) w)

-- it was, after the steps of the reader
pub is_read : {g : List Class} {pool new : List (List ℕ)} {ts : List Lexed} {codes : List ℕ} {first texts root broken : Option Broken} {nodes : List FirstNode} (text : IsText ts) → first ≡ None
    → codes ≡ map (text_code new) ts → new ≡ pooled_texts pool ts → Notes (texts_broken N7 pool ts) first texts → ((w : Written) → Writes ts w → Notes (root_broken g w) texts root)
    → ((p : List (List ℕ)) (w : Written) → codes ≡ map (text_code p) ts → Writes ts w → IsLaid g p w root broken nodes) → IsRead g pool ts text.written broken nodes
is_read {g} {pool} {new} {ts} {codes} {first} {texts} {root} {broken} {nodes} text fresh coding pooling of_texts of_root laying =
    let laid = laying new text.written coding text.writes in
    let all : Notes (tree_broken g pool ts text.written) first broken = notes_then of_texts (notes_then (of_root text.written text.writes) laid.noted) in
    record {
      writes = text.writes;
      noted = subst (λ o. Notes (tree_broken g pool ts text.written) o broken) fresh all;
      nodes_are = laid.nodes_are ∙ ap (λ p. nodes_of (tree_written g p text.written)) pooling;
    }

module _ {g : List Class} {pool : List (List ℕ)} {ts : List Lexed} {w : Written} {broken : Option Broken} {nodes : List FirstNode} (read : IsRead g pool ts w broken nodes) where
  -- what was noted is the answer
  answered : (o : Option Broken) → broken ≡ o → Answers (tree_broken g pool ts w ∷ []) o
  answered o is = one_phase (tree_broken g pool ts w) refl read.noted (sym is)

  -- the first broken rule
  refused : (o : Option Broken) → broken ≡ o → (e : ReadFault) → answer_of o ≡ Err e → ReadsTree g pool ts (Err e)
  refused None is e fails = absurd (cc)
  refused (Some b) is e fails =
      let same : e ≡ faults.Broken b = cc in
      subst (λ (x : ReadFault). ReadsTree g pool ts (Err x)) (sym same) (checked read.writes (answered (Some b) is))

  -- it is what the reader answers
  pub read_refused : (r : Result (List arena.Node) ReadFault) (e : ReadFault) → Err e ≡ answer_of broken → IsErrAnd r (λ x. x ≡ e) → ReadsTree g pool ts r
  read_refused (Ok nodes) e is passes = absurd passes
  read_refused (Err x) e is passes = subst (λ (y : ReadFault). ReadsTree g pool ts (Err y)) (sym passes) (refused broken refl e (sym is))

  -- where the answer is none, nothing was noted
  none_noted : (o : Option Broken) (passed : Unit {0}) → Ok passed ≡ answer_of o → o ≡ None
  none_noted None passed is = refl
  none_noted (Some b) passed is = absurd (cc)

  pub read_clean : (passed : Unit {0}) → Ok passed ≡ answer_of broken → broken ≡ None
  read_clean passed is = none_noted broken passed is

  module _ (unbroken : broken ≡ None) where
    clean : tree_broken g pool ts w ≡ []
    clean = none_is (tree_broken g pool ts w) (ends_of refl read.noted (sym unbroken))

    -- the nodes are those of a tree
    pub read_tree_of : IsTreeOf g (length (pooled_texts pool ts)) (map seen_laid nodes)
    read_tree_of = subst (IsTreeOf g (length (pooled_texts pool ts))) (sym read.nodes_are) (clean_tree g pool ts w read.writes clean)

    pub read_is_tree : IsGrammar g → (kept : List arena.Node) → kept ≡ map seen_laid nodes → IsTree kept
    read_is_tree allowed kept same = record {
      grammar = g;
      texts = length (pooled_texts pool ts);
      tree = subst (IsTreeOf g (length (pooled_texts pool ts))) (sym same) read_tree_of;
      short = All-weaker (IsClass (length g)) HasFew (λ c class. class.short) g allowed.classes;
    }

    -- they are what the tokens say
    pub read_says : (kept tree : List arena.Node) → kept ≡ map seen_laid nodes → tree ≡ kept → SaysTree g pool ts tree
    read_says kept tree same is = record { written = w; writes = read.writes; clean = answered None unbroken; are = is ∙ same ∙ read.nodes_are }
