-- Which file is refused.
use Rattle.std.proofs.Common.{◌≡◌, ℕ, ◌≤◌, List, length, Result, Ok, Err, refl, sym, subst, arith}
use Rattle.std.proofs.Common.{Vec, IfOk}
use Rattle.std.proofs.lemmas.Result.{IfOk-at_ok}
use Rattle.std.specs.Result.{IsErr, IsErrAnd}
use Rattle.std.specs.declared.alloc.Global.{Global}
use Rattle.rag_io.specs.declared.Memory.{Memory as OutOfMemory}
use Rattle.broken_rules.specs.declared.broken.Broken.{Broken}
use Rattle.broken_rules.specs.declared.broken.ReadFault.{ReadFault}
use Rattle.broken_rules.specs.declared.broken.ReadFault.TheVariants as faults
use Rattle.ast_grammar.specs.Grammar.{Class}
use Rattle.ast_grammar.specs.FromBytes.{AnswersGrammar, ReadsGrammar}
use Rattle.attr_rules.specs.Queries.{Query}
use Rattle.attr_equations.specs.declared.rules.Rules.{Rules}
use Rattle.attr_rules.specs.Rules.{RuleSet}
use Rattle.attr_types.specs.Phases.{rules_of}
use Rattle.aspect_items.specs.declared.aspects.Aspects.{Aspects}
use Rattle.jrag_reader.specs.FromBytes.{AnswersAspects, ReadsAspects}
use Rattle.aspect_items.specs.Items.{Item as AspectItem}
use Rattle.tree_arena.specs.Nodes.{Node}
use Rattle.tree_arena.specs.Terms.{Forest, IsTerm, IsTreeOf, nodes_of}
use Rattle.tree_writer.specs.Canonical.{canonical}
use Rattle.equation_law.specs.Program.{most_replies}
use Rattle.program_reader.specs.declared.files.Refusal.{Refusal}
use Rattle.program_reader.specs.declared.files.Refusal.TheVariants as refusals
use Rattle.program_reader.specs.declared.files.Unread.{Unread}
use Rattle.program_reader.specs.declared.files.Unread.TheVariants.{Broken as Unaccepted, NotBuilt, Memory}
use Rattle.run_io.specs.declared.words.FileKind.TheVariants as files
use Rattle.program_reader.specs.Built.{AnswersChecked, AnswersRules, BreaksFile, IsCheckRefusal, IsRefusal, IsTreeRefusal, Refuses}
use Rattle.tree_reader.specs.FromBytes.{AnswersTree, ReadsTree}
use Rattle.program_reader.specs.Files as held
use Rattle.run_io.specs.Files.{PairContents, Contents, File}
use Rattle.run_io.specs.Files as held_files
use Rattle.program_reader.specs.Files.{SaysText, forms, no_texts, no_queries}
use Rattle.program_reader.specs.Steps.{AnswersAspectRules, BreaksRules, RefusesTreeOrQueries, SaysRules, alone, checked}
use Rattle.program_reader.specs.Unread.{unread_for}
use Rattle.program_reader.specs.Queries.{SaysLines, over, silent, query, SaysQueries}

-- the same answer over the same texts and the same bytes
module _ {before now : List (List ℕ)} {bytes file : List ℕ} (texts : List (List ℕ)) (pool : before ≡ now) (read : bytes ≡ file) where
  pub written_there : (r : Result Aspects ReadFault) → AnswersAspects before bytes texts r → AnswersAspects now file texts r
  written_there r answer =
      subst (λ (b : List ℕ). AnswersAspects now b texts r) read (subst (λ (p : List (List ℕ)). AnswersAspects p bytes texts r) pool answer)

  pub source_there : (g : List Class) (r : Result (List Node) ReadFault) → AnswersTree g before bytes texts r → AnswersTree g now file texts r
  source_there g r answer =
      subst (λ (b : List ℕ). AnswersTree g now b texts r) read (subst (λ (p : List (List ℕ)). AnswersTree g p bytes texts r) pool answer)

-- a grammar that is refused
module _ (contents : Contents) (fault : ReadFault) (refusal : Refusal) where
  pub grammar_refused : AnswersGrammar contents.ast (Err fault) → BreaksFile files.Ast fault refusal → IsRefusal contents refusal
  grammar_refused answer is = elim fault as (λ f. AnswersGrammar contents.ast (Err f) → BreaksFile files.Ast f refusal → IsRefusal contents refusal) [
    | faults.Broken b ↦ λ a e. subst (IsRefusal contents) (sym e) (held.IsBroken.grammar a)
    | faults.Memory ↦ λ a e. subst (IsRefusal contents) (sym e) tt
  ] answer is

module _ (contents : PairContents) (fault : ReadFault) (refusal : Refusal) where
  pub lone_grammar_refused : AnswersGrammar contents.ast (Err fault) → BreaksFile files.Ast fault refusal → IsTreeRefusal contents refusal
  lone_grammar_refused answer is = elim fault as (λ f. AnswersGrammar contents.ast (Err f) → BreaksFile files.Ast f refusal → IsTreeRefusal contents refusal) [
    | faults.Broken b ↦ λ a e. subst (IsTreeRefusal contents) (sym e) (held.IsTreeBroken.grammar a)
    | faults.Memory ↦ λ a e. subst (IsTreeRefusal contents) (sym e) tt
  ] answer is

  pub lone_tree_refused : {g : List Class} (texts : List (List ℕ)) → ReadsGrammar contents.ast g → AnswersTree g no_texts contents.other texts (Err fault)
      → BreaksFile files.Tree fault refusal → IsTreeRefusal contents refusal
  lone_tree_refused {g} texts grammar answer is =
      elim fault as (λ f. AnswersTree g no_texts contents.other texts (Err f) → BreaksFile files.Tree f refusal → IsTreeRefusal contents refusal) [
        | faults.Broken b ↦ λ a e. subst (IsTreeRefusal contents) (sym e) (held.IsTreeBroken.tree grammar a)
        | faults.Memory ↦ λ a e. subst (IsTreeRefusal contents) (sym e) tt
      ] answer is

-- the text of the tree that is read
pub says_text : (contents : PairContents) {g : List Class} {nodes : List Node} {texts : List (List ℕ)} (text : List ℕ) → ReadsGrammar contents.ast g
    → ReadsTree g no_texts contents.other nodes texts → IsTreeOf g (length texts) nodes
    → ((term : Forest) → IsTerm g (length texts) term → nodes ≡ nodes_of term → text ≡ canonical g texts term) → SaysText contents text
says_text contents {g} {nodes} {texts} text grammar tree is wrote =
    record { classes = g; grammar = grammar; nodes = nodes; texts = texts; tree = tree; term = is.term; grown = is.grown; are = is.are; written = wrote is.term is.grown is.are }

-- the same of a text that is written, or not for want of memory
pub text_said : (contents : PairContents) {g : List Class} {nodes : List Node} {texts : List (List ℕ)} (r : Result (Vec ℕ Global) Refusal) (t : Result (Vec ℕ Global) OutOfMemory)
    → ReadsGrammar contents.ast g → ReadsTree g no_texts contents.other nodes texts → IsTreeOf g (length texts) nodes
    → IfOk t (λ text. (term : Forest) → IsTerm g (length texts) term → nodes ≡ nodes_of term → text.items ≡ canonical g texts term) → IfOk r (λ text. t ≡ Ok text)
    → IfOk r (λ text. SaysText contents text.items)
text_said contents (Ok text) t grammar tree is wrote given = says_text contents text.items grammar tree is (IfOk-at_ok _ given wrote)
text_said contents (Err refusal) t grammar tree is wrote given = tt

-- the answer on aspects that can't be read, and on those that are
module _ (g : List Class) (before : List (List ℕ)) (bytes : List ℕ) (texts : List (List ℕ)) where
  pub aspects_unread : (fault : ReadFault) (r : Result Rules Unread) → IsErr r × IsErrAnd r (λ u. u ≡ unread_for fault) → AnswersAspects before bytes texts (Err fault)
      → AnswersAspectRules g before bytes texts r
  aspects_unread fault (Ok x) h answer = let missing = h.0 in cc
  aspects_unread (faults.Broken b) (Err u) h answer = subst (λ (x : Unread). AnswersAspectRules g before bytes texts (Err x)) (sym h.1) (alone answer)
  aspects_unread faults.Memory (Err u) h answer = subst (λ (x : Unread). AnswersAspectRules g before bytes texts (Err x)) (sym h.1) tt

  pub aspects_tested : {written : List AspectItem} (r : Result Rules Unread) → ReadsAspects before bytes written texts → AnswersRules g written r → AnswersAspectRules g before bytes texts r
  aspects_tested {written} (Ok rules) reads makes = record { written = written; aspects = reads; makes = makes }
  aspects_tested (Err (Unaccepted b)) reads refused = checked reads refused
  aspects_tested {written} (Err NotBuilt) reads e = record { written = written; texts = texts; aspects = reads; forms = e }
  aspects_tested (Err Memory) reads answer = tt

-- the same over the same texts and the same bytes
pub aspects_there : (g : List Class) {before now : List (List ℕ)} {bytes file : List ℕ} (texts : List (List ℕ)) → before ≡ now → bytes ≡ file → (r : Result Rules Unread)
    → AnswersAspectRules g before bytes texts r → AnswersAspectRules g now file texts r
aspects_there g {now = now} {bytes} texts pool read r answer =
    subst (λ (b : List ℕ). AnswersAspectRules g now b texts r) read (subst (λ (p : List (List ℕ)). AnswersAspectRules g p bytes texts r) pool answer)

-- the rule that aspects break, alone or over the grammar
rules_broken : (contents : Contents) {g : List Class} {b : Broken} → ReadsGrammar contents.ast g → BreaksRules g no_texts contents.jrag b → held.IsBroken contents held_files.Jrag b
rules_broken contents grammar (alone h) = held.IsBroken.aspects grammar h
rules_broken contents grammar (checked reads refused) = held.IsBroken.checked grammar reads refused

-- aspects that break a rule, or aren't in the form that is evaluated so far
pub aspects_refused : (contents : Contents) (unread : Unread) (refusal : Refusal) {g : List Class} (texts : List (List ℕ)) → ReadsGrammar contents.ast g
    → AnswersAspectRules g no_texts contents.jrag texts (Err unread) → Refuses files.Jrag unread refusal → IsRefusal contents refusal
aspects_refused contents unread refusal {g} texts grammar answer is =
    elim unread as (λ u. AnswersAspectRules g no_texts contents.jrag texts (Err u) → Refuses files.Jrag u refusal → IsRefusal contents refusal) [
      | Unaccepted b ↦ λ a e. subst (IsRefusal contents) (sym e) (rules_broken contents grammar a)
      | NotBuilt ↦ λ a e. subst (IsRefusal contents) (sym e) (forms grammar a.aspects a.forms)
      | Memory ↦ λ a e. subst (IsRefusal contents) (sym e) tt
    ] answer is

-- a tree or queries that are refused behind aspects that make rules
module _ (contents : Contents) {g : List Class} {rules : RuleSet} {between : List (List ℕ)} where
  pub tree_or_queries_refused : (refusal : Refusal) → ReadsGrammar contents.ast g → SaysRules g no_texts contents.jrag between rules
      → RefusesTreeOrQueries g rules between contents refusal → IsRefusal contents refusal
  tree_or_queries_refused (refusals.Broken file b) grammar aspects a =
      subst (λ (f : File). held.IsBroken contents f b) (sym a.of) (held.IsBroken.tree grammar aspects.aspects aspects.makes.accepted a.breaks)
  tree_or_queries_refused (refusals.NotBuilt file) grammar aspects a =
      let none = λ (qs : List Query) (s : SaysQueries g (rules_of g aspects.written) a.tree contents.queries qs).
      a.none qs (subst (λ (r : RuleSet). SaysQueries g r a.tree contents.queries qs) (sym aspects.makes.are) s) in
      subst (λ (f : File). held.IsNotBuilt contents f) (sym a.of) (no_queries grammar aspects.aspects aspects.makes.accepted a.nodes none)
  tree_or_queries_refused refusals.Memory grammar aspects a = tt

-- the tree alone, and the queries alone
module _ (contents : Contents) (g : List Class) (rules : RuleSet) (before : List (List ℕ)) where
  pub tree_refused : (fault : ReadFault) (refusal : Refusal) (texts : List (List ℕ)) → AnswersTree g before contents.tree texts (Err fault)
      → BreaksFile files.Tree fault refusal → RefusesTreeOrQueries g rules before contents refusal
  tree_refused fault refusal texts answer is =
      elim fault as (λ f. AnswersTree g before contents.tree texts (Err f) → BreaksFile files.Tree f refusal → RefusesTreeOrQueries g rules before contents refusal) [
        | faults.Broken b ↦ λ a e. subst (RefusesTreeOrQueries g rules before contents) (sym e) (record { of = refl; breaks = a })
        | faults.Memory ↦ λ a e. subst (RefusesTreeOrQueries g rules before contents) (sym e) tt
      ] answer is

  pub queries_refused : {tree : List Node} {texts : List (List ℕ)} → ReadsTree g before contents.tree tree texts
      → ((qs : List Query) → SaysQueries g rules tree contents.queries qs → ⊥) → RefusesTreeOrQueries g rules before contents (refusals.NotBuilt files.Queries)
  queries_refused {tree} {texts} source none = record { of = refl; tree = tree; texts = texts; nodes = source; none = none }

-- the same under `check`
module _ (contents : PairContents) (refusal : Refusal) where
  pub check_grammar_refused : (fault : ReadFault) → AnswersGrammar contents.ast (Err fault) → BreaksFile files.Ast fault refusal → IsCheckRefusal contents refusal
  check_grammar_refused fault answer is = elim fault as (λ f. AnswersGrammar contents.ast (Err f) → BreaksFile files.Ast f refusal → IsCheckRefusal contents refusal) [
    | faults.Broken b ↦ λ a e. subst (IsCheckRefusal contents) (sym e) (held.IsCheckBroken.grammar a)
    | faults.Memory ↦ λ a e. subst (IsCheckRefusal contents) (sym e) tt
  ] answer is

  pub check_aspects_refused : (fault : ReadFault) {g : List Class} (texts : List (List ℕ)) → ReadsGrammar contents.ast g → AnswersAspects no_texts contents.other texts (Err fault)
      → BreaksFile files.Jrag fault refusal → IsCheckRefusal contents refusal
  check_aspects_refused fault texts grammar answer is =
      elim fault as (λ f. AnswersAspects no_texts contents.other texts (Err f) → BreaksFile files.Jrag f refusal → IsCheckRefusal contents refusal) [
        | faults.Broken b ↦ λ a e. subst (IsCheckRefusal contents) (sym e) (held.IsCheckBroken.aspects grammar a)
        | faults.Memory ↦ λ a e. subst (IsCheckRefusal contents) (sym e) tt
      ] answer is

  pub check_rules_refused : (fault : ReadFault) {g : List Class} {written : List AspectItem} {between : List (List ℕ)} → ReadsGrammar contents.ast g
      → ReadsAspects no_texts contents.other written between → AnswersChecked g written (Err fault) → BreaksFile files.Jrag fault refusal → IsCheckRefusal contents refusal
  check_rules_refused fault {g} {written} grammar aspects answer is = elim fault as (λ f. AnswersChecked g written (Err f) → BreaksFile files.Jrag f refusal → IsCheckRefusal contents refusal) [
    | faults.Broken b ↦ λ a e. subst (IsCheckRefusal contents) (sym e) (held.IsCheckBroken.checked grammar aspects a)
    | faults.Memory ↦ λ a e. subst (IsCheckRefusal contents) (sym e) tt
  ] answer is

-- no more queries than lines
lines_most : {g : List Class} {rules : RuleSet} {tree : List Node} {lines : List (List ℕ)} {es : List Query} → SaysLines g rules tree lines es → length es ≤ length lines
lines_most over = omega arith
lines_most (silent e more) = let m = lines_most more in omega arith
lines_most (query s scanned says more) = let m = lines_most more in omega arith

pub few_queries : {g : List Class} {rules : RuleSet} {tree : List Node} {bytes : List ℕ} {es : List Query} → SaysQueries g rules tree bytes es → length es ≤ most_replies
few_queries s = let m = lines_most s.said in let f = s.few in omega arith
