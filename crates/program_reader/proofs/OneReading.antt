-- What the bytes of files say is one thing.
use Rattle.std.proofs.Common.{◌≡◌, Bool, ℕ, List, true, false, Some, None, sym, ap, subst, ◌∙◌}
use Rattle.broken_rules.specs.Answers.{Answers}
use Rattle.broken_rules.specs.declared.broken.Broken.{Broken}
use Rattle.broken_rules.proofs.Answering.{one_answer}
use Rattle.ast_grammar.specs.Grammar.{Class}
use Rattle.ast_grammar.specs.FromBytes.{ReadsGrammar}
use Rattle.ast_grammar.proofs.OneFile.{same_grammar}
use Rattle.attr_rules.specs.Queries.{Query}
use Rattle.attr_rules.specs.Rules.{RuleSet}
use Rattle.attr_types.specs.Phases.{rules_of}
use Rattle.built_forms.specs.Built.{all_built}
use Rattle.aspect_items.specs.Items.{Item as AspectItem}
use Rattle.jrag_reader.specs.FromBytes.{ReadsAspects}
use Rattle.jrag_reader.proofs.OneFile.{same_aspects, same_pooled}
use Rattle.tree_arena.specs.Nodes.{Node}
use Rattle.tree_reader.specs.FromBytes.{BreaksTree, ReadsTree}
use Rattle.tree_reader.proofs.OneFile.{same_texts, same_tree}
use Rattle.equation_law.specs.Program.{Program}
use Rattle.program_reader.specs.Files.{AreAccepted, AreRefused, BreakFirst, SaysProgram, no_texts}
use Rattle.run_io.specs.Files.{Contents}
use Rattle.program_reader.specs.Queries.{SaysQueries}
use Rattle.program_reader.proofs.SayingQueries.{one_queries}

-- the readings of a tree file under the same grammar and over the same texts
module _ {bytes : List ℕ} {g h : List Class} {p q : List (List ℕ)} (classes : g ≡ h) (texts : p ≡ q) where
  pub tree_there : {t : List Node} {x : List (List ℕ)} → ReadsTree h q bytes t x → ReadsTree g p bytes t x
  tree_there {t} {x} r =
      subst (λ (c : List Class). ReadsTree c p bytes t x) (sym classes) (subst (λ (before : List (List ℕ)). ReadsTree h before bytes t x) (sym texts) r)

  pub breaks_there : {b : Broken} → BreaksTree h q bytes b → BreaksTree g p bytes b
  breaks_there {b} r =
      subst (λ (c : List Class). BreaksTree c p bytes b) (sym classes) (subst (λ (before : List (List ℕ)). BreaksTree h before bytes b) (sym texts) r)

  pub both_trees : {s t : List Node} {x y : List (List ℕ)} → ReadsTree g p bytes s x → ReadsTree h q bytes t y → s ≡ t
  both_trees r s = same_tree r (tree_there s)

  pub both_texts : {s t : List Node} {x y : List (List ℕ)} → ReadsTree g p bytes s x → ReadsTree h q bytes t y → x ≡ y
  both_texts r s = same_texts r (tree_there s)

-- phases that answer with a breach first answer with no other, and not with none
pub one_first : {phases : List (List Broken)} {b c : Broken} → Answers phases (Some b) → Answers phases (Some c) → b ≡ c
one_first {phases} {b} {c} r s = let both : Some b ≡ Some c = one_answer r s in cc

pub clean_or_broken : {phases : List (List Broken)} {b : Broken} → Answers phases None → Answers phases (Some b) → ⊥
clean_or_broken {phases} {b} r s = let both : None ≡ Some b = one_answer r s in absurd cc

-- some aspects break one rule first over a grammar, or none, or have a form that isn't evaluated so far
module _ {g : List Class} {aspects : List AspectItem} where
  pub one_refusal : {b c : Broken} → AreRefused g aspects b → AreRefused g aspects c → b ≡ c
  one_refusal r s = one_first r.breaks s.breaks

  pub accepted_or_refused : {b : Broken} → AreAccepted g aspects → AreRefused g aspects b → ⊥
  accepted_or_refused r s = clean_or_broken r.clean s.breaks

pub built_or_not : {is_built : Bool} → is_built ≡ true → is_built ≡ false → ⊥
built_or_not a b = let both : true ≡ false = sym a ∙ b in absurd cc

-- the readings of one file after the other, under one grammar, over the aspects and the texts that are read before
module _ {ast jrag : List ℕ} {g h : List Class} {written other : List AspectItem} {between behind : List (List ℕ)}
    (a : ReadsGrammar ast g) (b : ReadsGrammar ast h)
    (i : ReadsAspects no_texts jrag written between) (j : ReadsAspects no_texts jrag other behind) where
  pub accepted_there : AreAccepted h other → AreAccepted g written
  accepted_there s = subst (λ (c : List Class). AreAccepted c written) (sym (same_grammar a b)) (subst (λ (w : List AspectItem). AreAccepted h w) (sym (same_aspects i j)) s)

  pub refused_there : {x : Broken} → AreRefused h other x → AreRefused g written x
  refused_there {x} s =
      subst (λ (c : List Class). AreRefused c written x) (sym (same_grammar a b)) (subst (λ (w : List AspectItem). AreRefused h w x) (sym (same_aspects i j)) s)

  pub unbuilt_there : all_built other ≡ false → all_built written ≡ false
  unbuilt_there e = ap all_built (same_aspects i j) ∙ e

  -- the same of `check`
  pub first_there : {x : Broken} → BreakFirst h other x → BreakFirst g written x
  first_there {x} s =
      subst (λ (c : List Class). BreakFirst c written x) (sym (same_grammar a b)) (subst (λ (w : List AspectItem). BreakFirst h w x) (sym (same_aspects i j)) s)

  pub both_rules : rules_of g written ≡ rules_of h other
  both_rules = ap (λ (c : List Class). rules_of c written) (same_grammar a b) ∙ ap (rules_of h) (same_aspects i j)

  module _ {source : List ℕ} where
    pub broken_there : {x : Broken} → BreaksTree h behind source x → BreaksTree g between source x
    broken_there r = breaks_there (same_grammar a b) (same_pooled i j) r

    pub nodes_there : {s t : List Node} {x y : List (List ℕ)} → ReadsTree g between source s x → ReadsTree h behind source t y → s ≡ t
    nodes_there r s = both_trees (same_grammar a b) (same_pooled i j) r s

-- queries under the same grammar, the same rules and the same tree
pub queries_there : {bytes : List ℕ} {g h : List Class} {r q : RuleSet} {s t : List Node} {es : List Query} → g ≡ h → r ≡ q → s ≡ t → SaysQueries h q t bytes es → SaysQueries g r s bytes es
queries_there {bytes} {g} {h} {r} {q} {s} {t} {es} d e f says =
    subst (λ (x : List Class). SaysQueries x r s bytes es) (sym d) (subst (λ (x : RuleSet). SaysQueries h x s bytes es) (sym e) (subst (λ (x : List Node). SaysQueries h q x bytes es) (sym f) says))

-- a program by its parts
program : List Class → RuleSet → List Node → List (List ℕ) → List Query → Program
program g r t x q = record { grammar = g; rules = r; tree = t; texts = x; queries = q }

same_parts : {g h : List Class} {r q : RuleSet} {s t : List Node} {x y : List (List ℕ)} {es fs : List Query} → g ≡ h → r ≡ q → s ≡ t → x ≡ y → es ≡ fs → program g r s x es ≡ program h q t y fs
same_parts a b c d e = cc

pub same_program : (held : Contents) (p q : Program) → SaysProgram held p → SaysProgram held q → p ≡ q
unfolding program
same_program held p q a b =
    let grammar : p.grammar ≡ q.grammar = same_grammar a.grammar b.grammar in
    let rules : p.rules ≡ q.rules = a.rules ∙ both_rules a.grammar b.grammar a.aspects b.aspects ∙ sym b.rules in
    let between : a.between ≡ b.between = same_pooled a.aspects b.aspects in
    let tree : p.tree ≡ q.tree = both_trees grammar between a.tree b.tree in
    let texts : p.texts ≡ q.texts = both_texts grammar between a.tree b.tree in
    let queries : p.queries ≡ q.queries = one_queries p.grammar p.rules p.tree a.queries (queries_there grammar rules tree b.queries) in
    same_parts grammar rules tree texts queries
