-- What the files of a command say together.
use Rattle.std.specs.Prelude.{◌≡◌, ℕ, List, [], ◌∷◌, ◌++◌, Bool, true, false, Some, None, codes, length}
use Rattle.std.specs.Fmt.{decimal}
use Rattle.std.specs.List.{count_by}
use Rattle.broken_rules.specs.declared.broken.Broken.{Broken}
use Rattle.broken_rules.specs.Answers.{Answers}
use Rattle.ast_grammar.specs.Grammar.{Class}
use Rattle.ast_grammar.specs.FromBytes.{BreaksGrammar, ReadsGrammar}
use Rattle.attr_rules.specs.Queries.{Query}
use Rattle.attr_rules.specs.Rules.{RuleSet}
use Rattle.attr_types.specs.Phases.{phases_of, rules_of}
use Rattle.built_forms.specs.Built.{all_built}
use Rattle.aspect_items.specs.Items.{Item as AspectItem, Declared, Inherits, Equates, Collects, Contributes}
use Rattle.jrag_reader.specs.FromBytes.{BreaksAspects, ReadsAspects}
use Rattle.monotone_check.specs.Equations.{equations_broken}
use Rattle.tree_arena.specs.Nodes.{Node}
use Rattle.tree_arena.specs.Terms.{Forest, IsTerm, nodes_of}
use Rattle.tree_reader.specs.FromBytes.{BreaksTree, ReadsTree}
use Rattle.tree_writer.specs.Canonical.{canonical}
use Rattle.equation_law.specs.Program.{Program}
use Rattle.run_io.specs.Files.{Contents, PairContents, File, Ast, Jrag, Tree, Queries}
use Rattle.program_reader.specs.declared.files.Counts.{Counts}
use Rattle.program_reader.specs.Queries.{SaysQueries}

-- the texts before the first file is read: the empty one alone
abbrev pub no_texts : List (List ℕ)
no_texts = [] ∷ []

-- What some aspects break over a grammar, in the phases in which it is tested: the rules on rising equations last.
abbrev pub tested : List Class → List AspectItem → List (List Broken)
tested g aspects = phases_of g aspects ++ equations_broken (rules_of g aspects) ∷ []

-- They break no rule over it.
abbrev pub AreClean : List Class → List AspectItem → Type 0
AreClean g aspects = Answers (tested g aspects) None

-- This is the first rule that they break.
abbrev pub BreakFirst : List Class → List AspectItem → Broken → Type 0
BreakFirst g aspects b = Answers (tested g aspects) (Some b)

-- All items of some aspects are evaluated so far, and they break no rule over a grammar.
pub record AreAccepted (g : List Class) (aspects : List AspectItem) : Type 0 where
  pub built : all_built aspects ≡ true
  pub clean : AreClean g aspects

-- They are evaluated so far, and this is the first rule that they break.
pub record AreRefused (g : List Class) (aspects : List AspectItem) (b : Broken) : Type 0 where
  pub built : all_built aspects ≡ true
  pub breaks : BreakFirst g aspects b

-- The four files say this program. The texts of the aspects are pooled first, and those of the tree then.
pub record SaysProgram (held : Contents) (p : Program) : Type 0 where
  pub written : List AspectItem
  pub between : List (List ℕ)
  pub grammar : ReadsGrammar held.ast p.grammar
  pub aspects : ReadsAspects no_texts held.jrag written between
  pub accepted : AreAccepted p.grammar written
  pub rules : p.rules ≡ rules_of p.grammar written
  pub tree : ReadsTree p.grammar between held.tree p.tree p.texts
  pub queries : SaysQueries p.grammar p.rules p.tree held.queries p.queries

-- Of the four files this one is the first, in the order of the command, that breaks a rule, and this is the first rule that it breaks.
-- Those before it break none, and are in the form that is evaluated so far.
pub data IsBroken (held : Contents) : File → Broken → Type 0 where
  grammar : {b : Broken} → BreaksGrammar held.ast b → IsBroken held Ast b
  aspects : {g : List Class} {b : Broken} → ReadsGrammar held.ast g → BreaksAspects no_texts held.jrag b → IsBroken held Jrag b
  checked : {g : List Class} {written : List AspectItem} {between : List (List ℕ)} {b : Broken} → ReadsGrammar held.ast g
      → ReadsAspects no_texts held.jrag written between → AreRefused g written b → IsBroken held Jrag b
  tree : {g : List Class} {written : List AspectItem} {between : List (List ℕ)} {b : Broken} → ReadsGrammar held.ast g
      → ReadsAspects no_texts held.jrag written between → AreAccepted g written → BreaksTree g between held.tree b → IsBroken held Tree b

-- It and those before it break no rule by themselves, and it is the first that isn't in the form that is evaluated so far.
pub data IsNotBuilt (held : Contents) : File → Type 0 where
  forms : {g : List Class} {written : List AspectItem} {between : List (List ℕ)} → ReadsGrammar held.ast g
      → ReadsAspects no_texts held.jrag written between → all_built written ≡ false → IsNotBuilt held Jrag
  no_queries : {g : List Class} {written : List AspectItem} {between : List (List ℕ)} {tree : List Node} {texts : List (List ℕ)}
      → ReadsGrammar held.ast g → ReadsAspects no_texts held.jrag written between → AreAccepted g written → ReadsTree g between held.tree tree texts
      → ((qs : List Query) → SaysQueries g (rules_of g written) tree held.queries qs → ⊥) → IsNotBuilt held Queries

abbrev pub is_contribution : AspectItem → Bool
is_contribution (Declared s) = false
is_contribution (Inherits i) = false
is_contribution (Equates e) = false
is_contribution (Collects c) = false
is_contribution (Contributes c) = true

-- how many contributions there are
abbrev pub contributions : List AspectItem → ℕ
contributions written = count_by is_contribution written

-- the counts of classes, attributes, equations and contributions
abbrev pub counts_line : ℕ → ℕ → ℕ → ℕ → List ℕ
counts_line classes attributes equations contributed =
    codes "ok: " ++ decimal classes ++ codes " classes, " ++ decimal attributes ++ codes " attributes, "
    ++ decimal equations ++ codes " equations, " ++ decimal contributed ++ codes " contributions\n"

-- the line of some counts
abbrev pub line_of : Counts → List ℕ
line_of c = counts_line c.classes c.attributes c.equations c.contributions

-- those of some rules over a grammar, and of the aspects that they come from
abbrev pub counts_of : List Class → RuleSet → List AspectItem → List ℕ
counts_of g r written = counts_line (length g) (length r.attributes) (length r.equations) (contributions written)

-- The two files say a grammar and aspects that break no rule over it, and these are their counts.
pub record SaysCounts (held : PairContents) (text : List ℕ) : Type 0 where
  pub classes : List Class
  pub aspects : List AspectItem
  pub between : List (List ℕ)
  pub grammar : ReadsGrammar held.ast classes
  pub written : ReadsAspects no_texts held.other aspects between
  pub clean : AreClean classes aspects
  pub counted : text ≡ counts_of classes (rules_of classes aspects) aspects

-- Of the two files this one is the first that breaks a rule, and this is the first rule that it breaks.
pub data IsCheckBroken (held : PairContents) : File → Broken → Type 0 where
  grammar : {b : Broken} → BreaksGrammar held.ast b → IsCheckBroken held Ast b
  aspects : {g : List Class} {b : Broken} → ReadsGrammar held.ast g → BreaksAspects no_texts held.other b → IsCheckBroken held Jrag b
  checked : {g : List Class} {written : List AspectItem} {between : List (List ℕ)} {b : Broken} → ReadsGrammar held.ast g
      → ReadsAspects no_texts held.other written between → BreakFirst g written b → IsCheckBroken held Jrag b

-- The two files say a tree, and this is its canonical text.
pub record SaysText (held : PairContents) (text : List ℕ) : Type 0 where
  pub classes : List Class
  pub grammar : ReadsGrammar held.ast classes
  pub nodes : List Node
  pub texts : List (List ℕ)
  pub tree : ReadsTree classes no_texts held.other nodes texts
  pub term : Forest
  pub grown : IsTerm classes (length texts) term
  pub are : nodes ≡ nodes_of term
  pub written : text ≡ canonical classes texts term

-- Of the two files this one is the first that breaks a rule, and this is the first rule that it breaks.
pub data IsTreeBroken (held : PairContents) : File → Broken → Type 0 where
  grammar : {b : Broken} → BreaksGrammar held.ast b → IsTreeBroken held Ast b
  tree : {g : List Class} {b : Broken} → ReadsGrammar held.ast g → BreaksTree g no_texts held.other b → IsTreeBroken held Tree b
