-- What reading the files answers step by step: the rules of the aspects over a grammar, then the tree and the queries.
use Rattle.std.specs.Prelude.{◌≡◌, ℕ, List, false, Result, Ok, Err}
use Rattle.broken_rules.specs.declared.broken.Broken.{Broken}
use Rattle.ast_grammar.specs.Grammar.{Class}
use Rattle.attr_equations.specs.declared.rules.Rules as kept
use Rattle.attr_equations.specs.Kept.{rules_in}
use Rattle.attr_rules.specs.Queries.{Query}
use Rattle.attr_rules.specs.Rules.{RuleSet}
use Rattle.built_forms.specs.Built.{all_built}
use Rattle.equation_law.specs.declared.system.Queries.{Queries as KeptQueries}
use Rattle.equation_law.specs.Systems.{queries_in}
use Rattle.aspect_items.specs.Items.{Item as AspectItem}
use Rattle.jrag_reader.specs.FromBytes.{BreaksAspects, ReadsAspects}
use Rattle.tree_arena.specs.Nodes.{Node}
use Rattle.tree_reader.specs.FromBytes.{BreaksTree, ReadsTree}
use Rattle.run_io.specs.Files.{Contents, File, Tree, Queries}
use Rattle.run_io.specs.Named.{seen_file}
use Rattle.program_reader.specs.declared.files.Refusal.{Refusal}
use Rattle.program_reader.specs.declared.files.Refusal.TheVariants as refusals
use Rattle.program_reader.specs.declared.files.Unread.{Unread}
use Rattle.program_reader.specs.declared.files.Unread.TheVariants.{Broken as Unaccepted, NotBuilt, Memory}
use Rattle.program_reader.specs.Built.{MakesRules}
use Rattle.program_reader.specs.Files.{AreRefused}
use Rattle.program_reader.specs.Queries.{SaysQueries}

-- The bytes of a `.jrag` file say aspects that break no rule over a grammar, and these are their rules. A pool holds some texts before they are
-- read, and these then.
pub record SaysRules (g : List Class) (before : List (List ℕ)) (bytes : List ℕ) (texts : List (List ℕ)) (rules : RuleSet) : Type 0 where
  pub written : List AspectItem
  pub aspects : ReadsAspects before bytes written texts
  pub makes : MakesRules g written rules

-- This is the first rule that the bytes break, by themselves or over the grammar.
pub data BreaksRules (g : List Class) (before : List (List ℕ)) (bytes : List ℕ) (b : Broken) : Type 0 where
  alone : BreaksAspects before bytes b → BreaksRules g before bytes b
  checked : {written : List AspectItem} {texts : List (List ℕ)} → ReadsAspects before bytes written texts → AreRefused g written b → BreaksRules g before bytes b

-- The bytes say aspects of which a form isn't evaluated so far.
pub record SaysUnbuilt (before : List (List ℕ)) (bytes : List ℕ) : Type 0 where
  pub written : List AspectItem
  pub texts : List (List ℕ)
  pub aspects : ReadsAspects before bytes written texts
  pub forms : all_built written ≡ false

-- The rules of the aspects that the bytes say, with the texts that the pool then holds; or why there are none.
abbrev pub AnswersAspectRules : List Class → List (List ℕ) → List ℕ → List (List ℕ) → Result kept.Rules Unread → Type 0
AnswersAspectRules g before bytes texts (Ok rules) = SaysRules g before bytes texts (rules_in rules)
AnswersAspectRules g before bytes texts (Err (Unaccepted b)) = BreaksRules g before bytes b
AnswersAspectRules g before bytes texts (Err NotBuilt) = SaysUnbuilt before bytes
AnswersAspectRules g before bytes texts (Err Memory) = Unit {0}

-- The last two files say this tree and these queries over a grammar and rules. A pool holds some texts before, and these then.
pub record SaysTreeAndQueries (g : List Class) (rules : RuleSet) (before : List (List ℕ)) (held : Contents) (texts : List (List ℕ)) (tree : List Node) (asked : List Query) : Type 0 where
  pub nodes : ReadsTree g before held.tree tree texts
  pub queries : SaysQueries g rules tree held.queries asked

-- the same of a tree and queries that were read
abbrev pub SaysRead : List Class → RuleSet → List (List ℕ) → Contents → List (List ℕ) → List Node × KeptQueries → Type 0
SaysRead g rules before held texts read = SaysTreeAndQueries g rules before held texts read.0 (queries_in read.1)

-- Of the two the tree breaks a rule, and this is the first one.
pub record BreaksNodes (g : List Class) (before : List (List ℕ)) (held : Contents) (file : File) (b : Broken) : Type 0 where
  pub of : file ≡ Tree
  pub breaks : BreaksTree g before held.tree b

-- Of the two the queries aren't in the form that is evaluated so far.
pub record LacksQueries (g : List Class) (rules : RuleSet) (before : List (List ℕ)) (held : Contents) (file : File) : Type 0 where
  pub of : file ≡ Queries
  pub tree : List Node
  pub texts : List (List ℕ)
  pub nodes : ReadsTree g before held.tree tree texts
  pub none : (asked : List Query) → SaysQueries g rules tree held.queries asked → ⊥

-- why the last two files say no tree with queries
abbrev pub RefusesTreeOrQueries : List Class → RuleSet → List (List ℕ) → Contents → Refusal → Type 0
RefusesTreeOrQueries g rules before held (refusals.Broken file b) = BreaksNodes g before held (seen_file file) b
RefusesTreeOrQueries g rules before held (refusals.NotBuilt file) = LacksQueries g rules before held (seen_file file)
RefusesTreeOrQueries g rules before held refusals.Memory = Unit {0}
