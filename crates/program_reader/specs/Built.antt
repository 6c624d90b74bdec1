-- What reading the files answers.
use Rattle.std.specs.Prelude.{◌≡◌, ℕ, List, Bool, false, Option, Some, None, Result, Ok, Err}
use Rattle.rag_io.specs.declared.Memory.{Memory as OutOfMemory}
use Rattle.broken_rules.specs.declared.broken.ReadFault.{ReadFault}
use Rattle.broken_rules.specs.declared.broken.ReadFault.TheVariants as faults
use Rattle.ast_grammar.specs.Grammar.{Class}
use Rattle.attr_equations.specs.declared.rules.Rules.{Rules}
use Rattle.attr_equations.specs.Kept.{rules_in}
use Rattle.attr_rules.specs.Queries.{Query}
use Rattle.attr_rules.specs.Rules.{RuleSet}
use Rattle.attr_types.specs.Phases.{rules_of}
use Rattle.built_forms.specs.Built.{all_built}
use Rattle.aspect_items.specs.Items.{Item as AspectItem, seen_item}
use Rattle.aspect_items.specs.declared.items.Item.{Item as KeptItem}
use Rattle.equation_law.specs.declared.system.Queries.{Queries as KeptQueries}
use Rattle.tree_arena.specs.Nodes.{Node}
use Rattle.equation_law.specs.Systems.{queries_in}
use Rattle.program_reader.specs.declared.files.Refusal.{Refusal}
use Rattle.program_reader.specs.declared.files.Refusal.TheVariants as refusals
use Rattle.program_reader.specs.declared.files.Unread.{Unread}
use Rattle.program_reader.specs.declared.files.Unread.TheVariants.{Broken as Unaccepted, NotBuilt, Memory}
use Rattle.run_io.specs.declared.words.FileKind.{FileKind}
use Rattle.program_reader.specs.Files.{AreAccepted, AreClean, AreRefused, BreakFirst, IsBroken, IsCheckBroken, IsNotBuilt, IsTreeBroken, is_contribution}
use Rattle.run_io.specs.Files.{Contents, PairContents}
use Rattle.run_io.specs.Named.{seen_file}
use Rattle.program_reader.specs.Queries.{SaysQueries}

-- The aspects break no rule over a grammar, and these are their rules.
pub record HasRules (g : List Class) (aspects : List AspectItem) (rules : RuleSet) : Type 0 where
  pub clean : AreClean g aspects
  pub are : rules ≡ rules_of g aspects

-- The rules of some aspects; or the first rule that they break.
abbrev pub AnswersChecked : List Class → List AspectItem → Result Rules ReadFault → Type 0
AnswersChecked g aspects (Ok rules) = HasRules g aspects (rules_in rules)
AnswersChecked g aspects (Err (faults.Broken b)) = BreakFirst g aspects b
AnswersChecked g aspects (Err faults.Memory) = Unit {0}

-- They are evaluated so far and break no rule over a grammar, and these are their rules.
pub record MakesRules (g : List Class) (aspects : List AspectItem) (rules : RuleSet) : Type 0 where
  pub accepted : AreAccepted g aspects
  pub are : rules ≡ rules_of g aspects

-- The rules of some aspects; or the first rule that they break, or an item of theirs isn't evaluated so far.
abbrev pub AnswersRules : List Class → List AspectItem → Result Rules Unread → Type 0
AnswersRules g aspects (Ok rules) = MakesRules g aspects (rules_in rules)
AnswersRules g aspects (Err (Unaccepted b)) = AreRefused g aspects b
AnswersRules g aspects (Err NotBuilt) = all_built aspects ≡ false
AnswersRules g aspects (Err Memory) = Unit {0}

-- The queries that the bytes say; or they say none.
abbrev pub AnswersAsked : List Class → RuleSet → List Node → List ℕ → Result (Option KeptQueries) OutOfMemory → Type 0
AnswersAsked g rules tree bytes (Ok (Some queries)) = SaysQueries g rules tree bytes (queries_in queries)
AnswersAsked g rules tree bytes (Ok None) = (qs : List Query) → SaysQueries g rules tree bytes qs → ⊥
AnswersAsked g rules tree bytes (Err m) = Unit {0}

-- the refusal of a file
abbrev pub Refuses : FileKind → Unread → Refusal → Type 0
Refuses file (Unaccepted b) refusal = refusal ≡ refusals.Broken file b
Refuses file NotBuilt refusal = refusal ≡ refusals.NotBuilt file
Refuses file Memory refusal = refusal ≡ refusals.Memory

-- the refusal of a file that breaks a rule
abbrev pub BreaksFile : FileKind → ReadFault → Refusal → Type 0
BreaksFile file (faults.Broken b) refusal = refusal ≡ refusals.Broken file b
BreaksFile file faults.Memory refusal = refusal ≡ refusals.Memory

-- why the four files say no program
abbrev pub IsRefusal : Contents → Refusal → Type 0
IsRefusal held (refusals.Broken file b) = IsBroken held (seen_file file) b
IsRefusal held (refusals.NotBuilt file) = IsNotBuilt held (seen_file file)
IsRefusal held refusals.Memory = Unit {0}

-- why two files say no grammar with aspects that break no rule
abbrev pub IsCheckRefusal : PairContents → Refusal → Type 0
IsCheckRefusal held (refusals.Broken file b) = IsCheckBroken held (seen_file file) b
IsCheckRefusal held (refusals.NotBuilt file) = ⊥
IsCheckRefusal held refusals.Memory = Unit {0}

-- why two files say no tree
abbrev pub IsTreeRefusal : PairContents → Refusal → Type 0
IsTreeRefusal held (refusals.Broken file b) = IsTreeBroken held (seen_file file) b
IsTreeRefusal held (refusals.NotBuilt file) = ⊥
IsTreeRefusal held refusals.Memory = Unit {0}

-- an item, as it is kept, is a contribution
unfoldable pub is_contributed : KeptItem → Bool
is_contributed item = is_contribution (seen_item item)
