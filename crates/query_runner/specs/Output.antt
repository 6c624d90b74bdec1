-- What the program is to write.
use Rattle.std.specs.Prelude.{◌≡◌, ◌≤◌, ℕ, List, ◌++◌, Some, None, codes}
use Rattle.std.specs.Fmt.{decimal}
use Rattle.rag_io.specs.Outside.{Named}
use Rattle.broken_rules.specs.Codes.{code_of}
use Rattle.broken_rules.specs.declared.broken.Broken.{Broken}
use Rattle.equation_law.specs.Program.{Program}
use Rattle.caller_pass.specs.Overfull.{IsOverfull}
use Rattle.query_replies.specs.Replies.{AreReplies}
use Rattle.run_io.specs.Files.{Contents, PairContents, File, files_of, name_of, pair_name_of}
use Rattle.run_io.specs.Holding.{HoldsAll, HoldsPair, IsFirstLong}
use Rattle.program_reader.specs.Files.{SaysCounts, SaysProgram, SaysText, IsBroken, IsCheckBroken, IsNotBuilt, IsTreeBroken}
use Rattle.run_io.specs.Words.{Check, Command, FileNames, PairNames, PrintTree, Run, command_of}

-- The output for some words, over the files that a shelf holds: the replies of the program that they say.
pub record Output (words : List (List ℕ)) (files : List Named) (text : List ℕ) : Type 0 where
  pub names : FileNames
  pub contents : Contents
  pub program : Program
  pub read : command_of words ≡ Some (Run names)
  pub held : HoldsAll files names contents
  pub said : SaysProgram contents program
  pub replies : AreReplies program 0 program.queries text

-- The same where the words ask for the counts of aspects.
pub record CheckOutput (words : List (List ℕ)) (files : List Named) (text : List ℕ) : Type 0 where
  pub names : PairNames
  pub contents : PairContents
  pub read : command_of words ≡ Some (Check names)
  pub held : HoldsPair files names contents
  pub said : SaysCounts contents text

-- The same where the words ask for the text of a tree.
pub record TreeOutput (words : List (List ℕ)) (files : List Named) (text : List ℕ) : Type 0 where
  pub names : PairNames
  pub contents : PairContents
  pub read : command_of words ≡ Some (PrintTree names)
  pub held : HoldsPair files names contents
  pub said : SaysText contents text

-- the line of a broken rule
abbrev pub broken_line : List ℕ → Broken → List ℕ
broken_line name b = name ++ codes ":" ++ decimal b.place.line ++ codes ":" ++ decimal b.place.column ++ codes ": " ++ code_of b.rule ++ codes "\n"

-- The line of a file that is refused: of the first that is too long; of a grammar, aspects or a tree that breaks a rule, with the first one and its
-- place; or of another that isn't in the form that is evaluated so far.
pub data IsRefused (words : List (List ℕ)) (files : List Named) : List ℕ → Type 0 where
  too_long : {command : Command} {name : List ℕ} → command_of words ≡ Some command → IsFirstLong files (files_of command) name → IsRefused words files (name ++ codes ": too long\n")
  broken : {names : FileNames} {contents : Contents} {file : File} {b : Broken} → command_of words ≡ Some (Run names) → HoldsAll files names contents → IsBroken contents file b
      → IsRefused words files (broken_line (name_of names file) b)
  not_built : {names : FileNames} {contents : Contents} {file : File} → command_of words ≡ Some (Run names) → HoldsAll files names contents → IsNotBuilt contents file
      → IsRefused words files (name_of names file ++ codes ": not built\n")
  broken_check : {names : PairNames} {contents : PairContents} {file : File} {b : Broken} → command_of words ≡ Some (Check names) → HoldsPair files names contents → IsCheckBroken contents file b
      → IsRefused words files (broken_line (pair_name_of names file) b)
  broken_tree : {names : PairNames} {contents : PairContents} {file : File} {b : Broken} → command_of words ≡ Some (PrintTree names) → HoldsPair files names contents → IsTreeBroken contents file b
      → IsRefused words files (broken_line (pair_name_of names file) b)

-- the usage text
abbrev pub usage : List ℕ
usage = codes "usage: rag run [--callers N] [--cells N] [--count] AST JRAG TREE QUERIES\n       rag check AST JRAG\n       rag tree AST TREE\n       rag bulk N [--callers N]\n"

-- how many cells a run has
abbrev pub most_cells : ℕ
most_cells = 262144

-- The same words where the queries of the program have more keys than there are cells.
pub record Overfull (words : List (List ℕ)) (files : List Named) : Type 0 where
  pub names : FileNames
  pub contents : Contents
  pub program : Program
  pub read : command_of words ≡ Some (Run names)
  pub held : HoldsAll files names contents
  pub said : SaysProgram contents program
  pub overfull : IsOverfull program most_cells

-- What is to be written for some words, and the status that goes with it: the replies, the counts or the text of the tree with 0, the line of a file
-- that is refused with 1, the usage text with 2. Where more cells are demanded than there are, that may be said with 4.
pub data Answers (words : List (List ℕ)) (files : List Named) : ℕ → List ℕ → Type 0 where
  replied : {text : List ℕ} → Output words files text → Answers words files 0 text
  counted : {text : List ℕ} → CheckOutput words files text → Answers words files 0 text
  printed : {text : List ℕ} → TreeOutput words files text → Answers words files 0 text
  refused : {line : List ℕ} → IsRefused words files line → Answers words files 1 line
  misused : command_of words ≡ None → Answers words files 2 usage
  full : Overfull words files → Answers words files 4 (codes "full: cells\n")

-- there is at most one status of 0, 1 and 2 with its text
abbrev pub HaveOneAnswer : List (List ℕ) → List Named → Type 0
HaveOneAnswer words files = (s r : ℕ) (t u : List ℕ) → Answers words files s t → Answers words files r u → s ≤ 2 → r ≤ 2 → (s ≡ r) × (t ≡ u)
