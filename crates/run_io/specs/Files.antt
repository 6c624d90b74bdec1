-- The files of a command: which there are, what they hold, and under which names they are asked for.
use Rattle.std.specs.Prelude.{ℕ, List, [], ◌∷◌}
use Rattle.run_io.specs.Words.{Check, Command, FileNames, PairNames, PrintTree, Run}

-- one of the files of a command
pub data File : Type 0 where
  Ast : File
  Jrag : File
  Tree : File
  Queries : File

-- the bytes of the four files of `run`
pub record Contents : Type 0 where
  pub ast : List ℕ
  pub jrag : List ℕ
  pub tree : List ℕ
  pub queries : List ℕ

-- the bytes of the two files of `check` or of `tree`
pub record PairContents : Type 0 where
  pub ast : List ℕ
  pub other : List ℕ

abbrev pub name_of : FileNames → File → List ℕ
name_of names Ast = names.ast
name_of names Jrag = names.jrag
name_of names Tree = names.tree
name_of names Queries = names.queries

-- `check` and `tree` have two files
abbrev pub pair_name_of : PairNames → File → List ℕ
pair_name_of names Ast = names.ast
pair_name_of names Jrag = names.other
pair_name_of names Tree = names.other
pair_name_of names Queries = names.other

-- the files in the order of the command
abbrev pub in_order : FileNames → List (List ℕ)
in_order names = names.ast ∷ names.jrag ∷ names.tree ∷ names.queries ∷ []

abbrev pub pair_in_order : PairNames → List (List ℕ)
pair_in_order names = names.ast ∷ names.other ∷ []

abbrev pub files_of : Command → List (List ℕ)
files_of (Run names) = in_order names
files_of (Check names) = pair_in_order names
files_of (PrintTree names) = pair_in_order names
