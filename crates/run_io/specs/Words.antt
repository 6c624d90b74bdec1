-- The words of the command line.
use Rattle.std.specs.Prelude.{ℕ, List, [], ◌∷◌, Bool, not, ◌&&◌, Option, Some, None, codes, length, nat_lt, slice_index, ◌==◌, if◌then◌else◌, String}
use Rattle.std.specs.String.{string_bytes}
use Rattle.std.specs.Str.{bytes_eq}
use Rattle.std.specs.declared.alloc.Global.{Global}

abbrev pub text_of_word : String Global → List ℕ
text_of_word w = string_bytes w

-- the names of the four files of `run`
pub record FileNames : Type 0 where
  pub ast : List ℕ
  pub jrag : List ℕ
  pub tree : List ℕ
  pub queries : List ℕ

-- the names of the two files of `check` or of `tree`: a grammar, and aspects or a tree
pub record PairNames : Type 0 where
  pub ast : List ℕ
  pub other : List ℕ

-- what the words ask for
pub data Command : Type 0 where
  Run : FileNames → Command
  Check : PairNames → Command
  PrintTree : PairNames → Command

-- a word that may name a file: it doesn't begin with `-`, or is that byte alone
abbrev pub may_name_file : List ℕ → Bool
may_name_file w = not (nat_lt 1 (length w) && (slice_index w 0 == 45))

-- `run` and four names of files
abbrev pub names_of : List (List ℕ) → Option FileNames
names_of [] = None
names_of (w ∷ []) = None
names_of (w ∷ a ∷ []) = None
names_of (w ∷ a ∷ b ∷ []) = None
names_of (w ∷ a ∷ b ∷ c ∷ []) = None
names_of (w ∷ a ∷ b ∷ c ∷ d ∷ []) = if bytes_eq w (codes "run") && (may_name_file a && (may_name_file b && (may_name_file c && may_name_file d)))
    then Some (record { ast = a; jrag = b; tree = c; queries = d }) else None
names_of (w ∷ a ∷ b ∷ c ∷ d ∷ e ∷ words) = None

-- a command and two names of files
abbrev pub pair_names_of : List ℕ → List (List ℕ) → Option PairNames
pair_names_of command [] = None
pair_names_of command (w ∷ []) = None
pair_names_of command (w ∷ a ∷ []) = None
pair_names_of command (w ∷ a ∷ b ∷ []) = if bytes_eq w command && (may_name_file a && may_name_file b) then Some (record { ast = a; other = b }) else None
pair_names_of command (w ∷ a ∷ b ∷ c ∷ words) = None

-- the first of three commands that the words give
abbrev pub first_of : Option FileNames → Option PairNames → Option PairNames → Option Command
first_of None None None = None
first_of None None (Some names) = Some (PrintTree names)
first_of None (Some names) tree = Some (Check names)
first_of (Some names) check tree = Some (Run names)

-- what the words ask for; every other list of words is refused
abbrev pub command_of : List (List ℕ) → Option Command
command_of words = first_of (names_of words) (pair_names_of (codes "check") words) (pair_names_of (codes "tree") words)
