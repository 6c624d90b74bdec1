-- What a shelf holds under the names of a command.
use Rattle.std.specs.Prelude.{◌≡◌, ℕ, ◌≤◌, List, ◌∷◌, Some, length}
use Rattle.rag_io.specs.Outside.{Named, content_of, longest_file, IsLong, IsShort}
use Rattle.run_io.specs.Files.{Contents, PairContents}
use Rattle.run_io.specs.Words.{FileNames, PairNames}

-- The shelf holds these bytes under a name, and they aren't too many.
pub record HoldsShort (files : List Named) (name bytes : List ℕ) : Type 0 where
  pub held : content_of files name ≡ Some bytes
  pub fits : length bytes ≤ longest_file

-- It holds these bytes under the four names.
pub record HoldsAll (files : List Named) (names : FileNames) (held : Contents) : Type 0 where
  pub ast : HoldsShort files names.ast held.ast
  pub jrag : HoldsShort files names.jrag held.jrag
  pub tree : HoldsShort files names.tree held.tree
  pub queries : HoldsShort files names.queries held.queries

-- It holds these bytes under the two names.
pub record HoldsPair (files : List Named) (names : PairNames) (held : PairContents) : Type 0 where
  pub ast : HoldsShort files names.ast held.ast
  pub other : HoldsShort files names.other held.other

-- the first of some files that is too long, those before it being held and short enough
pub data IsFirstLong (files : List Named) : List (List ℕ) → List ℕ → Type 0 where
  here : {name : List ℕ} {names : List (List ℕ)} → IsLong files name → IsFirstLong files (name ∷ names) name
  later : {name found : List ℕ} {names : List (List ℕ)} → IsShort files name → IsFirstLong files names found → IsFirstLong files (name ∷ names) found
