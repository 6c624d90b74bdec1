-- What fetching the files of a command gives.
use Rattle.std.specs.Prelude.{◌≡◌, ℕ, ◌≤◌, List, Option, Some, None, length}
use Rattle.rag_io.specs.Outside.{Named, longest_file, IsLong, Rose}
use Rattle.run_io.specs.declared.fetching.Contents as kept
use Rattle.run_io.specs.declared.fetching.PairContents as kept_pair
use Rattle.run_io.specs.declared.fetching.Stop.{Stop}
use Rattle.run_io.specs.declared.fetching.Stop.TheVariants as stops
use Rattle.run_io.specs.Files.{Contents, PairContents, pair_in_order}
use Rattle.run_io.specs.Holding.{HoldsAll, HoldsPair, HoldsShort, IsFirstLong}
use Rattle.run_io.specs.Words.{FileNames, PairNames}

abbrev pub seen_contents : kept.Contents → Contents
seen_contents c = record { ast = c.ast.items; jrag = c.jrag.items; tree = c.tree.items; queries = c.queries.items }

abbrev pub seen_pair : kept_pair.PairContents → PairContents
seen_pair c = record { ast = c.ast.items; other = c.other.items }

-- none of the files is too long
pub record AreShort (c : Contents) : Type 0 where
  pub ast : length c.ast ≤ longest_file
  pub jrag : length c.jrag ≤ longest_file
  pub tree : length c.tree ≤ longest_file
  pub queries : length c.queries ≤ longest_file

pub record AreBothShort (c : PairContents) : Type 0 where
  pub ast : length c.ast ≤ longest_file
  pub other : length c.other ≤ longest_file

-- where the shelf tells its files, this one has these bytes, and they aren't too many
abbrev pub Holds : Option (List Named) → List ℕ → List ℕ → Type 0
Holds None name bytes = Unit {0}
Holds (Some files) name bytes = HoldsShort files name bytes

abbrev pub HoldsFetched : Option (List Named) → FileNames → Contents → Type 0
HoldsFetched None names held = Unit {0}
HoldsFetched (Some files) names held = HoldsAll files names held

abbrev pub HoldsPairFetched : Option (List Named) → PairNames → PairContents → Type 0
HoldsPairFetched None names held = Unit {0}
HoldsPairFetched (Some files) names held = HoldsPair files names held

-- where the shelf tells its files, this one is too long
abbrev pub LongWhereTold : Option (List Named) → List ℕ → Type 0
LongWhereTold None name = Unit {0}
LongWhereTold (Some files) name = IsLong files name

-- and the first of some files that is too long
abbrev pub FirstLongWhereTold : Option (List Named) → List (List ℕ) → List ℕ → Type 0
FirstLongWhereTold None names name = Unit {0}
FirstLongWhereTold (Some files) names name = IsFirstLong files names name

-- why fetching a file stops: the shelf's count of faults rose, or the file is too long, or memory is wanting
abbrev pub StopsOne : Option (List Named) → List ℕ → ℕ → ℕ → Stop → Type 0
StopsOne files name before now stops.Failed = Rose before now
StopsOne files name before now (stops.TooLong found) = LongWhereTold files name × (found.now ≡ name)
StopsOne files name before now stops.Memory = Unit {0}

-- why fetching some files in their order stops
abbrev pub StopsAll : Option (List Named) → List (List ℕ) → ℕ → ℕ → Stop → Type 0
StopsAll files names before now stops.Failed = Rose before now
StopsAll files names before now (stops.TooLong found) = FirstLongWhereTold files names found.now
StopsAll files names before now stops.Memory = Unit {0}

-- why fetching the two files of `check` or of `tree` stops
abbrev pub StopsPair : Option (List Named) → PairNames → ℕ → ℕ → Stop → Type 0
StopsPair files names before now stop = StopsAll files (pair_in_order names) before now stop
