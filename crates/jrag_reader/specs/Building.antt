-- What building parts answers.
use Rattle.std.specs.Prelude.{◌≡◌, ℕ, List, Some}
use Rattle.rag_io.specs.Tokens.{Lexed}
use Rattle.jrag_syntax.specs.declared.classes.Start.{Start}
use Rattle.jrag_reader.specs.Parts.{Part}
use Rattle.jrag_reader.specs.Running.{Progress, nothing, run}
use Rattle.jrag_reader.specs.Stack.{tops}
use Rattle.jrag_reader.specs.declared.building.Builder.{Builder}

abbrev pub seen_builder : Builder → Progress
seen_builder b = record { at = b.at; parts = tops b.parts.items }

-- Reading these events doesn't get stuck.
pub record Runs (start : Start) (texts : List (List ℕ)) (ts : List Lexed) (from : Progress) (es : List ℕ) : Type 0 where
  pub to : Progress
  pub is : run start texts ts from es ≡ Some to

-- Reading them ends with these parts.
pub record EndsWith (start : Start) (texts : List (List ℕ)) (ts : List Lexed) (es : List ℕ) (parts : List Part) : Type 0 where
  pub at : ℕ
  pub is : run start texts ts nothing es ≡ Some (record { at = at; parts = parts })
