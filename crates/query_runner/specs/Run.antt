-- What a run of the program leaves in the sink.
use Rattle.std.specs.Prelude.{ℕ, List, Option, Some, None}
use Rattle.rag_io.specs.Outside.{Named}
use Rattle.query_runner.specs.Output.{Answers}
use Rattle.run_io.specs.Taking.{Took, TookSome}

-- exactly the answer of this status was put, and nothing else
pub record PutsAnswer (words : List (List ℕ)) (files : List Named) (old : Option (List ℕ)) (new : Option (List ℕ)) (status : ℕ) : Type 0 where
  pub text : List ℕ
  pub answer : Answers words files status text
  pub put : Took old text new

-- a front of the answer of some status was put
pub record PutsPart (words : List (List ℕ)) (files : List Named) (old : Option (List ℕ)) (new : Option (List ℕ)) : Type 0 where
  pub status : ℕ
  pub text : List ℕ
  pub answer : Answers words files status text
  pub put : TookSome old text new

-- the same where the shelf tells its files
abbrev pub WritesAnswer : List (List ℕ) → Option (List Named) → Option (List ℕ) → Option (List ℕ) → ℕ → Type 0
WritesAnswer words None old new status = Unit {0}
WritesAnswer words (Some files) old new status = PutsAnswer words files old new status

abbrev pub WritesPart : List (List ℕ) → Option (List Named) → Option (List ℕ) → Option (List ℕ) → Type 0
WritesPart words None old new = Unit {0}
WritesPart words (Some files) old new = PutsPart words files old new
