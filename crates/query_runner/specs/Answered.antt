-- What is to be written, as the code keeps it.
use Rattle.std.specs.Prelude.{◌≡◌, ℕ, List, ◌++◌, Option, Some, None, Result, Err, IfOk, codes}
use Rattle.rag_io.specs.Outside.{Named}
use Rattle.run_io.specs.declared.fetching.Stop.{Stop}
use Rattle.run_io.specs.declared.fetching.Stop.TheVariants as stops
use Rattle.run_io.specs.Words.{Command, command_of}
use Rattle.query_runner.specs.declared.running.Answer.{Answer}
use Rattle.query_runner.specs.declared.running.Failure.{Failure}
use Rattle.query_runner.specs.declared.running.Failure.TheVariants as failures
use Rattle.query_runner.specs.declared.running.Answer.TheVariants.{Full, Output, Refusal, Usage}
use Rattle.query_runner.specs.Output.{Answers, usage}

abbrev pub status_of : Answer → ℕ
status_of (Output text) = 0
status_of (Refusal text) = 1
status_of Usage = 2
status_of Full = 4

abbrev pub text_of : Answer → List ℕ
text_of (Output text) = text.items
text_of (Refusal text) = text.items
text_of Usage = usage
text_of Full = codes "full: cells\n"

-- what is written where fetching stopped: the line of a file that is too long, or nothing
abbrev pub Stopped : Stop → Result Answer Failure → Type 0
Stopped stops.Failed result = result ≡ Err failures.Fetch
Stopped stops.Memory result = result ≡ Err failures.Memory
Stopped (stops.TooLong name) result = IfOk result (λ a. (status_of a ≡ 1) × (text_of a ≡ name.now ++ codes ": too long\n")) × (result ≡ Err failures.Fetch → ⊥)

-- where the shelf tells its files, it is the answer for these words
abbrev pub AnswersWhereTold : List (List ℕ) → Option (List Named) → Answer → Type 0
AnswersWhereTold words None a = Unit {0}
AnswersWhereTold words (Some files) a = Answers words files (status_of a) (text_of a)

-- where the words ask for this command, the answer is theirs
abbrev pub AnswersCommand : Command → Option (List Named) → Result Answer Failure → Type 0
AnswersCommand command files result = (words : List (List ℕ)) → command_of words ≡ Some command → IfOk result (λ a. AnswersWhereTold words files a)
