-- What is to be written, from what was fetched and read.
use Rattle.std.proofs.Common.{◌≡◌, ℕ, List, ◌++◌, Option, Some, None, Result, Ok, Err, IfOk, codes, sym, subst, ◌∙◌, arith}
use Rattle.rag_io.specs.Outside.{Named, Rose}
use Rattle.broken_rules.specs.declared.broken.Broken.{Broken}
use Rattle.query_runner.specs.declared.running.Answer.{Answer}
use Rattle.query_runner.specs.declared.running.Answer.TheVariants as answers
use Rattle.query_runner.specs.declared.running.Failure.{Failure}
use Rattle.run_io.specs.declared.fetching.Stop.{Stop}
use Rattle.run_io.specs.declared.fetching.Stop.TheVariants as stops
use Rattle.query_runner.specs.declared.running.Failure.TheVariants as failures
use Rattle.query_runner.specs.Answered.{AnswersWhereTold, Stopped, status_of, text_of}
use Rattle.run_io.specs.Fetched.{FirstLongWhereTold, HoldsPairFetched, HoldsFetched, StopsAll}
use Rattle.run_io.specs.Files.{PairContents, Contents, File}
use Rattle.program_reader.specs.Files.{IsBroken, IsCheckBroken, IsNotBuilt, IsTreeBroken, SaysCounts, SaysProgram, SaysText}
use Rattle.query_runner.specs.Output.{Answers, broken, broken_check, broken_line, broken_tree, counted, full, misused, most_cells, printed, refused, replied, too_long, not_built}
use Rattle.query_replies.specs.Replies.{AreReplies}
use Rattle.run_io.specs.Files.{pair_name_of, files_of, name_of}
use Rattle.caller_pass.specs.Overfull.{IsOverfull}
use Rattle.run_io.specs.Words.{Check, PairNames, Command, FileNames, PrintTree, Run, command_of}
use Rattle.equation_law.specs.Program.{Program}

pub usage_answer : (words : List (List ℕ)) (files : Option (List Named)) → command_of words ≡ None → AnswersWhereTold words files answers.Usage
usage_answer words None e = tt
usage_answer words (Some files) e = misused e

-- a line is the answer with status 1
line_answer : (words : List (List ℕ)) (files : List Named) (line : List ℕ) (a : Answer) → Answers words files 1 line → (status_of a ≡ 1) × (text_of a ≡ line) → Answers words files (status_of a) (text_of a)
line_answer words files line a is e = subst (λ (s : ℕ). Answers words files s (text_of a)) (sym e.0) (subst (λ (t : List ℕ). Answers words files 1 t) (sym e.1) is)

pub long_answer : (words : List (List ℕ)) (files : Option (List Named)) (command : Command) (name : List ℕ) (r : Result Answer Failure) → command_of words ≡ Some command → FirstLongWhereTold files (files_of command) name
    → IfOk r (λ a. (status_of a ≡ 1) × (text_of a ≡ name ++ codes ": too long\n")) → IfOk r (λ a. AnswersWhereTold words files a)
long_answer words None command name (Ok a) read long e = tt
long_answer words (Some files) command name (Ok a) read long e = line_answer words files (name ++ codes ": too long\n") a (refused (too_long read long)) e
long_answer words files command name (Err f) read long e = tt

-- fetching the files of a command stopped
pub stop_answer : (words : List (List ℕ)) (files : Option (List Named)) (command : Command) (before now : ℕ) (stop : Stop) (r : Result Answer Failure) → command_of words ≡ Some command → StopsAll files (files_of command) before now stop
    → Stopped stop r → IfOk r (λ a. AnswersWhereTold words files a)
stop_answer words files command before now stops.Failed r read cause is = subst (λ x. IfOk x (λ a. AnswersWhereTold words files a)) (sym is) tt
stop_answer words files command before now stops.Memory r read cause is = subst (λ x. IfOk x (λ a. AnswersWhereTold words files a)) (sym is) tt
stop_answer words files command before now (stops.TooLong name) r read cause is = long_answer words files command name.now r read cause is.0

-- it gives a line, or nothing; nothing for a fault of the shelf only where the shelf's count rose
-- a line isn't the usage text
pub line_status : (line : List ℕ) (r : Result Answer Failure) → IfOk r (λ a. (status_of a ≡ 1) × (text_of a ≡ line)) → r ≡ Ok answers.Usage → ⊥
line_status line (Ok (answers.Output x)) e same = cc
line_status line (Ok (answers.Refusal x)) e same = cc
line_status line (Ok answers.Usage) e same = absurd (omega (arith, e.0))
line_status line (Ok answers.Full) e same = cc
line_status line (Err f) e same = cc

pub stop_status : (stop : Stop) (r : Result Answer Failure) → Stopped stop r → r ≡ Ok answers.Usage → ⊥
stop_status stops.Failed r is same = let e = sym is ∙ same in cc
stop_status stops.Memory r is same = let e = sym is ∙ same in cc
stop_status (stops.TooLong name) r is same = line_status (name.now ++ codes ": too long\n") r is.0 same

pub stop_fetch : (files : Option (List Named)) (names : List (List ℕ)) (before now : ℕ) (stop : Stop) (r : Result Answer Failure) → StopsAll files names before now stop → Stopped stop r → r ≡ Err failures.Fetch → Rose before now
stop_fetch files names before now stops.Failed r cause is fails = cause
stop_fetch files names before now stops.Memory r cause is fails = let both = sym is ∙ fails in cc
stop_fetch files names before now (stops.TooLong name) r cause is fails = absurd (is.1 fails)

pub unbuilt_answer : (words : List (List ℕ)) (files : Option (List Named)) (names : FileNames) (held : Contents) (file : File) (r : Result Answer Failure) → command_of words ≡ Some (Run names) → HoldsFetched files names held → IsNotBuilt held file
    → IfOk r (λ a. (status_of a ≡ 1) × (text_of a ≡ name_of names file ++ codes ": not built\n")) → IfOk r (λ a. AnswersWhereTold words files a)
unbuilt_answer words None names held file (Ok a) read holds cause e = tt
unbuilt_answer words (Some files) names held file (Ok a) read holds cause e = line_answer words files (name_of names file ++ codes ": not built\n") a (refused (not_built read holds cause)) e
unbuilt_answer words files names held file (Err f) read holds cause e = tt

pub broken_answer : (words : List (List ℕ)) (files : Option (List Named)) (names : FileNames) (held : Contents) (file : File) (b : Broken) (r : Result Answer Failure) → command_of words ≡ Some (Run names) → HoldsFetched files names held → IsBroken held file b
    → IfOk r (λ a. (status_of a ≡ 1) × (text_of a ≡ broken_line (name_of names file) b)) → IfOk r (λ a. AnswersWhereTold words files a)
broken_answer words None names held file b (Ok a) read holds cause e = tt
broken_answer words (Some files) names held file b (Ok a) read holds cause e = line_answer words files (broken_line (name_of names file) b) a (refused (broken read holds cause)) e
broken_answer words files names held file b (Err f) read holds cause e = tt

pub broken_check_answer : (words : List (List ℕ)) (files : Option (List Named)) (names : PairNames) (held : PairContents) (file : File) (b : Broken) (r : Result Answer Failure) → command_of words ≡ Some (Check names)
    → HoldsPairFetched files names held → IsCheckBroken held file b → IfOk r (λ a. (status_of a ≡ 1) × (text_of a ≡ broken_line (pair_name_of names file) b)) → IfOk r (λ a. AnswersWhereTold words files a)
broken_check_answer words None names held file b (Ok a) read holds cause e = tt
broken_check_answer words (Some files) names held file b (Ok a) read holds cause e = line_answer words files (broken_line (pair_name_of names file) b) a (refused (broken_check read holds cause)) e
broken_check_answer words files names held file b (Err f) read holds cause e = tt

pub counts_answer : (words : List (List ℕ)) (files : Option (List Named)) (names : PairNames) (held : PairContents) (text : List ℕ) → command_of words ≡ Some (Check names) → HoldsPairFetched files names held → SaysCounts held text
    → (a : Answer) → status_of a ≡ 0 → text_of a ≡ text → AnswersWhereTold words files a
counts_answer words None names held text read holds said a s t = tt
counts_answer words (Some files) names held text read holds said a s t =
    subst (λ (k : ℕ). Answers words files k (text_of a)) (sym s) (subst (λ (x : List ℕ). Answers words files 0 x) (sym t) (counted (record { names = names; contents = held; read = read; held = holds; said = said })))

pub broken_tree_answer : (words : List (List ℕ)) (files : Option (List Named)) (names : PairNames) (held : PairContents) (file : File) (b : Broken) (r : Result Answer Failure) → command_of words ≡ Some (PrintTree names)
    → HoldsPairFetched files names held → IsTreeBroken held file b → IfOk r (λ a. (status_of a ≡ 1) × (text_of a ≡ broken_line (pair_name_of names file) b)) → IfOk r (λ a. AnswersWhereTold words files a)
broken_tree_answer words None names held file b (Ok a) read holds cause e = tt
broken_tree_answer words (Some files) names held file b (Ok a) read holds cause e = line_answer words files (broken_line (pair_name_of names file) b) a (refused (broken_tree read holds cause)) e
broken_tree_answer words files names held file b (Err f) read holds cause e = tt

pub tree_answer : (words : List (List ℕ)) (files : Option (List Named)) (names : PairNames) (held : PairContents) (text : List ℕ) → command_of words ≡ Some (PrintTree names) → HoldsPairFetched files names held → SaysText held text
    → (a : Answer) → status_of a ≡ 0 → text_of a ≡ text → AnswersWhereTold words files a
tree_answer words None names held text read holds said a s t = tt
tree_answer words (Some files) names held text read holds said a s t =
    subst (λ (k : ℕ). Answers words files k (text_of a)) (sym s) (subst (λ (x : List ℕ). Answers words files 0 x) (sym t) (printed (record { names = names; contents = held; read = read; held = holds; said = said })))

pub reply_answer : (words : List (List ℕ)) (files : Option (List Named)) (names : FileNames) (held : Contents) (p : Program) (text : List ℕ) → command_of words ≡ Some (Run names) → HoldsFetched files names held → SaysProgram held p
    → AreReplies p 0 p.queries text → (a : Answer) → status_of a ≡ 0 → text_of a ≡ text → AnswersWhereTold words files a
reply_answer words None names held p text read holds said replies a s t = tt
reply_answer words (Some files) names held p text read holds said replies a s t =
    subst (λ (k : ℕ). Answers words files k (text_of a)) (sym s) (subst (λ (x : List ℕ). Answers words files 0 x) (sym t)
    (replied (record { names = names; contents = held; program = p; read = read; held = holds; said = said; replies = replies })))

pub full_answer : (words : List (List ℕ)) (files : Option (List Named)) (names : FileNames) (held : Contents) (p : Program) → command_of words ≡ Some (Run names) → HoldsFetched files names held → SaysProgram held p → IsOverfull p most_cells → AnswersWhereTold words files answers.Full
full_answer words None names held p read holds said over = tt
full_answer words (Some files) names held p read holds said over = full (record { names = names; contents = held; program = p; read = read; held = holds; said = said; overfull = over })
