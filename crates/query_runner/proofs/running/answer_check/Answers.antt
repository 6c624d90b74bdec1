-- Each end of the counting has its answer.
use Rattle.std.proofs.Common.{◌≡◌, ℕ, List, IfOk, refl, subst}
use Rattle.query_runner.specs.Answered.{status_of, text_of}
use Rattle.run_io.specs.Fetched.{seen_pair}
use Rattle.run_io.specs.Named.{seen_file, seen_pair_names}
use Rattle.query_runner.specs.Output.{broken_line}
use Rattle.run_io.specs.Words.{Check}
use Rattle.query_runner.specs.declared.running.Answer.TheVariants.{Output}
use Rattle.query_runner.proofs.Preparing.{broken_check_answer, counts_answer, stop_answer}
use Rattle.query_runner.proofs.running.answer_check.Goals as goal

pub returns-in-Err-clause-answer : goal.returns-in-Err-clause-answer
returns-in-Err-clause-answer g c = λ words asked.
    stop_answer words (g.S.Shelf.files c.args.shelf.now) (Check (seen_pair_names c.args.names)) _ _ c.in-Err.stop c.refuse_stop.result asked c.in-Err.ensures.cause c.refuse_stop.ensures

pub returns-in-Ok-counts_text-clause-answer : goal.returns-in-Ok-counts_text-clause-answer
returns-in-Ok-counts_text-clause-answer g c = λ words asked.
    counts_answer words (g.S.Shelf.files c.args.shelf.now) (seen_pair_names c.args.names) (seen_pair c.in-Ok.contents) c.in-Ok-counts_text.text.items
    asked c.in-Ok.ensures.held c.in-Ok-counts_text.ensures.said (Output c.in-Ok-counts_text.text) refl refl

pub returns-in-Err-Broken-clause-answer : goal.returns-in-Err-Broken-clause-answer
returns-in-Err-Broken-clause-answer g c = λ words asked.
    let file = c.in-Err-Broken.file in
    let broken = c.in-Err-Broken.broken in
    let cause = rw c.in-Err-Broken.field-0-is at c.in-Err-Broken.ensures.refused in
    broken_check_answer words (g.S.Shelf.files c.args.shelf.now) (seen_pair_names c.args.names) (seen_pair c.in-Ok.contents) (seen_file file) broken c.refuse_broken.result
    asked c.in-Ok.ensures.held cause
    (subst (λ (name : List ℕ). IfOk c.refuse_broken.result (λ a. (status_of a ≡ 1) × (text_of a ≡ broken_line name broken))) c.pair_name_of.ensures c.refuse_broken.ensures.line)
