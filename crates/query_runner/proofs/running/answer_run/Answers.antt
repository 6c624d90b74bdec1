-- Each end of a run has its answer.
use Rattle.std.proofs.Common.{◌≡◌, ℕ, List, ◌++◌, Err, IfOk, ap, codes, refl, subst}
use Rattle.equation_law.specs.Systems.{program_of}
use Rattle.query_runner.specs.Answered.{status_of, text_of}
use Rattle.run_io.specs.Fetched.{seen_contents}
use Rattle.run_io.specs.Named.{seen_file, seen_names}
use Rattle.query_runner.specs.Output.{broken_line}
use Rattle.run_io.specs.Words.{Run}
use Rattle.query_runner.specs.declared.running.Answer.TheVariants.{Output}
use Rattle.equation_law.proofs.Pooled.{texts_pooled}
use Rattle.program_reader.proofs.Answerable.{is_program, said_alone}
use Rattle.query_runner.proofs.Preparing.{broken_answer, full_answer, reply_answer, stop_answer, unbuilt_answer}
use Rattle.query_runner.proofs.running.answer_run.Goals as goal

pub returns-in-Err-clause-answer : goal.returns-in-Err-clause-answer
returns-in-Err-clause-answer g c = λ words asked.
    stop_answer words (g.S.Shelf.files c.args.shelf.now) (Run (seen_names c.args.names)) _ _ c.in-Err.stop c.refuse_stop.result asked c.in-Err.ensures.cause c.refuse_stop.ensures

pub reply_lines-requires-clause-program : goal.reply_lines-requires-clause-program
reply_lines-requires-clause-program g c = λ lifetimes among. is_program (seen_contents c.in-Ok.contents) (program_of c.in-Ok-read_system.system) c.in-Ok-read_system.ensures.said (texts_pooled c.in-Ok-read_system.system)

pub reply_lines-requires-clause-sources : goal.reply_lines-requires-clause-sources
reply_lines-requires-clause-sources g c = λ lifetimes among. said_alone (seen_contents c.in-Ok.contents) (program_of c.in-Ok-read_system.system) c.in-Ok-read_system.ensures.said

pub returns-in-Ok-reply_lines-clause-answer : goal.returns-in-Ok-reply_lines-clause-answer
returns-in-Ok-reply_lines-clause-answer g c = λ words asked.
    reply_answer words (g.S.Shelf.files c.args.shelf.now) (seen_names c.args.names) (seen_contents c.in-Ok.contents) (program_of c.in-Ok-read_system.system) c.in-Ok-reply_lines.text.items
    asked c.in-Ok.ensures.held c.in-Ok-read_system.ensures.said c.in-Ok-reply_lines.ensures.replies (Output c.in-Ok-reply_lines.text) refl refl

pub returns-in-Err-Broken-clause-answer : goal.returns-in-Err-Broken-clause-answer
returns-in-Err-Broken-clause-answer g c = λ words asked.
    let file = c.in-Err-Broken.file in
    let broken = c.in-Err-Broken.broken in
    let cause = rw c.in-Err-Broken.field-0-is at c.in-Err-Broken.ensures.refused in
    broken_answer words (g.S.Shelf.files c.args.shelf.now) (seen_names c.args.names) (seen_contents c.in-Ok.contents) (seen_file file) broken c.refuse_broken.result
    asked c.in-Ok.ensures.held cause
    (subst (λ (name : List ℕ). IfOk c.refuse_broken.result (λ a. (status_of a ≡ 1) × (text_of a ≡ broken_line name broken))) c.name_of.ensures c.refuse_broken.ensures.line)

pub returns-clause-answer : goal.returns-clause-answer
returns-clause-answer g c = λ words asked.
    let file = c.in-Err-NotBuilt.file in
    let cause = rw c.in-Err-NotBuilt.field-0-is at c.in-Err-NotBuilt.ensures.refused in
    unbuilt_answer words (g.S.Shelf.files c.args.shelf.now) (seen_names c.args.names) (seen_contents c.in-Ok.contents) (seen_file file) c.refuse.result
    asked c.in-Ok.ensures.held cause
    (subst (λ (name : List ℕ). IfOk c.refuse.result (λ a. (status_of a ≡ 1) × (text_of a ≡ name ++ codes ": not built\n"))) c.name_of-in-Err-NotBuilt.ensures c.refuse.ensures.line)

pub returns-in-Err-Cells-clause-answer : goal.returns-in-Err-Cells-clause-answer
returns-in-Err-Cells-clause-answer g c = λ words asked.
    full_answer words (g.S.Shelf.files c.args.shelf.now) (seen_names c.args.names) (seen_contents c.in-Ok.contents) (program_of c.in-Ok-read_system.system)
    asked c.in-Ok.ensures.held c.in-Ok-read_system.ensures.said (c.in-Err-Cells.ensures.full (ap Err c.in-Err-Cells.field-0-is))
