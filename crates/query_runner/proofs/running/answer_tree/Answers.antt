-- Each end of the printing of a tree has its answer.
use Rattle.std.proofs.Common.{◌≡◌, ℕ, List, IfOk, refl, subst}
use Rattle.query_runner.specs.Answered.{status_of, text_of}
use Rattle.run_io.specs.Fetched.{seen_pair}
use Rattle.run_io.specs.Named.{seen_file, seen_pair_names}
use Rattle.query_runner.specs.Output.{broken_line}
use Rattle.run_io.specs.Words.{PrintTree}
use Rattle.query_runner.specs.declared.running.Answer.TheVariants.{Output}
use Rattle.query_runner.proofs.Preparing.{broken_tree_answer, stop_answer, tree_answer}
use Rattle.query_runner.proofs.running.answer_tree.Goals as goal

pub returns-in-Err-clause-answer : goal.returns-in-Err-clause-answer
returns-in-Err-clause-answer g c = λ words asked.
    stop_answer words (g.S.Shelf.files c.args.shelf.now) (PrintTree (seen_pair_names c.args.names)) _ _ c.in-Err.stop c.refuse_stop.result asked c.in-Err.ensures.cause c.refuse_stop.ensures

pub returns-in-Ok-tree_text-clause-answer : goal.returns-in-Ok-tree_text-clause-answer
returns-in-Ok-tree_text-clause-answer g c = λ words asked.
    tree_answer words (g.S.Shelf.files c.args.shelf.now) (seen_pair_names c.args.names) (seen_pair c.in-Ok.contents) c.in-Ok-tree_text.text.items
    asked c.in-Ok.ensures.held c.in-Ok-tree_text.ensures.said (Output c.in-Ok-tree_text.text) refl refl

pub returns-in-Err-Broken-clause-answer : goal.returns-in-Err-Broken-clause-answer
returns-in-Err-Broken-clause-answer g c = λ words asked.
    let file = c.in-Err-Broken.file in
    let broken = c.in-Err-Broken.broken in
    let cause = rw c.in-Err-Broken.field-0-is at c.in-Err-Broken.ensures.refused in
    broken_tree_answer words (g.S.Shelf.files c.args.shelf.now) (seen_pair_names c.args.names) (seen_pair c.in-Ok.contents) (seen_file file) broken c.refuse_broken.result
    asked c.in-Ok.ensures.held cause
    (subst (λ (name : List ℕ). IfOk c.refuse_broken.result (λ a. (status_of a ≡ 1) × (text_of a ≡ broken_line name broken))) c.pair_name_of.ensures c.refuse_broken.ensures.line)
