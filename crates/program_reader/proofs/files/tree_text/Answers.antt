use Rattle.std.proofs.Common.{List, ℕ, subst, Err, Ok}
use Rattle.ast_grammar.specs.FromBytes.{AnswersGrammar, ReadsGrammar}
use Rattle.run_io.specs.Fetched.{seen_pair}
use Rattle.program_reader.proofs.Answerable.{tree_allowed}
use Rattle.program_reader.proofs.Unread.{lone_grammar_refused, lone_tree_refused, source_there, text_said}
use Rattle.program_reader.proofs.files.tree_text.Goals as goal

pub returns-in-Err-clause-refused : goal.returns-in-Err-clause-refused
returns-in-Err-clause-refused c = lone_grammar_refused (seen_pair c.args.contents.now) c.in-Err.fault c.broken_file.result
    (subst (λ (b : List ℕ). AnswersGrammar b (Err c.in-Err.fault)) c.deref.ensures.value c.in-Err.ensures) c.broken_file.ensures

pub returns-in-Err-read_tree_bytes-clause-refused : goal.returns-in-Err-read_tree_bytes-clause-refused
returns-in-Err-read_tree_bytes-clause-refused c =
    let fault = c.in-Err-read_tree_bytes.fault in
    lone_tree_refused (seen_pair c.args.contents.now) fault c.broken_file-in-Err-read_tree_bytes.result c.read_tree_bytes.new.pool
    (subst (λ (b : List ℕ). ReadsGrammar b c.in-Ok.grammar) c.deref.ensures.value c.in-Ok.ensures)
    (source_there c.read_tree_bytes.new.pool c.in_ok-pool.ensures.said c.deref-2.ensures.value c.in-Ok.grammar (Err fault) c.in-Err-read_tree_bytes.ensures.says)
    c.broken_file-in-Err-read_tree_bytes.ensures

pub write_tree-requires : goal.write_tree-requires
write_tree-requires c = tree_allowed c.in-Ok-read_tree_bytes.ensures.says

pub returns-clause-said : goal.returns-clause-said
returns-clause-said c = text_said (seen_pair c.args.contents.now) c.or_refused.result c.write_tree.result
    (subst (λ (b : List ℕ). ReadsGrammar b c.in-Ok.grammar) c.deref.ensures.value c.in-Ok.ensures)
    (source_there c.read_tree_bytes.new.pool c.in_ok-pool.ensures.said c.deref-2.ensures.value c.in-Ok.grammar (Ok c.in-Ok-read_tree_bytes.tree) c.in-Ok-read_tree_bytes.ensures.says)
    (tree_allowed c.in-Ok-read_tree_bytes.ensures.says) c.write_tree.ensures c.or_refused.ensures.said
