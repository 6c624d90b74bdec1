use Rattle.std.proofs.Common.{List, ℕ, sym, subst, Err, Ok}
use Rattle.attr_equations.specs.Kept.{rules_in}
use Rattle.ast_grammar.specs.FromBytes.{AnswersGrammar, ReadsGrammar}
use Rattle.program_reader.specs.Built.{IsRefusal}
use Rattle.program_reader.specs.Files.{SaysProgram}
use Rattle.program_reader.proofs.Answerable.{superclasses_in}
use Rattle.program_reader.proofs.Unread.{aspects_refused, aspects_there, few_queries, grammar_refused, tree_or_queries_refused}
use Rattle.run_io.proofs.Stopping.{handed_on}
use Rattle.run_io.specs.Fetched.{seen_contents}
use Rattle.program_reader.proofs.files.read_system.Goals as goal

pub returns-in-Err-clause-refused : goal.returns-in-Err-clause-refused
returns-in-Err-clause-refused c = grammar_refused (seen_contents c.args.contents.now) c.in-Err.fault c.broken_file.result
    (subst (λ (b : List ℕ). AnswersGrammar b (Err c.in-Err.fault)) c.deref.ensures.value c.in-Err.ensures) c.broken_file.ensures

pub returns-in-Err-read_aspects-clause-refused : goal.returns-in-Err-read_aspects-clause-refused
returns-in-Err-read_aspects-clause-refused c =
    let unread = c.in-Err-read_aspects.unread in
    aspects_refused (seen_contents c.args.contents.now) unread c.refusal_of.result c.read_aspects.new.pool
    (subst (λ (b : List ℕ). ReadsGrammar b c.in-Ok.grammar) c.deref.ensures.value c.in-Ok.ensures)
    (aspects_there c.in-Ok.grammar c.read_aspects.new.pool c.in_ok-pool.ensures.said c.deref-2.ensures.value (Err unread) c.in-Err-read_aspects.ensures)
    c.refusal_of.ensures

pub read_tree_and_queries-requires-clause-classes : goal.read_tree_and_queries-requires-clause-classes
read_tree_and_queries-requires-clause-classes c =
    let read = c.in-Ok-read_aspects.ensures in
    superclasses_in (rules_in c.in-Ok-read_aspects.rules) c.in-Ok.grammar read.written read.makes.are

pub returns-in_err-tree-clause-refused : goal.returns-in_err-tree-clause-refused
returns-in_err-tree-clause-refused c =
    let said = aspects_there c.in-Ok.grammar c.read_aspects.new.pool c.in_ok-pool.ensures.said c.deref-2.ensures.value (Ok c.in-Ok-read_aspects.rules) c.in-Ok-read_aspects.ensures in
    handed_on c.from_residual-in_err-tree.result (IsRefusal (seen_contents c.args.contents.now)) c.from_residual-in_err-tree.ensures
    (tree_or_queries_refused (seen_contents c.args.contents.now) c.in_err-tree.field-0.0
    (subst (λ (b : List ℕ). ReadsGrammar b c.in-Ok.grammar) c.deref.ensures.value c.in-Ok.ensures) said c.in_err-tree.ensures.refused)

pub new-requires : goal.new-requires
new-requires c = few_queries c.in_ok-tree.ensures.said.queries

pub returns-clause-said : goal.returns-clause-said
returns-clause-said c =
    let said = aspects_there c.in-Ok.grammar c.read_aspects.new.pool c.in_ok-pool.ensures.said c.deref-2.ensures.value (Ok c.in-Ok-read_aspects.rules) c.in-Ok-read_aspects.ensures in
    subst (SaysProgram (seen_contents c.args.contents.now)) (sym c.in_ok-new.ensures) (record {
      written = said.written;
      between = c.read_aspects.new.pool;
      grammar = subst (λ (b : List ℕ). ReadsGrammar b c.in-Ok.grammar) c.deref.ensures.value c.in-Ok.ensures;
      aspects = said.aspects;
      accepted = said.makes.accepted;
      rules = said.makes.are;
      tree = c.in_ok-tree.ensures.said.nodes;
      queries = c.in_ok-tree.ensures.said.queries;
    })
