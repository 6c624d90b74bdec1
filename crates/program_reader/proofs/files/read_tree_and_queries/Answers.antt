use Rattle.std.proofs.Common.{List, ℕ, Option, Some, None, refl, subst, Err, Ok}
use Rattle.attr_equations.specs.Kept.{rules_in}
use Rattle.equation_law.specs.declared.system.Queries.{Queries}
use Rattle.program_reader.specs.Built.{AnswersAsked}
use Rattle.program_reader.proofs.Unread.{queries_refused, source_there, tree_refused}
use Rattle.run_io.specs.Fetched.{seen_contents}
use Rattle.program_reader.proofs.files.read_tree_and_queries.Goals as goal

pub returns-in-Err-clause-refused : goal.returns-in-Err-clause-refused
returns-in-Err-clause-refused c =
    let fault = c.in-Err.fault in
    tree_refused (seen_contents c.args.contents.now) c.args.grammar.now (rules_in c.args.rules.now) c.args.pool.now fault c.broken_file.result c.read_tree_bytes.new.pool
    (source_there c.read_tree_bytes.new.pool refl c.deref.ensures.value c.args.grammar.now (Err fault) c.in-Err.ensures.says) c.broken_file.ensures

pub returns-in-None-clause-refused : goal.returns-in-None-clause-refused
returns-in-None-clause-refused c =
    let g = c.args.grammar.now in
    let tree = c.in-Ok.tree in
    let rules = rules_in c.args.rules.now in
    let asked = subst (λ (o : Option Queries). AnswersAsked g rules tree c.deref-2.result.now (Ok o)) c.in-None.is c.in_ok-queries.ensures in
    queries_refused (seen_contents c.args.contents.now) g rules c.args.pool.now
    (source_there c.read_tree_bytes.new.pool refl c.deref.ensures.value g (Ok tree) c.in-Ok.ensures.says)
    (subst (λ (b : List ℕ). AnswersAsked g rules tree b (Ok None)) c.deref-2.ensures.value asked)

pub returns-in-Some-clause-said : goal.returns-in-Some-clause-said
returns-in-Some-clause-said c =
    let g = c.args.grammar.now in
    let tree = c.in-Ok.tree in
    let rules = rules_in c.args.rules.now in
    let asked = subst (λ (o : Option Queries). AnswersAsked g rules tree c.deref-2.result.now (Ok o)) c.in-Some.is c.in_ok-queries.ensures in
    record {
      nodes = source_there c.read_tree_bytes.new.pool refl c.deref.ensures.value g (Ok tree) c.in-Ok.ensures.says;
      queries = subst (λ (b : List ℕ). AnswersAsked g rules tree b (Ok (Some c.in-Some.queries))) c.deref-2.ensures.value asked;
    }
