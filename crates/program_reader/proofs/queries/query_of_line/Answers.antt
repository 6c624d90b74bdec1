use Rattle.std.proofs.Common.{List, subst}
use Rattle.rag_io.specs.declared.token.Token.{Token}
use Rattle.rag_io.specs.Tokens.{seen_tokens}
use Rattle.attr_equations.specs.Kept.{rules_in}
use Rattle.program_reader.specs.QuerySteps.{AnswersQuery}
use Rattle.program_reader.proofs.SayingQueries.{line_by, no_line}
use Rattle.program_reader.proofs.queries.query_of_line.Goals as goal

pub returns-in-Ok : goal.returns-in-Ok
returns-in-Ok c =
    let rules = rules_in c.args.rules.now in
    let tree = c.args.tree.now in
    line_by c.args.grammar.now rules tree c.query_of_tokens.result c.in-Ok.ensures (subst (λ (x : List Token). AnswersQuery c.args.grammar.now rules tree (seen_tokens x) c.query_of_tokens.result) c.deref.ensures.value c.query_of_tokens.ensures)

pub returns-in-Err-Bad : goal.returns-in-Err-Bad
returns-in-Err-Bad c = no_line c.args.grammar.now (rules_in c.args.rules.now) c.args.tree.now (rw c.in-Err-Bad.field-0-is at c.in-Err-Bad.ensures)
