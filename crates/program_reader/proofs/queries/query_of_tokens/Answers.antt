use Rattle.std.proofs.Common.{sym, subst}
use Rattle.rag_io.specs.Tokens.{seen_tokens}
use Rattle.attr_equations.specs.Kept.{rules_in}
use Rattle.program_reader.specs.QuerySteps.{AnswersQuery}
use Rattle.program_reader.proofs.SayingQueries.{query_by}
use Rattle.program_reader.proofs.queries.query_of_tokens.Goals as goal
use Rattle.program_reader.proofs.queries.query_of_tokens.Goals.{in-Some, in-None}

pub returns : goal.returns
returns c =
    let rules = rules_in c.args.rules.now in
    let tree = c.args.tree.now in
    let ts = seen_tokens c.args.tokens.now in
    elim c.match-branch-2.branch [
      | in-Some w ↦
          let sentence = rw w.in-Some.is at c.in_ok-sentence.ensures in
          subst (AnswersQuery c.args.grammar.now rules tree ts) (sym w.result-is) (query_by c.args.grammar.now rules tree ts w.call.result sentence w.call.ensures)
      | in-None w ↦
          let none = rw w.in-None.is at c.in_ok-sentence.ensures in
          subst (AnswersQuery c.args.grammar.now rules tree ts) (sym w.result-is) (λ e says. none says.events says.sentence.runs)
    ]
