use Rattle.ast_grammar.proofs.OneGrammar.{one_broken, one_said_grammar, said_or_broken}
use Rattle.ast_grammar.proofs.laws.one_grammar.Goals as goal

pub returns-clause-grammar : goal.returns-clause-grammar
returns-clause-grammar c = one_said_grammar

pub returns-clause-broken : goal.returns-clause-broken
returns-clause-broken c = one_broken

pub returns-clause-either : goal.returns-clause-either
returns-clause-either c = said_or_broken
