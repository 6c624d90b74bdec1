use Rattle.ast_grammar.specs.Grammar.{components_of}
use Rattle.tree_reader.proofs.Wanting.{wanted_dropped}
use Rattle.tree_reader.proofs.wants.wanted_at.Goals as goal

pub returns-then-k-arity_of : goal.returns-then-k-arity_of
returns-then-k-arity_of c = wanted_dropped (components_of c.args.grammar.now c.args.class.0) c.args.k c.component-component.result.now c.component-component.ensures
