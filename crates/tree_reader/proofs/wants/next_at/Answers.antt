use Rattle.std.proofs.Common.{arith}
use Rattle.ast_grammar.specs.Grammar.{components_of}
use Rattle.tree_reader.proofs.Wanting.{next_dropped}
use Rattle.tree_reader.proofs.wants.next_at.Goals as goal

pub returns-then-k-arity_of : goal.returns-then-k-arity_of
returns-then-k-arity_of c = next_dropped (components_of c.args.grammar.now c.args.class.0) c.args.k (omega arith)
