use Rattle.rag_tests.proofs.FromParts.{tree_from}
use Rattle.rag_tests.proofs.programs.tree_said.Goals as goal

pub returns : goal.returns
returns c = tree_from c.args.grammar.now _ _ _ c.read_tree_bytes.result c.read_tree_bytes.ensures.says
